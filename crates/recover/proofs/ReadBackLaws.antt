-- What is found of an image's entries, and what the image has there.
use Rattle.std.proofs.Common.{◌≡◌, ℕ, zero, suc, ◌+◌, ◌-◌, ◌*◌, ◌/◌, ◌%◌, ◌<◌, ◌≤◌, ◌==◌, ◌&&◌, nat_le, Bool, true, false, cond, List, [], ◌∷◌, ◌++◌, length, drop, map, Option, Some, None, refl, sym, ◌∙◌, ap, subst, arith}
use Rattle.std.specs.Prelude.{Result, Ok, Err}
use Rattle.std.proofs.lemmas.Nat.{div-mul-add, mod-mul-add}
use Rattle.std.proofs.lemmas.Bool.{leb-true, and_parts}
use Rattle.std.specs.List.{flat_map, AllByRecursion}
use Rattle.pm_region.specs.State.{Frame}
use Rattle.log_entry.specs.declared.entry.Entry.{Entry}
use Rattle.log_entry.specs.Spelling.{words_of, HasSpelling}
use Rattle.log_entry.specs.Words.{words_from}
use Rattle.log_entry.specs.Batches.{Scan, scan_of}
use Rattle.log_entry.proofs.Clients.{scan_spelled}
use Rattle.chunk_map.specs.declared.layouts.Geometry.{Geometry}
use Rattle.chunk_map.specs.declared.heads.Head.{Head}
use Rattle.chunk_map.specs.declared.heads.Head.TheVariants.{Free, Log, Data}
use Rattle.chunk_map.specs.Layouts.{numbers, chunk_words, payload_words, chunk_first, head_at, is_class}
use Rattle.store_image.specs.declared.types.PlacedEntry.{PlacedEntry}
use Rattle.store_image.specs.Parts.{payload, scan_behind, placed_in_chunk, chunk_entries, part_entries, all_entries}
use Rattle.core_log.specs.Log as log
use Rattle.core_log.proofs.Clients.{spelled_by, placed_items, HaveSpelling, items_of, items_spelled, items_placed, items_have, drop_behind, first_is, Spells, entry_fits, entry_words}
use Rattle.recover.specs.declared.found_entries.Found.{Found}
use Rattle.recover.specs.Regions.{Covers}
use Rattle.recover.specs.Logs.{SpellsLog}
use Rattle.recover.specs.Gathering.{AllSpell}
use Rattle.recover.specs.FoundEntries.{body_at, core_at, chunk_there, place_there, entry_at, placed_at, entries_at, Stands, AreFound, found_of}
use Rattle.recover.proofs.RegionLaws.{payload_lies}
use Rattle.recover.proofs.StandsLaws.{body_there}

-- what holds of each, and what follows of each
pub all_implies : {X : Type 0} (P Q : X → Type 0) → ((x : X) → P x → Q x) → (xs : List X) → AllByRecursion P xs → AllByRecursion Q xs
all_implies P Q f [] all = tt
all_implies P Q f (x ∷ xs) all = (f x all.0, all_implies P Q f xs all.1)

pub all_append : {X : Type 0} (P : X → Type 0) (xs ys : List X) → AllByRecursion P xs → AllByRecursion P ys → AllByRecursion P (xs ++ ys)
all_append P [] ys a b = b
all_append P (x ∷ xs) ys a b = (a.0, all_append P xs ys a.1 b)

all_flat : {X : Type 0} (P : X → Type 0) (h : ℕ → List X) (from n : ℕ) → ((i : ℕ) → from ≤ i → i < from + n → AllByRecursion P (h i)) → AllByRecursion P (flat_map h (numbers from n))
all_flat P h from zero each = tt
all_flat P h from (suc n) each = all_append P (h from) (flat_map h (numbers (suc from) n)) (each from (omega arith) (omega arith)) (all_flat P h (suc from) n (λ i low high. each i (omega (arith, low)) (omega (arith, high))))

-- each entry of a list of batches is spelled at its place
shifted : (front ws : List ℕ) (p : ℕ) (x : ℕ × Entry) → Spells ws (p + length front) x → Spells (front ++ ws) p x
shifted front ws p x s =
    let low = s.low in
    record { low = omega (arith, low); spelling = s.spelling; rest = s.rest; words = drop_behind front ws (x.0 - p) (x.0 - (p + length front)) (omega (arith, low)) ∙ s.words }

all_spell : (is : List (Option Entry)) (p : ℕ) → HaveSpelling is → AllByRecursion (Spells (spelled_by is) p) (placed_items p is)
all_spell [] p have = tt
all_spell (None ∷ is) p have = all_implies (Spells (spelled_by is) (p + 1)) (Spells (0 ∷ spelled_by is) p) (λ x s. shifted (0 ∷ []) (spelled_by is) p x s) (placed_items (p + 1) is) (all_spell is (p + 1) have)
all_spell (Some e ∷ is) p have =
    let none : p - p ≡ 0 = omega arith in (
      record { low = omega arith; spelling = have.0; rest = spelled_by is; words = ap (λ (n : ℕ). drop n (words_of e ++ spelled_by is)) none },
      all_implies (Spells (spelled_by is) (p + length (words_of e))) (Spells (words_of e ++ spelled_by is) p) (λ x s. shifted (words_of e) (spelled_by is) p x s) (placed_items (p + length (words_of e)) is) (all_spell is (p + length (words_of e)) have.1),
    )

scan_spells : (ws : List ℕ) → log.Spelled ws → AllByRecursion (Spells ws 0) (scan_of ws).entries
scan_spells ws spelled =
    let items = items_of spelled.batches in
    let words_are : spelled_by items ≡ ws = items_spelled spelled.batches ∙ sym spelled.spelled.words in
    let entries_are : placed_items 0 items ≡ (scan_of ws).entries = items_placed spelled.batches 0 ∙ sym (ap (λ (s : Scan). s.entries) (scan_spelled ws spelled.batches spelled.spelled)) in
    subst (λ (xs : List (ℕ × Entry)). AllByRecursion (Spells ws 0) xs) entries_are
    (subst (λ (l : List ℕ). AllByRecursion (Spells l 0) (placed_items 0 items)) words_are (all_spell items 0 (items_have spelled.batches spelled.spelled.each)))

-- a log's tail lies in its chunk
log_by : (l : Geometry) (t tail class : ℕ) (a b c d : Bool) → d ≡ (t % 8 == 0 && nat_le t (payload_words l)) → cond {A = Result Head ℕ} a (Ok Free) (cond b (cond d (Ok (Log t)) (Err 5)) (cond c (Ok (Data class)) (Err 4))) ≡ Ok (Log tail) → tail ≤ payload_words l
log_by l t tail class true b c d fits is = absurd (cc is)
log_by l t tail class false true c true fits is =
    let same : t ≡ tail = cc is in
    let low = leb-true t (payload_words l) (and_parts (t % 8 == 0) (nat_le t (payload_words l)) (sym fits)).1 in
    subst (λ n. n ≤ payload_words l) same low
log_by l t tail class false true c false fits is = absurd (cc is)
log_by l t tail class false false true d fits is = absurd (cc is)
log_by l t tail class false false false d fits is = absurd (cc is)

pub tail_fits : (l : Geometry) (image : ℕ → ℕ) (at tail : ℕ) → head_at l image at ≡ Ok (Log tail) → tail ≤ payload_words l
tail_fits l image at tail is = log_by l (image (at + 1)) tail (image at / 256) (image at == 0) (image at == 1) (image at % 256 == 2 && is_class l (image at / 256)) (image (at + 1) % 8 == 0 && nat_le (image (at + 1)) (payload_words l)) refl is

-- an entry is where it was found, and is what the image has there
pub record IsBack (l : Geometry) (image : ℕ → ℕ) (x : PlacedEntry) : Type 0 where
  pub stands : Stands l image (found_of l x)
  pub back : placed_at l image (found_of l x) ≡ x

module _ (f : Frame) (l : Geometry) (covers : Covers f l) (image : ℕ → ℕ) (c j : ℕ) (part : c < l.cores) (chunk : j < l.chunks) where
  -- a word of the chunk's payload
  module _ (p : ℕ) (within : p < payload_words l) where
    at : ℕ
    at = chunk_first l c j + 32 + p

    in_words : 32 + p < chunk_words l
    in_words = omega (arith, within)

    number : (at - 512) / chunk_words l ≡ c * l.chunks + j
    unfolding at
    number =
        let e : at - 512 ≡ (c * l.chunks + j) * chunk_words l + (32 + p) = omega arith in
        ap (λ n. n / chunk_words l) e ∙ div-mul-add (c * l.chunks + j) (chunk_words l) (32 + p) in_words

    pub core_is : core_at l (chunk_first l c j + 32 + p) ≡ c
    unfolding core_at at
    core_is = ap (λ n. n / l.chunks) number ∙ div-mul-add c l.chunks j chunk

    pub chunk_is : chunk_there l (chunk_first l c j + 32 + p) ≡ j
    unfolding chunk_there at
    chunk_is = ap (λ n. n % l.chunks) number ∙ mod-mul-add c l.chunks j chunk

    pub place_is : place_there l (chunk_first l c j + 32 + p) ≡ p
    unfolding place_there at
    place_is =
        let e : at - 512 ≡ (c * l.chunks + j) * chunk_words l + (32 + p) = omega arith in
        let m = mod-mul-add (c * l.chunks + j) (chunk_words l) (32 + p) in_words in
        ap (λ n. n % chunk_words l - 32) e ∙ (let r : (32 + p) - 32 ≡ p = omega arith in ap (λ n. n - 32) m ∙ r)

  -- an entry of the payload up to a tail
  entry_back : (tail : ℕ) → tail ≤ payload_words l → (x : ℕ × Entry) → Spells (payload image (chunk_first l c j) tail) 0 x → IsBack l image (record { core = c; chunk = j; place = x.0; entry = x.1 })
  entry_back tail fits x s =
      let first = chunk_first l c j + 32 in
      let end = entry_fits image first tail x s in
      let words = entry_words image first tail x s in
      let some = (first_is x.1).0 in
      let low : x.0 < payload_words l = omega (arith, end, fits, some) in
      let lies = (payload_lies f l covers c j tail part chunk fits).0 in
      let zero_first = covers.first in
      let total = covers.words in
      let body : body_at image (first + x.0) ≡ x.1.body = body_there image (first + x.0) x.1 s.spelling words in
      let entry : entry_at image (found_of l (record { core = c; chunk = j; place = x.0; entry = x.1 })) ≡ x.1 = λ i. record { key = x.1.key; version = x.1.version; body = body i } in
      record {
        stands = record {
          within = let size = ap (λ e. length (words_of e)) entry in omega (arith, size, end, lies, zero_first, total);
          spelling = subst HasSpelling (sym entry) s.spelling;
          words = subst (λ e. words_from image (first + x.0) (length (words_of e)) ≡ words_of e) (sym entry) words;
        };
        back = λ i. record { core = core_is x.0 low i; chunk = chunk_is x.0 low i; place = place_is x.0 low i; entry = entry i };
      }

  placed_back : (tail : ℕ) → tail ≤ payload_words l → (xs : List (ℕ × Entry)) → AllByRecursion (Spells (payload image (chunk_first l c j) tail) 0) xs → AllByRecursion (IsBack l image) (placed_in_chunk c j xs)
  placed_back tail fits [] all = tt
  placed_back tail fits (x ∷ xs) all = (entry_back tail fits x all.0, placed_back tail fits xs all.1)

  chunk_back : SpellsLog l image c j → AllByRecursion (IsBack l image) (chunk_entries l image c j)
  chunk_back spells = by_head (head_at l image (chunk_first l c j)) refl where
    by_head : (h : Result Head ℕ) → head_at l image (chunk_first l c j) ≡ h → AllByRecursion (IsBack l image) (placed_in_chunk c j (scan_behind image (chunk_first l c j) h).entries)
    by_head (Ok Free) is = tt
    by_head (Ok (Log tail)) is = placed_back tail (tail_fits l image (chunk_first l c j) tail is) (scan_of (payload image (chunk_first l c j) tail)).entries (scan_spells (payload image (chunk_first l c j) tail) (spells tail is))
    by_head (Ok (Data class)) is = tt
    by_head (Err rule) is = tt

pub all_back : (f : Frame) (l : Geometry) → Covers f l → (image : ℕ → ℕ) → AllSpell l image → AllByRecursion (IsBack l image) (all_entries l image)
all_back f l covers image spell =
    all_flat (IsBack l image) (part_entries l image) 0 l.cores
    (λ c low part. all_flat (IsBack l image) (chunk_entries l image c) 0 l.chunks
    (λ j low chunk. chunk_back f l covers image c j (omega (arith, part)) (omega (arith, chunk)) (spell c j (omega (arith, part)) (omega (arith, chunk)))))

-- so what is found leads back to the entries
back_entries : (l : Geometry) (image : ℕ → ℕ) (es : List PlacedEntry) → AllByRecursion (IsBack l image) es → entries_at l image (map (found_of l) es) ≡ es
back_entries l image [] all = refl
back_entries l image (x ∷ es) all = (λ i. all.0.back i ∷ back_entries l image es all.1 i)

back_stands : (l : Geometry) (image : ℕ → ℕ) (es : List PlacedEntry) → AllByRecursion (IsBack l image) es → AreFound l image (map (found_of l) es)
back_stands l image [] all = tt
back_stands l image (x ∷ es) all = (all.0.stands, back_stands l image es all.1)

module _ (f : Frame) (l : Geometry) (covers : Covers f l) (image : ℕ → ℕ) (spell : AllSpell l image) (fs : List Found) (is : fs ≡ map (found_of l) (all_entries l image)) where
  pub found_back : entries_at l image fs ≡ all_entries l image
  found_back = ap (entries_at l image) is ∙ back_entries l image (all_entries l image) (all_back f l covers image spell)

  pub found_stand : AreFound l image fs
  found_stand = subst (AreFound l image) (sym is) (back_stands l image (all_entries l image) (all_back f l covers image spell))
