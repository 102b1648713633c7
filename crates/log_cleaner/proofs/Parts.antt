-- What a part of an image has, chunk by chunk, and the chunks of a log.
use Rattle.std.proofs.Common.{◌≡◌, ◌≢◌, ◌⊎◌, inl, inr, ⊎_elim, ℕ, zero, suc, ◌+◌, ◌*◌, ◌/◌, ◌%◌, ◌≤◌, ◌<◌, ◌==◌, ◌&&◌, ◌||◌, Bool, true, false, cond, List, [], ◌∷◌, map, Option, Some, None, is_some, unwrap_or, Result, Ok, Err, nat_le, refl, sym, ◌∙◌, ap, subst, arith}
use Rattle.std.specs.List.{flat_map, list_all, count_by}
use Rattle.std.proofs.lemmas.Bool.{cond-true, eqb-true, eq-eqb, and_parts, and_from, cases_eq}
use Rattle.std.proofs.lemmas.List.{map-append}
use Rattle.std.proofs.lemmas.List.Sums.{sum_by-cons}
use Rattle.pm_region.specs.Cell.{Cell}
use Rattle.pm_region.specs.State.{State, IsTelling, cell_now, During}
use Rattle.pm_region.specs.Words.{KeepsOutside, MayLeaveIn, lasts}
use Rattle.pm_region.proofs.Clients.{at_exit, may_be_last, patch, patch_out, was_image}
use Rattle.chunk_map.specs.declared.layouts.Geometry.{Geometry}
use Rattle.chunk_map.specs.declared.heads.Head.{Head}
use Rattle.chunk_map.specs.declared.heads.Head.TheVariants.{Log, Data}
use Rattle.chunk_map.specs.Layouts.{numbers, chunk_words, payload_words, part_first, chunk_first, head_by, head_at}
use Rattle.chunk_map.proofs.Clients.{numbers_of, chunk_words_whole, chunks_apart, chunk_in_part}
use Rattle.log_entry.specs.declared.entry.Entry.{Entry}
use Rattle.log_entry.specs.Batches.{Scan, scan_of}
use Rattle.log_entry.proofs.Clients.{words_same, scan_spelled}
use Rattle.store_image.specs.declared.types.PlacedEntry.{PlacedEntry}
use Rattle.store_image.specs.Parts.{placed_in_chunk, chunk_entries, chunk_reads, reads, head_reads, scan_behind, chunk_at, unit_at, class_behind, block_class, value_by_class, value_in_block}
use Rattle.store_image.proofs.Clients.{chunk_of as in_chunk, block_lies, held_same, Numbers, layout_numbers, in_front, in_back, in_either, chunk_same, reads_same, head_same}
use Rattle.store_image.specs.Facts.{In}
use Rattle.core_log.specs.declared.types.LogChunk.{LogChunk}
use Rattle.core_log.specs.Chunk.{words_now, HasLog}
use Rattle.core_log.specs.Log.{LogState, StandsIn, IsRising, IsChunkOf, Spelled, tail_of, without, tail_in, first_of, chunk_with}
use Rattle.core_log.specs.Walking.{entries_in}
use Rattle.core_log.proofs.Clients.{log_reads, own_chunk, tail_fits, kept_last, entries_read, head_of, is_tail}
use Rattle.log_standing.specs.ChunkCounts.{is_named, has_name}
use Rattle.log_cleaner.specs.ImagesBeside.{Stands}
use Rattle.log_standing.proofs.Clients.{same_name, name_same}

-- the entry stands in chunk j of the part
abbrev pub StandsAt : LogState → (ℕ → ℕ) → ℕ → Entry → Type 0
StandsAt log image j e = In e (map (λ (x : PlacedEntry). x.entry) (chunk_entries log.layout image log.part j))

-- Entries of a list of chunks.
module _ (f : ℕ → List PlacedEntry) (e : Entry) where
  within : (from n k : ℕ) → from ≤ k → k < from + n → In e (map (λ (x : PlacedEntry). x.entry) (f k)) → In e (map (λ (x : PlacedEntry). x.entry) (flat_map f (numbers from n)))
  within from zero k low high is = absurd (omega (arith, low, high))
  within from (suc n) k low high is =
      subst (In e) (sym (map-append (λ (x : PlacedEntry). x.entry) (f from) (flat_map f (numbers (suc from) n))))
      (⊎_elim
      (λ (here : from ≡ k). in_front e (map (λ (x : PlacedEntry). x.entry) (f from)) (map (λ (x : PlacedEntry). x.entry) (flat_map f (numbers (suc from) n))) (subst (λ (i : ℕ). In e (map (λ (x : PlacedEntry). x.entry) (f i))) (sym here) is))
      (λ (ne : from ≢ k). in_back e (map (λ (x : PlacedEntry). x.entry) (f from)) (map (λ (x : PlacedEntry). x.entry) (flat_map f (numbers (suc from) n))) (within (suc from) n k (omega (arith, low, ne)) (omega (arith, high)) is))
      (cases_eq from k))

  pub record Somewhere (from n : ℕ) : Type 0 where
    pub chunk : ℕ
    pub low : from ≤ chunk
    pub high : chunk < from + n
    pub at : In e (map (λ (x : PlacedEntry). x.entry) (f chunk))

  somewhere : (from n : ℕ) → In e (map (λ (x : PlacedEntry). x.entry) (flat_map f (numbers from n))) → Somewhere from n
  somewhere from zero is = absurd is
  somewhere from (suc n) is = ⊎_elim
      (λ here. record { chunk = from; low = omega arith; high = omega arith; at = here })
      (λ later. let s = somewhere (suc from) n later in let low = s.low in let high = s.high in record { chunk = s.chunk; low = omega (arith, low); high = omega (arith, high); at = s.at })
      (in_either e (map (λ (x : PlacedEntry). x.entry) (f from)) (map (λ (x : PlacedEntry). x.entry) (flat_map f (numbers (suc from) n)))
      (subst (In e) (map-append (λ (x : PlacedEntry). x.entry) (f from) (flat_map f (numbers (suc from) n))) is))

pub part_has : (log : LogState) (image : ℕ → ℕ) (k : ℕ) (e : Entry) → k < log.layout.chunks → StandsAt log image k e → Stands log image e
part_has log image k e lt is = within (λ (j : ℕ). chunk_entries log.layout image log.part j) e 0 log.layout.chunks k (omega arith) (omega (arith, lt)) is

pub record Placed (log : LogState) (image : ℕ → ℕ) (e : Entry) : Type 0 where
  pub chunk : ℕ
  pub in_part : chunk < log.layout.chunks
  pub at : StandsAt log image chunk e

pub part_in : (log : LogState) (image : ℕ → ℕ) (e : Entry) → Stands log image e → Placed log image e
part_in log image e is = let s = somewhere (λ (j : ℕ). chunk_entries log.layout image log.part j) e 0 log.layout.chunks is in let high = s.high in record { chunk = s.chunk; in_part = omega (arith, high); at = s.at }

-- entries with their places
pub record Among (xs : List (ℕ × Entry)) (e : Entry) : Type 0 where
  pub found : ℕ × Entry
  pub here : In found xs
  pub is : e ≡ found.1

pub placed_in : (c j : ℕ) (xs : List (ℕ × Entry)) (e : Entry) → In e (map (λ (x : PlacedEntry). x.entry) (placed_in_chunk c j xs)) → Among xs e
placed_in c j [] e is = absurd is
placed_in c j (x ∷ xs) e is = ⊎_elim (λ here. record { found = x; here = inl refl; is = here }) (λ later. let a = placed_in c j xs e later in record { found = a.found; here = inr a.here; is = a.is }) is

pub placed_has : (c j : ℕ) (xs : List (ℕ × Entry)) (x : ℕ × Entry) → In x xs → In x.1 (map (λ (y : PlacedEntry). y.entry) (placed_in_chunk c j xs))
placed_has c j [] x is = absurd is
placed_has c j (y ∷ ys) x is = ⊎_elim (λ here. inl (ap (λ (z : ℕ × Entry). z.1) here)) (λ later. inr (placed_has c j ys x later)) is

-- names of entries
pub record Named (xs : List (ℕ × Entry)) (k v : ℕ) : Type 0 where
  pub found : ℕ × Entry
  pub here : In found xs
  pub key : found.1.key ≡ k
  pub version : found.1.version ≡ v

pub name_in : (xs : List (ℕ × Entry)) (k v : ℕ) → has_name xs k v ≡ true → Named xs k v
name_in [] k v is = absurd (cc is)
name_in (x ∷ xs) k v is = elim (is_named k v x) as (λ b. is_named k v x ≡ b → (b || has_name xs k v) ≡ true → Named (x ∷ xs) k v) [
  | true ↦ λ e all. let n = same_name x.1.key x.1.version k v e in record { found = x; here = inl refl; key = n.0; version = n.1 }
  | false ↦ λ e rest. let n = name_in xs k v rest in record { found = n.found; here = inr n.here; key = n.key; version = n.version }
] refl is

or_right : (a b : Bool) → b ≡ true → (a || b) ≡ true
or_right true b is = refl
or_right false b is = is

pub in_named : (xs : List (ℕ × Entry)) (x : ℕ × Entry) → In x xs → has_name xs x.1.key x.1.version ≡ true
in_named [] x is = absurd is
in_named (y ∷ ys) x is = ⊎_elim
    (λ here. ap (λ (b : Bool). b || has_name ys x.1.key x.1.version) (ap (λ (z : ℕ × Entry). is_named x.1.key x.1.version z) (sym here) ∙ name_same x.1.key x.1.version))
    (λ later. or_right (is_named x.1.key x.1.version y) (has_name ys x.1.key x.1.version) (in_named ys x later)) is

-- The chunks of a log, by their numbers alone.
module _ (h : ℕ → Bool) where
  counted : List LogChunk → ℕ
  counted cs = count_by (λ (c : LogChunk). h c.chunk) cs

  count_cons : (c : LogChunk) (cs : List LogChunk) → count_by (λ (x : LogChunk). h x.chunk) (c ∷ cs) ≡ cond (h c.chunk) 1 0 + count_by (λ (x : LogChunk). h x.chunk) cs
  count_cons c cs = sum_by-cons (λ (x : LogChunk). cond (h x.chunk) 1 0) c cs

  -- a chunk of the list that passes is counted
  pub count_has : (cs : List LogChunk) (j : ℕ) → is_some (tail_of cs j) ≡ true → h j ≡ true → 0 < count_by (λ (x : LogChunk). h x.chunk) cs
  count_has [] j has passes = absurd (cc has)
  count_has (c ∷ cs) j has passes = elim (c.chunk == j) as (λ b. (c.chunk == j) ≡ b → is_some (cond b (Some c.tail) (tail_of cs j)) ≡ true → 0 < count_by (λ (x : LogChunk). h x.chunk) (c ∷ cs)) [
    | true ↦ λ e some. let n = count_cons c cs in let one = ap {B = ℕ} (λ (b : Bool). cond b 1 0) (ap h (eqb-true c.chunk j e) ∙ passes) in omega (arith, n, one)
    | false ↦ λ e some. let n = count_cons c cs in let rest = count_has cs j some passes in omega (arith, n, rest)
  ] refl has

  pub record Another (cs : List LogChunk) (j : ℕ) : Type 0 where
    pub chunk : ℕ
    pub has : is_some (tail_of cs chunk) ≡ true
    pub passes : h chunk ≡ true
    pub other : chunk ≢ j

  still : (c : LogChunk) (cs : List LogChunk) (i : ℕ) → is_some (tail_of cs i) ≡ true → is_some (tail_of (c ∷ cs) i) ≡ true
  still c cs i has = elim (c.chunk == i) as (λ b. is_some (cond b (Some c.tail) (tail_of cs i)) ≡ true) [
    | true ↦ refl
    | false ↦ has
  ]

  first : (c : LogChunk) (cs : List LogChunk) → is_some (tail_of (c ∷ cs) c.chunk) ≡ true
  first c cs = ap is_some (cond-true (c.chunk == c.chunk) (Some c.tail) (tail_of cs c.chunk) (eq-eqb c.chunk c.chunk refl))

  pub record Later (cs : List LogChunk) (from : ℕ) : Type 0 where
    pub chunk : ℕ
    pub has : is_some (tail_of cs chunk) ≡ true
    pub passes : h chunk ≡ true
    pub low : from ≤ chunk

  later : (cs : List LogChunk) (from : ℕ) → IsRising from cs → 0 < count_by (λ (x : LogChunk). h x.chunk) cs → Later cs from
  later [] from rising some = absurd (omega (arith, some))
  later (c ∷ cs) from rising some = elim (h c.chunk) as (λ b. h c.chunk ≡ b → Later (c ∷ cs) from) [
    | true ↦ λ passes. record { chunk = c.chunk; has = first c cs; passes = passes; low = rising.0 }
    | false ↦ λ fails. let n = count_cons c cs ∙ ap {B = ℕ} (λ (b : Bool). cond b 1 0 + count_by (λ (x : LogChunk). h x.chunk) cs) fails in
        let l = later cs (c.chunk + 1) rising.1 (omega (arith, n, some)) in
        let low = l.low in
        record { chunk = l.chunk; has = still c cs l.chunk l.has; passes = l.passes; low = omega (arith, low, rising.0) }
  ] refl

  -- where two pass, another one than chunk j does
  pub another : (cs : List LogChunk) (from j : ℕ) → IsRising from cs → 1 < count_by (λ (x : LogChunk). h x.chunk) cs → Another cs j
  another [] from j rising two = absurd (omega (arith, two))
  another (c ∷ cs) from j rising two = elim (h c.chunk) as (λ b. h c.chunk ≡ b → Another (c ∷ cs) j) [
    | true ↦ λ passes.
        let n = count_cons c cs ∙ ap {B = ℕ} (λ (b : Bool). cond b 1 0 + count_by (λ (x : LogChunk). h x.chunk) cs) passes in
        ⊎_elim
        (λ (here : c.chunk ≡ j). let l = later cs (c.chunk + 1) rising.1 (omega (arith, n, two)) in let low = l.low in record { chunk = l.chunk; has = still c cs l.chunk l.has; passes = l.passes; other = λ e. omega (arith, e, here, low) })
        (λ (ne : c.chunk ≢ j). record { chunk = c.chunk; has = first c cs; passes = passes; other = ne })
        (cases_eq c.chunk j)
    | false ↦ λ fails.
        let n = count_cons c cs ∙ ap {B = ℕ} (λ (b : Bool). cond b 1 0 + count_by (λ (x : LogChunk). h x.chunk) cs) fails in
        let a = another cs (c.chunk + 1) j rising.1 (omega (arith, n, two)) in
        record { chunk = a.chunk; has = still c cs a.chunk a.has; passes = a.passes; other = a.other }
  ] refl

-- A chunk of the log in an image.
module _ (s : State) (log : LogState) (stands : StandsIn s log) (j : ℕ) (has : is_some (tail_of log.chunks j) ≡ true) where
  pub chunk_of : IsChunkOf log.layout (chunk_with j (tail_in log j))
  chunk_of = own_chunk log stands.own j (tail_in log j) (is_tail (tail_of log.chunks j) has)

  pub chunk_now : IsTelling s → (image : ℕ → ℕ) → MayLeaveIn (cell_now s) (first_of log j) (first_of log j + chunk_words log.layout) image → chunk_entries log.layout image log.part j ≡ placed_in_chunk log.part j (entries_in s log j)
  chunk_now telling image may =
      let is = chunk_of in
      let fits = (tail_fits log.layout stands.own.layout (chunk_with j (tail_in log j)) is).0 in
      entries_read log.layout image log.part j (tail_in log j) (words_now s (first_of log j) (tail_in log j)) is.whole is.fits
      (log_reads s (first_of log j) (chunk_words log.layout) (tail_in log j) fits (stands.logs telling j (tail_in log j) (is_tail (tail_of log.chunks j) has)) image may)

  pub chunk_lasts : IsTelling s → chunk_entries log.layout (lasts s) log.part j ≡ placed_in_chunk log.part j (entries_in s log j)
  chunk_lasts telling = chunk_now telling (lasts s) (λ w low high. may_be_last (cell_now s w) (lasts s w) refl)

all_numbers : (f g : ℕ → Bool) (from n : ℕ) → ((k : ℕ) → f k ≡ true → g k ≡ true) → list_all f (numbers from n) ≡ true → list_all g (numbers from n) ≡ true
all_numbers f g from zero implies all = refl
all_numbers f g from (suc n) implies all =
    let parts = and_parts (f from) (list_all f (numbers (suc from) n)) all in
    and_from (g from) (list_all g (numbers (suc from) n)) (implies from parts.0) (all_numbers f g (suc from) n implies parts.1)

-- a Free chunk reads well, and a log that spells batches
pub free_well : (l : Geometry) (image : ℕ → ℕ) (at : ℕ) → image at ≡ 0 → chunk_reads l image at ≡ true
free_well l image at none = λ i. head_reads (head_by l (none i) (image (at + 1))) (scan_behind image at (head_by l (none i) (image (at + 1))))

pub log_well : (l : Geometry) (image : ℕ → ℕ) (at tail : ℕ) (ws : List ℕ) → tail % 8 ≡ 0 → tail ≤ payload_words l → HasLog at tail ws image → Spelled ws → chunk_reads l image at ≡ true
log_well l image at tail ws whole fits has spelled =
    let head : head_at l image at ≡ Ok (Log tail) = (λ i. head_by l (has.0 i) (has.1 i)) ∙ head_of l tail whole fits in
    ap (λ (h : Result Head ℕ). head_reads h (scan_behind image at h)) head ∙ ap (λ (w : List ℕ). (scan_of w).whole) has.2 ∙ ap (λ (x : Scan). x.whole) (scan_spelled ws spelled.batches spelled.spelled)

log_no_data : (l : Geometry) (tail class : ℕ) → head_by l 1 tail ≡ Ok (Data class) → ⊥
log_no_data l tail class is = elim (tail % 8 == 0 && nat_le tail (payload_words l)) as (λ b. cond {A = Result Head ℕ} b (Ok (Log tail)) (Err 5) ≡ Ok (Data class) → ⊥) [
  | true ↦ λ e. cc e
  | false ↦ λ e. cc e
] is

record Class (o : Option ℕ) : Type 0 where
  class : ℕ
  is : o ≡ Some class

some_class : (image : ℕ → ℕ) (q : ℕ) (o : Option ℕ) (b : List ℕ) → value_by_class image q o ≡ Some b → Class o
some_class image q None b is = absurd (cc is)
some_class image q (Some class) b is = record { class = class; is = refl }

-- the class of a block by the head of its chunk
class_same : (l : Geometry) (is : Numbers l) (i j : ℕ → ℕ) (c p class : ℕ) → block_class l j c p ≡ Some class → head_at l i (chunk_first l c (in_chunk l p)) ≡ head_at l j (chunk_first l c (in_chunk l p)) → block_class l i c p ≡ block_class l j c p
class_same l is i j c p class has heads = elim (nat_le 16 p && (chunk_at l p / l.chunks == c)) as (λ b. (nat_le 16 p && (chunk_at l p / l.chunks == c)) ≡ b
    → cond b (class_behind l (unit_at l p) (head_at l i (512 + chunk_at l p * chunk_words l))) None ≡ cond b (class_behind l (unit_at l p) (head_at l j (512 + chunk_at l p * chunk_words l))) None) [
      | true ↦ λ a.
          let part : chunk_at l p / l.chunks ≡ c = eqb-true (chunk_at l p / l.chunks) c (and_parts (nat_le 16 p) (chunk_at l p / l.chunks == c) a).1 in
          let some = is.chunks in
          let split : l.chunks * (chunk_at l p / l.chunks) + chunk_at l p % l.chunks ≡ chunk_at l p = omega (arith, some) in
          let number : c * l.chunks + in_chunk l p ≡ chunk_at l p = (let q : l.chunks * c ≡ c * l.chunks = omega arith in omega (arith, q, ap (λ x. l.chunks * x + chunk_at l p % l.chunks) (sym part) ∙ split)) in
          let first : 512 + chunk_at l p * chunk_words l ≡ chunk_first l c (in_chunk l p) = ap (λ q. 512 + q * chunk_words l) (sym number) in
          ap (class_behind l (unit_at l p)) (ap (head_at l i) first ∙ heads ∙ sym (ap (head_at l j) first))
      | false ↦ λ a. refl
    ] refl

-- Words of one chunk are written: an image of a moment, and one of the beginning beside it.
module _ (s : State) (log : LogState) (stands : StandsIn s log) (j from end : ℕ) (low : first_of log j ≤ from) (high : end ≤ first_of log j + chunk_words log.layout)
    (m : ℕ → Cell) (kept : KeepsOutside (cell_now s) from end m) (image : ℕ → ℕ) (may : MayLeaveIn m (part_first log.layout log.part) (part_first log.layout (log.part + 1)) image) where
  pub was : ℕ → ℕ
  was = patch from end (lasts s) image

  pub was_may : MayLeaveIn (cell_now s) (part_first log.layout log.part) (part_first log.layout (log.part + 1)) was
  unfolding was
  was_may = was_image (cell_now s) m from end (part_first log.layout log.part) (part_first log.layout (log.part + 1)) image kept may

  pub was_outside : (w : ℕ) → (w < first_of log j) ⊎ (first_of log j + chunk_words log.layout ≤ w) → was w ≡ image w
  unfolding was
  was_outside w out = patch_out from end (lasts s) image w (⊎_elim (λ lt. inl (omega (arith, lt, low))) (λ ge. inr (omega (arith, ge, high))) out)

  -- another chunk says the same
  same_words : (k : ℕ) → k ≢ j → (n : ℕ) → n < chunk_words log.layout → image (first_of log k + n) ≡ was (first_of log k + n)
  same_words k ne n lt = sym (was_outside (first_of log k + n) (⊎_elim (λ before. inl (omega (arith, before, lt))) (λ behind. inr (omega (arith, behind))) (chunks_apart log.layout log.part k j ne)))

  -- where the chunk reads well, the part reads as well as before
  pub reads_kept : chunk_reads log.layout image (first_of log j) ≡ true → reads log.layout was log.part ≡ true → reads log.layout image log.part ≡ true
  reads_kept here all =
      let size = chunk_words_whole log.layout (numbers_of log.layout stands.own.layout).size in
      let big = size.2 in
      all_numbers (λ (k : ℕ). chunk_reads log.layout was (chunk_first log.layout log.part k)) (λ (k : ℕ). chunk_reads log.layout image (chunk_first log.layout log.part k)) 0 log.layout.chunks
      (λ k is. ⊎_elim (λ (at : k ≡ j). ap (λ (i : ℕ). chunk_reads log.layout image (chunk_first log.layout log.part i)) at ∙ here) (λ (ne : k ≢ j). reads_same log.layout image was (chunk_first log.layout log.part k) (omega (arith, big)) (same_words k ne) ∙ is) (cases_eq k j)) all

  pub same_else : (k : ℕ) → k ≢ j → chunk_entries log.layout image log.part k ≡ chunk_entries log.layout was log.part k
  same_else k ne =
      let size = chunk_words_whole log.layout (numbers_of log.layout stands.own.layout).size in
      let big = size.2 in
      chunk_same log.layout image was log.part k (omega (arith, big)) (λ n lt.
      sym (was_outside (first_of log k + n) (⊎_elim (λ before. inl (omega (arith, before, lt))) (λ behind. inr (omega (arith, behind))) (chunks_apart log.layout log.part k j ne))))

  -- a chunk of the log as it was
  pub was_chunk : IsTelling s → (k : ℕ) → is_some (tail_of log.chunks k) ≡ true → chunk_entries log.layout was log.part k ≡ placed_in_chunk log.part k (entries_in s log k)
  was_chunk telling k has =
      let inside = chunk_in_part log.layout log.part k (chunk_of s log stands k has).within in
      chunk_now s log stands k has telling was (λ w ge lt. was_may w (omega (arith, inside, ge)) (omega (arith, inside, lt)))

  -- a chunk of the log has no block
  no_data : IsTelling s → (k class : ℕ) → is_some (tail_of log.chunks k) ≡ true → head_at log.layout was (first_of log k) ≡ Ok (Data class) → ⊥
  no_data telling k class has is =
      let inside = chunk_in_part log.layout log.part k (chunk_of s log stands k has).within in
      let size = chunk_words_whole log.layout (numbers_of log.layout stands.own.layout).size in
      let big = size.2 in
      let kind = (stands.logs telling k (tail_in log k) (is_tail (tail_of log.chunks k) has)).kind (was (first_of log k)) (was_may (first_of log k) (omega (arith, inside)) (omega (arith, inside, big))) in
      log_no_data log.layout (was (first_of log k + 1)) class ((λ i. head_by log.layout (sym kind i) (was (first_of log k + 1))) ∙ is)

  -- blocks lie in other chunks
  pub blocks_kept : IsTelling s → is_some (tail_of log.chunks j) ≡ true → (q : ℕ) (b : List ℕ) → value_in_block log.layout was log.part q ≡ Some b → value_in_block log.layout image log.part q ≡ Some b
  blocks_kept telling has q b holds =
      let l = log.layout in
      let numbers_there = layout_numbers l stands.own.layout in
      let c = some_class was q (block_class l was log.part q) b holds in
      let lies = block_lies l numbers_there was log.part q c.class stands.own.part c.is in
      let k = in_chunk l q in
      let ne : k ≢ j = λ at. no_data telling j c.class has (subst (λ (n : ℕ). head_at l was (chunk_first l log.part n) ≡ Ok (Data c.class)) at lies.head) in
      let size = chunk_words_whole l (numbers_of l stands.own.layout).size in
      let big = size.2 in
      let heads : head_at l image (chunk_first l log.part k) ≡ head_at l was (chunk_first l log.part k) = head_same l image was (chunk_first l log.part k) (omega (arith, big)) (same_words k ne) in
      let classes : block_class l image log.part q ≡ block_class l was log.part q = class_same l numbers_there image was log.part q c.class c.is heads in
      held_same l image was log.part q classes (λ class e n lt.
      let there = (block_lies l numbers_there was log.part q class stands.own.part e).words n lt in
      ap image there.3 ∙ same_words k ne there.0 there.2 ∙ sym (ap was there.3)) ∙ holds

  pub image_chunk : IsTelling s → (k : ℕ) → k ≢ j → is_some (tail_of log.chunks k) ≡ true → chunk_entries log.layout image log.part k ≡ placed_in_chunk log.part k (entries_in s log k)
  image_chunk telling k ne has = same_else k ne ∙ was_chunk telling k has

-- the entries of a chunk whose words are kept
pub entries_still : (s t : State) (log log' : LogState) (k from end : ℕ) → During s t (KeepsOutside (cell_now s) from end) → IsTelling t → log'.layout ≡ log.layout → log'.part ≡ log.part → tail_of log'.chunks k ≡ tail_of log.chunks k
    → ((w : ℕ) → first_of log k ≤ w → w < first_of log k + 32 + tail_in log k → (w < from) ⊎ (end ≤ w)) → entries_in t log' k ≡ entries_in s log k
entries_still s t log log' k from end outside telling layout part tail out =
    let at : first_of log' k ≡ first_of log k = λ i. chunk_first (layout i) (part i) k in
    let same_tail : tail_in log' k ≡ tail_in log k = ap (λ (o : Option ℕ). unwrap_or o 0) tail in
    let words : words_now t (first_of log k) (tail_in log k) ≡ words_now s (first_of log k) (tail_in log k) =
    words_same (lasts t) (lasts s) (first_of log k + 32) (tail_in log k) (λ n lt. kept_last (cell_now s (first_of log k + 32 + n)) (cell_now t (first_of log k + 32 + n))
    (at_exit s t (KeepsOutside (cell_now s) from end) outside telling (first_of log k + 32 + n) (out (first_of log k + 32 + n) (omega arith) (omega (arith, lt))))) in
    (λ i. (scan_of (words_now t (at i) (same_tail i))).entries) ∙ ap (λ (ws : List ℕ). (scan_of ws).entries) words

-- a list of chunks without one of its chunks
pub count_without : (h : ℕ → Bool) (cs : List LogChunk) (j : ℕ) → is_some (tail_of cs j) ≡ true → count_by (λ (x : LogChunk). h x.chunk) (without cs j) + cond (h j) 1 0 ≡ count_by (λ (x : LogChunk). h x.chunk) cs
count_without h [] j has = absurd (cc has)
count_without h (c ∷ cs) j has = elim (c.chunk == j) as (λ b. (c.chunk == j) ≡ b → is_some (cond b (Some c.tail) (tail_of cs j)) ≡ true → count_by (λ (x : LogChunk). h x.chunk) (cond b cs (c ∷ without cs j)) + cond (h j) 1 0 ≡ count_by (λ (x : LogChunk). h x.chunk) (c ∷ cs)) [
  | true ↦ λ e some. let n = sum_by-cons (λ (x : LogChunk). cond (h x.chunk) 1 0) c cs in let same = ap {B = ℕ} (λ (i : ℕ). cond (h i) 1 0) (eqb-true c.chunk j e) in omega (arith, n, same)
  | false ↦ λ e some. let n = sum_by-cons (λ (x : LogChunk). cond (h x.chunk) 1 0) c cs in let w = sum_by-cons (λ (x : LogChunk). cond (h x.chunk) 1 0) c (without cs j) in let rest = count_without h cs j some in omega (arith, n, w, rest)
] refl has

pub count_same : (g h : ℕ → Bool) (cs : List LogChunk) → ((i : ℕ) → is_some (tail_of cs i) ≡ true → g i ≡ h i) → count_by (λ (x : LogChunk). g x.chunk) cs ≡ count_by (λ (x : LogChunk). h x.chunk) cs
count_same g h [] same = refl
count_same g h (c ∷ cs) same =
    let first_has : is_some (tail_of (c ∷ cs) c.chunk) ≡ true = ap is_some (cond-true (c.chunk == c.chunk) (Some c.tail) (tail_of cs c.chunk) (eq-eqb c.chunk c.chunk refl)) in
    let a = sum_by-cons (λ (x : LogChunk). cond (g x.chunk) 1 0) c cs in
    let b = sum_by-cons (λ (x : LogChunk). cond (h x.chunk) 1 0) c cs in
    let here = ap {B = ℕ} (λ (q : Bool). cond q 1 0) (same c.chunk first_has) in
    let rest = count_same g h cs (λ i has. same i (behind i has)) in
    omega (arith, a, b, here, rest)
  where
    behind : (i : ℕ) → is_some (tail_of cs i) ≡ true → is_some (tail_of (c ∷ cs) i) ≡ true
    behind i has = elim (c.chunk == i) as (λ b. is_some (cond b (Some c.tail) (tail_of cs i)) ≡ true) [
      | true ↦ refl
      | false ↦ has
    ]
