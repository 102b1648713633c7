-- The entries of an image stand one behind the other.
use Rattle.std.proofs.Common.{◌≡◌, ℕ, zero, suc, ◌+◌, ◌*◌, ◌<◌, ◌≤◌, List, [], ◌∷◌, ◌++◌, length, map, Option, Some, None, refl, sym, ◌∙◌, ap, subst, arith}
use Rattle.std.specs.Prelude.{Result, Ok, Err}
use Rattle.std.specs.List.{flat_map, AllByRecursion}
use Rattle.log_entry.specs.declared.entry.Entry.{Entry}
use Rattle.log_entry.specs.Spelling.{words_of}
use Rattle.log_entry.specs.Batches.{Scan, scan_of}
use Rattle.log_entry.proofs.Clients.{scan_spelled, length-words}
use Rattle.chunk_map.specs.declared.layouts.Geometry.{Geometry}
use Rattle.chunk_map.specs.declared.heads.Head.{Head}
use Rattle.chunk_map.specs.declared.heads.Head.TheVariants.{Free, Log, Data}
use Rattle.chunk_map.specs.Layouts.{IsLayout, numbers, chunk_words, chunk_first, head_at}
use Rattle.store_image.specs.declared.types.PlacedEntry.{PlacedEntry}
use Rattle.store_image.specs.Parts.{payload, scan_behind, placed_in_chunk, chunk_entries, part_entries, all_entries}
use Rattle.store_image.proofs.Clients.{layout_numbers}
use Rattle.core_log.specs.Log as log
use Rattle.core_log.proofs.Clients.{placed_items, items_of, items_placed, first_is}
use Rattle.recover.specs.declared.found_entries.Found.{Found}
use Rattle.recover.specs.Logs.{SpellsLog}
use Rattle.recover.specs.Gathering.{AllSpell}
use Rattle.recover.specs.FoundEntries.{found_of, RiseByWord}
use Rattle.recover.proofs.ReadBackLaws.{all_implies, all_append, tail_fits}
use Rattle.store_image.proofs.Clients.{places_lie}

-- by places
abbrev PlacesRise : List (ℕ × Entry) → Type 0
PlacesRise [] = Unit {0}
PlacesRise (x ∷ xs) = AllByRecursion (λ (y : ℕ × Entry). x.0 < y.0) xs × PlacesRise xs

items_from : (is : List (Option Entry)) (p q : ℕ) → q ≤ p → AllByRecursion (λ (x : ℕ × Entry). q ≤ x.0) (placed_items p is)
items_from [] p q le = tt
items_from (None ∷ is) p q le = items_from is (p + 1) q (omega (arith, le))
items_from (Some e ∷ is) p q le = (le, items_from is (p + length (words_of e)) q (omega (arith, le)))

items_rise : (is : List (Option Entry)) (p : ℕ) → PlacesRise (placed_items p is)
items_rise [] p = tt
items_rise (None ∷ is) p = items_rise is (p + 1)
items_rise (Some e ∷ is) p =
    let two = (first_is e).0 in (
      all_implies (λ (x : ℕ × Entry). suc p ≤ x.0) (λ (x : ℕ × Entry). p < x.0) (λ x h. omega (arith, h)) (placed_items (p + length (words_of e)) is) (items_from is (p + length (words_of e)) (suc p) (omega (arith, two))),
      items_rise is (p + length (words_of e)),
    )

scan_rises : (ws : List ℕ) → log.Spelled ws → PlacesRise (scan_of ws).entries
scan_rises ws spelled =
    let entries_are : placed_items 0 (items_of spelled.batches) ≡ (scan_of ws).entries = items_placed spelled.batches 0 ∙ sym (ap (λ (s : Scan). s.entries) (scan_spelled ws spelled.batches spelled.spelled)) in
    subst PlacesRise entries_are (items_rise (items_of spelled.batches) 0)

-- by words, from a word up to another
abbrev word_of : Geometry → PlacedEntry → ℕ
word_of l x = chunk_first l x.core x.chunk + 32 + x.place

abbrev Rise : Geometry → List PlacedEntry → Type 0
Rise l [] = Unit {0}
Rise l (x ∷ es) = AllByRecursion (λ (y : PlacedEntry). word_of l x < word_of l y) es × Rise l es

record RiseIn (l : Geometry) (lo hi : ℕ) (es : List PlacedEntry) : Type 0 where
  low : AllByRecursion (λ (x : PlacedEntry). lo ≤ word_of l x) es
  high : AllByRecursion (λ (x : PlacedEntry). word_of l x < hi) es
  rise : Rise l es

module _ (l : Geometry) where
  rise_append : (mid : ℕ) (xs ys : List PlacedEntry) → AllByRecursion (λ (x : PlacedEntry). word_of l x < mid) xs → AllByRecursion (λ (x : PlacedEntry). mid ≤ word_of l x) ys → Rise l xs → Rise l ys → Rise l (xs ++ ys)
  rise_append mid [] ys high low a b = b
  rise_append mid (x ∷ xs) ys high low a b = (
    all_append (λ (y : PlacedEntry). word_of l x < word_of l y) xs ys a.0 (all_implies (λ (y : PlacedEntry). mid ≤ word_of l y) (λ (y : PlacedEntry). word_of l x < word_of l y) (λ y h. let less = high.0 in omega (arith, h, less)) ys low),
    rise_append mid xs ys high.1 low a.1 b,
  )

  joined : (lo mid hi : ℕ) (xs ys : List PlacedEntry) → lo ≤ mid → mid ≤ hi → RiseIn l lo mid xs → RiseIn l mid hi ys → RiseIn l lo hi (xs ++ ys)
  joined lo mid hi xs ys a b first next = record {
    low = all_append (λ (x : PlacedEntry). lo ≤ word_of l x) xs ys first.low (all_implies (λ (x : PlacedEntry). mid ≤ word_of l x) (λ (x : PlacedEntry). lo ≤ word_of l x) (λ x h. omega (arith, a, h)) ys next.low);
    high = all_append (λ (x : PlacedEntry). word_of l x < hi) xs ys (all_implies (λ (x : PlacedEntry). word_of l x < mid) (λ (x : PlacedEntry). word_of l x < hi) (λ x h. omega (arith, b, h)) xs first.high) next.high;
    rise = rise_append mid xs ys first.high next.low first.rise next.rise;
  }

  -- one after another, each from its bound up to the next
  flat_rises : (bound : ℕ → ℕ) (h : ℕ → List PlacedEntry) (from n : ℕ) → ((i : ℕ) → bound i ≤ bound (suc i)) → ((i : ℕ) → from ≤ i → i < from + n → RiseIn l (bound i) (bound (suc i)) (h i)) → RiseIn l (bound from) (bound (from + n)) (flat_map h (numbers from n))
  flat_rises bound h from zero up each = record { low = tt; high = tt; rise = tt }
  flat_rises bound h from (suc n) up each =
      let e : suc from + n ≡ from + suc n = omega arith in
      let rest = subst (λ m. RiseIn l (bound (suc from)) (bound m) (flat_map h (numbers (suc from) n))) e (flat_rises bound h (suc from) n up (λ i low high. each i (omega (arith, low)) (omega (arith, high)))) in
      joined (bound from) (bound (suc from)) (bound (from + suc n)) (h from) (flat_map h (numbers (suc from) n)) (up from) (bounds bound up (suc from) n (from + suc n) e) (each from (omega arith) (omega arith)) rest
    where
      bounds : (bound : ℕ → ℕ) → ((i : ℕ) → bound i ≤ bound (suc i)) → (a m b : ℕ) → a + m ≡ b → bound a ≤ bound b
      bounds bound up a zero b is = let same : a ≡ b = omega (arith, is) in let p = ap bound same in omega (arith, p)
      bounds bound up a (suc m) b is = let first = up a in let rest = bounds bound up (suc a) m b (omega (arith, is)) in omega (arith, first, rest)

module _ (l : Geometry) (layout : IsLayout l) (image : ℕ → ℕ) where
  abbrev bound : ℕ → ℕ → ℕ
  bound c j = chunk_first l c j

  bound_up : (c j : ℕ) → chunk_first l c j + chunk_words l ≡ chunk_first l c (suc j)
  bound_up c j =
      let e : (c * l.chunks + j) * chunk_words l + chunk_words l ≡ (c * l.chunks + suc j) * chunk_words l = omega arith in
      omega (arith, e)

  module _ (c j : ℕ) where
    placed_low : (xs : List (ℕ × Entry)) → AllByRecursion (λ (x : PlacedEntry). chunk_first l c j ≤ word_of l x) (placed_in_chunk c j xs)
    placed_low [] = tt
    placed_low (x ∷ xs) = (omega arith, placed_low xs)

    placed_high : (tail : ℕ) → tail + 32 ≤ chunk_words l → (xs : List (ℕ × Entry)) → AllByRecursion (λ (y : ℕ × Entry). y.0 < tail) xs → AllByRecursion (λ (x : PlacedEntry). word_of l x < chunk_first l c (suc j)) (placed_in_chunk c j xs)
    placed_high tail fits [] lie = tt
    placed_high tail fits (x ∷ xs) lie = (let low = lie.0 in let e = bound_up c j in omega (arith, low, fits, e), placed_high tail fits xs lie.1)

    placed_all : (p : ℕ) (xs : List (ℕ × Entry)) → AllByRecursion (λ (y : ℕ × Entry). p < y.0) xs → AllByRecursion (λ (y : PlacedEntry). chunk_first l c j + 32 + p < word_of l y) (placed_in_chunk c j xs)
    placed_all p [] all = tt
    placed_all p (x ∷ xs) all = (let less = all.0 in omega (arith, less), placed_all p xs all.1)

    placed_rise : (xs : List (ℕ × Entry)) → PlacesRise xs → Rise l (placed_in_chunk c j xs)
    placed_rise [] rise = tt
    placed_rise (x ∷ xs) rise = (placed_all x.0 xs rise.0, placed_rise xs rise.1)

    nothing : RiseIn l (chunk_first l c j) (chunk_first l c (suc j)) []
    nothing = record { low = tt; high = tt; rise = tt }

    chunk_rises : SpellsLog l image c j → RiseIn l (chunk_first l c j) (chunk_first l c (suc j)) (chunk_entries l image c j)
    chunk_rises spells = by_head (head_at l image (chunk_first l c j)) refl where
      by_head : (h : Result Head ℕ) → head_at l image (chunk_first l c j) ≡ h → RiseIn l (chunk_first l c j) (chunk_first l c (suc j)) (placed_in_chunk c j (scan_behind image (chunk_first l c j) h).entries)
      by_head (Ok Free) is = nothing
      by_head (Ok (Log tail)) is =
          let ws = payload image (chunk_first l c j) tail in
          let fits = tail_fits l image (chunk_first l c j) tail is in
          let size = (layout_numbers l layout).size in
          let long : length ws ≡ tail = length-words image (chunk_first l c j + 32) tail in
          record {
            low = placed_low (scan_of ws).entries;
            high = placed_high (length ws) (omega (arith, long, fits, size)) (scan_of ws).entries (places_lie ws);
            rise = placed_rise (scan_of ws).entries (scan_rises ws (spells tail is));
          }
      by_head (Ok (Data class)) is = nothing
      by_head (Err rule) is = nothing

  entries_rise : AllSpell l image → Rise l (all_entries l image)
  entries_rise spell = (flat_rises l (λ c. chunk_first l c 0) (part_entries l image) 0 l.cores part_up part_rises).rise where
    part_end : (c : ℕ) → chunk_first l c (0 + l.chunks) ≡ chunk_first l (suc c) 0
    part_end c = let e : c * l.chunks + (0 + l.chunks) ≡ suc c * l.chunks + 0 = omega arith in ap (λ n. 512 + n * chunk_words l) e

    grow : (a m : ℕ) → a * chunk_words l ≤ (a + m) * chunk_words l
    grow a m = omega arith

    part_up : (c : ℕ) → chunk_first l c 0 ≤ chunk_first l (suc c) 0
    part_up c =
        let e : suc c * l.chunks + 0 ≡ (c * l.chunks + 0) + l.chunks = omega arith in
        let p = ap (λ n. n * chunk_words l) e in
        let le = grow (c * l.chunks + 0) l.chunks in
        omega (arith, p, le)

    part_rises : (c : ℕ) → 0 ≤ c → c < 0 + l.cores → RiseIn l (chunk_first l c 0) (chunk_first l (suc c) 0) (part_entries l image c)
    part_rises c low high = subst (λ hi. RiseIn l (chunk_first l c 0) hi (part_entries l image c)) (part_end c)
        (flat_rises l (chunk_first l c) (chunk_entries l image c) 0 l.chunks (λ j. let e = bound_up c j in omega (arith, e)) (λ j a b. chunk_rises c j (spell c j (omega (arith, high)) (omega (arith, b)))))

-- so what is found of them rises
found_all : (l : Geometry) (w : ℕ) (es : List PlacedEntry) → AllByRecursion (λ (y : PlacedEntry). w < word_of l y) es → AllByRecursion (λ (g : Found). w < g.at) (map (found_of l) es)
found_all l w [] all = tt
found_all l w (x ∷ es) all = (all.0, found_all l w es all.1)

found_rises : (l : Geometry) (es : List PlacedEntry) → Rise l es → RiseByWord (map (found_of l) es)
found_rises l [] rise = tt
found_rises l (x ∷ es) rise = (found_all l (word_of l x) es rise.0, found_rises l es rise.1)

pub words_rise : (l : Geometry) → IsLayout l → (image : ℕ → ℕ) → AllSpell l image → (fs : List Found) → fs ≡ map (found_of l) (all_entries l image) → RiseByWord fs
words_rise l layout image spell fs is = subst RiseByWord (sym is) (found_rises l (all_entries l image) (entries_rise l layout image spell))
