-- The next entry at or after a place.
use Rattle.std.proofs.Common.{◌≡◌, ◌≢◌, inl, inr, ℕ, zero, suc, ◌+◌, ◌-◌, ◌≤◌, ◌<◌, ◌==◌, nat_le, Bool, true, false, cond, List, [], ◌∷◌, ◌++◌, length, drop, get_or, Option, Some, None, refl, sym, ◌∙◌, ap, subst, arith, append-nil, length-append, length-drop, get_or-drop}
use Rattle.std.specs.Prelude.{option_map}
use Rattle.std.specs.List.{AllByRecursion}
use Rattle.std.proofs.lemmas.Bool.{cond-true, le-leb}
use Rattle.log_entry.specs.declared.entry.Entry.{Entry}
use Rattle.log_entry.specs.declared.entry.Read.{Read}
use Rattle.log_entry.specs.declared.entry.Read.TheVariants as reads
use Rattle.log_entry.specs.Spelling.{words_of, HasSpelling}
use Rattle.log_entry.specs.Reading.{size_of, version_of, entry_rule, entry_of, read_by, read}
use Rattle.log_entry.specs.Words.{words_from}
use Rattle.log_entry.specs.Batches.{Scan, scan_of}
use Rattle.log_entry.proofs.Clients.{scan_spelled, read_spelled, words_append, words_list, length-words}
use Rattle.core_log.specs.declared.types.Peek.{Peek}
use Rattle.core_log.specs.Log.{Spelled}
use Rattle.core_log.specs.Walking.{next_entry, IsBetween, step_at, peek_at}
use Rattle.core_log.proofs.ItemLaws.{spelled_by, placed_items, HaveSpelling, first_is, drop_behind, Reached, reaches, no_more, stands, items_of, items_spelled, items_placed, items_have}

pub words_more : (i : ℕ → ℕ) (at n : ℕ) → words_from i at (n + 1) ≡ words_from i at n ++ i (at + n) ∷ []
words_more i at n = words_append i at n 1

-- what is read of an entry is in its first two words
pub fields_read : (ws : List ℕ) (e : Entry) (n : ℕ) → read ws ≡ reads.Entry e n → (n ≡ size_of (get_or ws 0 0)) × (e.key ≡ get_or ws 1 0) × (e.version ≡ version_of (get_or ws 0 0))
unfolding read
fields_read ws e n is = by_zero (get_or ws 0 0 == 0) is
  where
    by_rule : (r : Option ℕ) → read_by ws r ≡ reads.Entry e n → (n ≡ size_of (get_or ws 0 0)) × (e.key ≡ get_or ws 1 0) × (e.version ≡ version_of (get_or ws 0 0))
    by_rule None same = let f : entry_of ws ≡ e = cc same in let m : size_of (get_or ws 0 0) ≡ n = cc same in (sym m, sym (ap (λ (x : Entry). x.key) f), sym (ap (λ (x : Entry). x.version) f))
    by_rule (Some rule) same = absurd (cc same)

    by_zero : (b : Bool) → cond b reads.Padding (read_by ws (entry_rule ws)) ≡ reads.Entry e n → (n ≡ size_of (get_or ws 0 0)) × (e.key ≡ get_or ws 1 0) × (e.version ≡ version_of (get_or ws 0 0))
    by_zero true same = absurd (cc same)
    by_zero false same = by_rule (entry_rule ws) same

-- entries lie one after another
places_from : (is : List (Option Entry)) (p q : ℕ) → q ≤ p → AllByRecursion (λ (x : ℕ × Entry). q ≤ x.0) (placed_items p is)
places_from [] p q le = tt
places_from (None ∷ is) p q le = places_from is (p + 1) q (omega (arith, le))
places_from (Some e ∷ is) p q le = (le, places_from is (p + length (words_of e)) q (omega (arith, le)))

all_between : (xs : List (ℕ × Entry)) (q : ℕ) → AllByRecursion (λ (x : ℕ × Entry). q ≤ x.0) xs → IsBetween q xs
all_between [] q all = tt
all_between (x ∷ xs) q all = (inl all.0, all_between xs q all.1)

next_from : (xs : List (ℕ × Entry)) (place q : ℕ) (x : ℕ × Entry) → AllByRecursion (λ (y : ℕ × Entry). q ≤ y.0) xs → next_entry place xs ≡ Some x → q ≤ x.0
next_from [] place q x all is = absurd (cc is)
next_from (y ∷ ys) place q x all is = elim (nat_le place y.0) as (λ b. cond b (Some y) (next_entry place ys) ≡ Some x → q ≤ x.0) [
  | true ↦ λ here. let e : y ≡ x = cc here in subst (λ (z : ℕ × Entry). q ≤ z.0) e all.0
  | false ↦ λ later. next_from ys place q x all.1 later
] is

next_between : (is : List (Option Entry)) (p place : ℕ) (x : ℕ × Entry) → next_entry place (placed_items p is) ≡ Some x → IsBetween (x.0 + length (words_of x.1)) (placed_items p is)
next_between [] p place x found = tt
next_between (None ∷ is) p place x found = next_between is (p + 1) place x found
next_between (Some e ∷ is) p place x found = elim (nat_le place p) as (λ b. cond b (Some (p, e)) (next_entry place (placed_items (p + length (words_of e)) is)) ≡ Some x → IsBetween (x.0 + length (words_of x.1)) ((p, e) ∷ placed_items (p + length (words_of e)) is)) [
  | true ↦ λ here. let same : (p, e) ≡ x = cc here in
      subst (λ (z : ℕ × Entry). IsBetween (z.0 + length (words_of z.1)) ((p, e) ∷ placed_items (p + length (words_of e)) is)) same
      (inr (omega arith), all_between (placed_items (p + length (words_of e)) is) (p + length (words_of e)) (places_from is (p + length (words_of e)) (p + length (words_of e)) (omega arith)))
  | false ↦ λ later.
      let after = next_from (placed_items (p + length (words_of e)) is) place (p + length (words_of e)) x (places_from is (p + length (words_of e)) (p + length (words_of e)) (omega arith)) later in
      (inr (omega (arith, after)), next_between is (p + length (words_of e)) place x later)
] found

-- the entry that is next is spelled at its place
pub record Spells (ws : List ℕ) (p : ℕ) (x : ℕ × Entry) : Type 0 where
  pub low : p ≤ x.0
  pub spelling : HasSpelling x.1
  pub rest : List ℕ
  pub words : drop (x.0 - p) ws ≡ words_of x.1 ++ rest

next_spells : (is : List (Option Entry)) (p place : ℕ) (x : ℕ × Entry) → HaveSpelling is → next_entry place (placed_items p is) ≡ Some x → Spells (spelled_by is) p x
next_spells [] p place x have found = absurd (cc found)
next_spells (None ∷ is) p place x have found =
    let s = next_spells is (p + 1) place x have found in
    let low = s.low in
    record { low = omega (arith, low); spelling = s.spelling; rest = s.rest; words = drop_behind (0 ∷ []) (spelled_by is) (x.0 - p) (x.0 - (p + 1)) (omega (arith, low)) ∙ s.words }
next_spells (Some e ∷ is) p place x have found = elim (nat_le place p) as (λ b. cond b (Some (p, e)) (next_entry place (placed_items (p + length (words_of e)) is)) ≡ Some x → Spells (words_of e ++ spelled_by is) p x) [
  | true ↦ λ at. let same : (p, e) ≡ x = cc at in
      let none : p - p ≡ 0 = omega arith in
      subst (Spells (words_of e ++ spelled_by is) p) same (record { low = omega arith; spelling = have.0; rest = spelled_by is; words = ap (λ (n : ℕ). drop n (words_of e ++ spelled_by is)) none })
  | false ↦ λ later.
      let s = next_spells is (p + length (words_of e)) place x have.1 later in
      let low = s.low in
      record { low = omega (arith, low); spelling = s.spelling; rest = s.rest; words = drop_behind (words_of e) (spelled_by is) (x.0 - p) (x.0 - (p + length (words_of e))) (omega (arith, low)) ∙ s.words }
] found

-- A payload that spells batches, and a place between its entries.
module _ (ws : List ℕ) (spelled : Spelled ws) (place : ℕ) (between : IsBetween place (scan_of ws).entries) (in_words : place ≤ length ws) where
  items : List (Option Entry)
  items = items_of spelled.batches

  words_are : spelled_by items ≡ ws
  unfolding items
  words_are = items_spelled spelled.batches ∙ sym spelled.spelled.words

  entries_are : placed_items 0 items ≡ (scan_of ws).entries
  unfolding items
  entries_are = items_placed spelled.batches 0 ∙ sym (ap (λ (s : Scan). s.entries) (scan_spelled ws spelled.batches spelled.spelled))

  have : HaveSpelling items
  unfolding items
  have = items_have spelled.batches spelled.spelled.each

  pub next_is_between : (x : ℕ × Entry) → next_entry place (scan_of ws).entries ≡ Some x → IsBetween (x.0 + length (words_of x.1)) (scan_of ws).entries
  next_is_between x found =
      subst (IsBetween (x.0 + length (words_of x.1))) entries_are (next_between items 0 place x (ap (next_entry place) entries_are ∙ found))

  pub next_is_spelled : (x : ℕ × Entry) → next_entry place (scan_of ws).entries ≡ Some x → Spells ws 0 x
  next_is_spelled x found = subst (λ (l : List ℕ). Spells l 0 x) words_are (next_spells items 0 place x have (ap (next_entry place) entries_are ∙ found))

  module _ (i : ℕ) (low : place ≤ i) (zeros : (k : ℕ) → place ≤ k → k < i → get_or ws k 0 ≡ 0) where
    r : Reached items 0 place
    r = reaches items 0 place have (subst (IsBetween place) (sym entries_are) between) (omega arith) (let e = ap length words_are in omega (arith, e, in_words))

    behind : drop place ws ≡ spelled_by r.rest
    behind = let e : place ≡ place - 0 = omega arith in sym (ap (drop place) words_are) ∙ ap (λ (n : ℕ). drop n (spelled_by items)) e ∙ r.words

    word_at : (k : ℕ) → get_or (spelled_by r.rest) k 0 ≡ get_or ws (place + k) 0
    word_at k = ap (λ (l : List ℕ). get_or l k 0) (sym behind) ∙ get_or-drop place ws k 0

    next_is : next_entry place (scan_of ws).entries ≡ next_entry place (placed_items place r.rest)
    next_is = ap (next_entry place) (sym entries_are) ∙ r.same

    zeros_there : (k : ℕ) → k < i - place → get_or (spelled_by r.rest) k 0 ≡ 0
    zeros_there k lt = word_at k ∙ zeros (place + k) (omega arith) (omega (arith, lt, low))

    pub none_left : i ≡ length ws → next_entry place (scan_of ws).entries ≡ None
    none_left end =
        let long : length (spelled_by r.rest) ≡ length ws - place = ap length (sym behind) ∙ length-drop place ws in
        next_is ∙ ap (next_entry place) (no_more r.rest place (λ k lt. zeros_there k (omega (arith, lt, long, end))))

    pub record Found : Type 0 where
      pub entry : Entry
      pub spelling : HasSpelling entry
      pub next : next_entry place (scan_of ws).entries ≡ Some (i, entry)
      pub rest : List ℕ
      pub words : drop i ws ≡ words_of entry ++ rest

    pub found : get_or ws i 0 ≢ 0 → Found
    found some =
        let at : place + (i - place) ≡ i = omega (arith, low) in
        let s = stands r.rest place (i - place) r.spelling zeros_there (λ none. some (sym (word_at (i - place) ∙ ap (λ (n : ℕ). get_or ws n 0) at) ∙ none)) in
        record {
          entry = s.entry;
          spelling = s.spelling;
          next = next_is ∙ ap (next_entry place) (s.placed ∙ ap (λ (n : ℕ). (n, s.entry) ∷ s.behind) at) ∙ cond-true (nat_le place i) (Some (i, s.entry)) (next_entry place s.behind) (le-leb place i low);
          rest = s.rest;
          words = sym (ap (λ (n : ℕ). drop n ws) at) ∙ drop_twice ws place (i - place) ∙ ap (drop (i - place)) behind ∙ s.words;
        }
      where
        drop_twice : (xs : List ℕ) (m n : ℕ) → drop (m + n) xs ≡ drop n (drop m xs)
        drop_twice xs zero n = let e : 0 + n ≡ n = omega arith in ap (λ (k : ℕ). drop k xs) e
        drop_twice [] (suc m) n = nothing (suc m + n) ∙ sym (nothing n)
          where
            nothing : (k : ℕ) → drop {A = ℕ} k [] ≡ []
            nothing zero = refl
            nothing (suc k) = refl
        drop_twice (x ∷ xs) (suc m) n = let e : suc m + n ≡ suc (m + n) = omega arith in ap (λ (k : ℕ). drop k (x ∷ xs)) e ∙ drop_twice xs m n

-- The payload as words of the region.
pub word_of : (f : ℕ → ℕ) (at n k : ℕ) → k < n → get_or (words_from f at n) k 0 ≡ f (at + k)
word_of f at zero k lt = absurd (omega (arith, lt))
word_of f at (suc n) zero lt = let e : at ≡ at + 0 = omega arith in ap f e
word_of f at (suc n) (suc k) lt = let e : suc at + k ≡ at + suc k = omega arith in word_of f (suc at) n k (omega (arith, lt)) ∙ ap f e

module _ (f : ℕ → ℕ) (first tail : ℕ) where
  -- an entry that is spelled in the payload
  module _ (x : ℕ × Entry) (s : Spells (words_from f first tail) 0 x) where
    n : ℕ
    n = length (words_of x.1)

    behind_it : drop x.0 (words_from f first tail) ≡ words_of x.1 ++ s.rest
    behind_it = let e : x.0 ≡ x.0 - 0 = omega arith in ap (λ (k : ℕ). drop k (words_from f first tail)) e ∙ s.words

    long : tail - x.0 ≡ length (words_of x.1) + length s.rest
    long = let a = length-drop x.0 (words_from f first tail) in let b = length-words f first tail in let c = ap length behind_it in let d = length-append (words_of x.1) s.rest in omega (arith, a, b, c, d)

    pub entry_fits : x.0 + length (words_of x.1) ≤ tail
    entry_fits = let e = long in let two = (first_is x.1).0 in omega (arith, e, two)

    word_there : (k : ℕ) → k < length (words_of x.1) → f (first + x.0 + k) ≡ get_or (words_of x.1) k 0
    word_there k lt =
        let fits = entry_fits in
        let at : first + (x.0 + k) ≡ first + x.0 + k = omega arith in
        sym (ap f at) ∙ sym (word_of f first tail (x.0 + k) (omega (arith, fits, lt))) ∙ sym (get_or-drop x.0 (words_from f first tail) k 0)
        ∙ ap (λ (l : List ℕ). get_or l k 0) behind_it ∙ get_or_left (words_of x.1) s.rest k lt
      where
        get_or_left : (xs ys : List ℕ) (m : ℕ) → m < length xs → get_or (xs ++ ys) m 0 ≡ get_or xs m 0
        get_or_left [] ys m less = absurd (omega (arith, less))
        get_or_left (a ∷ xs) ys zero less = refl
        get_or_left (a ∷ xs) ys (suc m) less = get_or_left xs ys m (omega (arith, less))

    pub entry_words : words_from f (first + x.0) (length (words_of x.1)) ≡ words_of x.1
    entry_words = words_list f (first + x.0) (words_of x.1) word_there

    alone : read (words_of x.1) ≡ reads.Entry x.1 (length (words_of x.1))
    alone = ap read (sym (append-nil (words_of x.1))) ∙ read_spelled x.1 s.spelling []

    pub entry_fields : (length (words_of x.1) ≡ size_of (f (first + x.0))) × (x.1.key ≡ f (first + x.0 + 1)) × (x.1.version ≡ version_of (f (first + x.0)))
    entry_fields =
        let is = fields_read (words_of x.1) x.1 (length (words_of x.1)) alone in
        let two = (first_is x.1).0 in
        let zero_at : first + x.0 + 0 ≡ first + x.0 = omega arith in
        let head : get_or (words_of x.1) 0 0 ≡ f (first + x.0) = sym (word_there 0 (omega (arith, two))) ∙ ap f zero_at in
        (is.0 ∙ ap size_of head, is.1 ∙ sym (word_there 1 two), is.2 ∙ ap version_of head)

    -- what is read of its words
    pub entry_read : (ws : List ℕ) → ws ≡ words_from f (first + x.0) (length (words_of x.1)) → read (drop 0 ws) ≡ reads.Entry x.1 (length (words_of x.1))
    entry_read ws is = ap read (is ∙ entry_words) ∙ alone

    pub peek_is : Some (record { name = record { key = f (first + x.0 + 1); version = version_of (f (first + x.0)) }; place = x.0; next = x.0 + size_of (f (first + x.0)); at = first + x.0 }) ≡ option_map (peek_at first) (Some x)
    peek_is = let e = entry_fields in (λ i. Some (record { name = record { key = sym e.1 i; version = sym e.2 i }; place = x.0; next = x.0 + sym e.0 i; at = first + x.0 }))

-- what a walk answers where a peek found an entry
pub walk_is : (first place : ℕ) (xs : List (ℕ × Entry)) (p : Peek) (e : Entry) (m : ℕ) (r : Read) → Some p ≡ option_map (peek_at first) (next_entry place xs)
    → ((x : ℕ × Entry) → next_entry place xs ≡ Some x → p ≡ peek_at first x → r ≡ reads.Entry x.1 (length (words_of x.1))) → r ≡ reads.Entry e m
    → Some (record { entry = e; place = p.place; next = p.next }) ≡ option_map step_at (next_entry place xs)
walk_is first place xs p e m r told read_as is = by_next (next_entry place xs) told read_as
  where
    by_next : (o : Option (ℕ × Entry)) → Some p ≡ option_map (peek_at first) o → ((x : ℕ × Entry) → o ≡ Some x → p ≡ peek_at first x → r ≡ reads.Entry x.1 (length (words_of x.1)))
        → Some (record { entry = e; place = p.place; next = p.next }) ≡ option_map step_at o
    by_next None same reads_it = absurd (cc same)
    by_next (Some x) same reads_it =
        let found : p ≡ peek_at first x = cc same in
        let two : reads.Entry e m ≡ reads.Entry x.1 (length (words_of x.1)) = sym is ∙ reads_it x refl found in
        let entry : e ≡ x.1 = cc two in
        (λ i. Some (record { entry = entry i; place = (found i).place; next = (found i).next }))

pub walk_ends : (first place : ℕ) (xs : List (ℕ × Entry)) (p : Peek) (r : Read) → Some p ≡ option_map (peek_at first) (next_entry place xs)
    → ((x : ℕ × Entry) → next_entry place xs ≡ Some x → p ≡ peek_at first x → r ≡ reads.Entry x.1 (length (words_of x.1))) → ((e : Entry) (m : ℕ) → r ≡ reads.Entry e m → ⊥) → ⊥
walk_ends first place xs p r told read_as none = by_next (next_entry place xs) told read_as
  where
    by_next : (o : Option (ℕ × Entry)) → Some p ≡ option_map (peek_at first) o → ((x : ℕ × Entry) → o ≡ Some x → p ≡ peek_at first x → r ≡ reads.Entry x.1 (length (words_of x.1))) → ⊥
    by_next None same reads_it = absurd (cc same)
    by_next (Some x) same reads_it = let found : p ≡ peek_at first x = cc same in none x.1 (length (words_of x.1)) (reads_it x refl found)
