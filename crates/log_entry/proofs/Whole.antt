-- A payload that is scanned to its end spells batches.
use Rattle.std.proofs.Common.{◌≡◌, ◌≢◌, ℕ, zero, suc, ◌+◌, ◌-◌, ◌%◌, ◌≤◌, ◌<◌, List, [], ◌∷◌, ◌++◌, length, drop, replicate, refl, sym, ◌∙◌, ap, subst, arith, append_assoc, length-append, length-drop, ◌==◌, not, true, false, Bool, cond, Option, Some, None}
use Rattle.std.proofs.lemmas.Bool.{eqb-true, eqb-false, ne_eqb}
use Rattle.std.specs.List.{flat_map, AllByRecursion}
use Rattle.log_entry.specs.declared.entry.Entry.{Entry}
use Rattle.log_entry.specs.declared.entry.Read.{Read}
use Rattle.log_entry.specs.declared.entry.Read.TheVariants as reads
use Rattle.log_entry.specs.declared.entry.Body.{Body}
use Rattle.log_entry.specs.declared.entry.Body.TheVariants.{Pointer, Embedded, Tombstone}
use Rattle.log_entry.specs.Spelling.{words_of, body_words, HasSpelling}
use Rattle.log_entry.specs.Reading.{read, read_by, entry_rule}
use Rattle.log_entry.specs.Batches.{padding, batch_words, IsBatch, SpellsBatches, Scan, broken, with_entry, scan, spells}
use Rattle.log_entry.proofs.Bytes.{AreWords}
use Rattle.log_entry.proofs.Exact.{read_exact}
use Rattle.log_entry.proofs.Scans.{entry_found, line_start, scan_spelled}

-- what stands from a place on: entries, zeros up to the line's end, and batches
record Rest (p : ℕ) (ws : List ℕ) : Type 0 where
  es : List Entry
  bs : List (List Entry)
  spelled : AllByRecursion HasSpelling es
  batches : AllByRecursion IsBatch bs
  words : ws ≡ flat_map words_of es ++ (replicate (padding (p + length (flat_map words_of es))) 0 ++ flat_map batch_words bs)
  begun : p % 8 ≡ 0 → ws ≢ [] → 0 < length es

abbrev IsWhole : Scan → Type 0
IsWhole s = s.whole ≡ true

drop_words : (n : ℕ) (xs : List ℕ) → AreWords xs → AreWords (drop n xs)
drop_words zero xs h = h
drop_words (suc n) [] h = h
drop_words (suc n) (x ∷ xs) h = drop_words n xs (λ j. h (suc j))

zeros_whole : (m q : ℕ) (xs : List ℕ) → (q + m) % 8 ≡ 0 → m < 8 → m ≤ length xs → IsWhole (scan q 0 true xs) → (xs ≡ replicate m 0 ++ drop m xs) × IsWhole (scan (q + m) 0 false (drop m xs))
zeros_whole zero q xs e lt le whole =
    let z : q + 0 ≡ q = omega arith in
    (refl, ap (λ (s : Scan). s.whole) (ap (λ k. scan k 0 false xs) z ∙ sym (line_start q xs (omega (arith, e)))) ∙ whole)
zeros_whole (suc m) q [] e lt le whole = let bad : ⊥ = omega (arith, le) in absurd bad
zeros_whole (suc m) q (x ∷ xs) e lt le whole =
    let inside : (q % 8 == 0) ≡ false = ne_eqb (q % 8) 0 (λ z. omega (arith, e, z, lt)) in
    let here : IsWhole (cond (x == 0) (scan (q + 1) 0 true xs) broken) = ap (λ b. (cond (not b) (cond (x == 0) (scan (q + 1) 0 true xs) broken) (elim (read (x ∷ xs)) as (λ _. Scan) [
      | reads.Entry e n ↦ with_entry q e (scan (q + 1) (n - 1) false xs)
      | reads.Padding ↦ cond (q % 8 == 0) broken (scan (q + 1) 0 true xs)
      | reads.BadEntry rule ↦ broken
    ])).whole) (sym inside) ∙ whole in
    by_zero (x == 0) refl here (λ w. zeros_whole m (q + 1) xs (omega (arith, e)) (omega (arith, lt)) (omega (arith, le)) w)
  where
    by_zero : (b : Bool) → (x == 0) ≡ b → IsWhole (cond b (scan (q + 1) 0 true xs) broken) → (IsWhole (scan (q + 1) 0 true xs) → (xs ≡ replicate m 0 ++ drop m xs) × IsWhole (scan (q + 1 + m) 0 false (drop m xs)))
        → (x ∷ xs ≡ 0 ∷ (replicate m 0 ++ drop m xs)) × IsWhole (scan (q + suc m) 0 false (drop m xs))
    by_zero true z w again =
        let r = again w in
        let first : x ≡ 0 = eqb-true x 0 z in
        let k : q + 1 + m ≡ q + suc m = omega arith in
        ((λ i. first i ∷ r.0 i), ap (λ n. (scan n 0 false (drop m xs)).whole) (sym k) ∙ r.1)
    by_zero false z w again = cc w

-- such a rest at a line's start is batches
as_batches : (p : ℕ) (ws : List ℕ) → p % 8 ≡ 0 → Rest p ws → (bs : List (List Entry)) × AllByRecursion IsBatch bs × (ws ≡ flat_map batch_words bs)
as_batches p [] at r = ([], tt, refl)
as_batches p (w ∷ ws) at r =
    let n = length (flat_map words_of r.es) in
    let pad : padding (p + n) ≡ padding n = omega (arith, at) in
    let is : IsBatch r.es = record { some = r.begun at (λ e. cc e); each = r.spelled } in
    (r.es ∷ r.bs, (is, r.batches), r.words ∙ ap (λ m. flat_map words_of r.es ++ (replicate m 0 ++ flat_map batch_words r.bs)) pad ∙ sym (append_assoc (flat_map words_of r.es) (replicate (padding n) 0) (flat_map batch_words r.bs)))

-- with an entry in front
with_front : (p : ℕ) (ws : List ℕ) (e : Entry) (n : ℕ) → HasSpelling e → n ≡ length (words_of e) → ws ≡ words_of e ++ drop n ws → Rest (p + n) (drop n ws) → Rest p ws
with_front p ws e n has size is r =
    let m = length (flat_map words_of r.es) in
    let long = length-append (words_of e) (flat_map words_of r.es) in
    let k : p + n + m ≡ p + length (words_of e ++ flat_map words_of r.es) = omega (arith, long, size) in
    record {
      es = e ∷ r.es;
      bs = r.bs;
      spelled = (has, r.spelled);
      batches = r.batches;
      words = is ∙ ap (λ l. words_of e ++ l) (r.words ∙ ap (λ x. flat_map words_of r.es ++ (replicate (padding x) 0 ++ flat_map batch_words r.bs)) k) ∙ sym (append_assoc (words_of e) (flat_map words_of r.es) _);
      begun = λ at some. omega arith;
    }

-- with zeros in front, inside a line
with_zeros : (p : ℕ) (ws : List ℕ) (m : ℕ) → p % 8 ≢ 0 → m ≡ padding p → (bs : List (List Entry)) → AllByRecursion IsBatch bs → ws ≡ replicate m 0 ++ flat_map batch_words bs → Rest p ws
with_zeros p ws m inside size bs all is =
    let k : m ≡ padding (p + 0) = let z : p ≡ p + 0 = omega arith in size ∙ ap padding z in
    record {
      es = [];
      bs = bs;
      spelled = tt;
      batches = all;
      words = is ∙ ap (λ x. replicate x 0 ++ flat_map batch_words bs) k;
      begun = λ at some. absurd (inside at);
    }

some_words : (k v : ℕ) (b : Body) → 0 < length (body_words k v b)
some_words k v (Pointer p) = omega arith
some_words k v (Embedded bytes) = omega arith
some_words k v Tombstone = omega arith

-- padding is read at a zero alone
pub read_padding : (w : ℕ) (ws : List ℕ) → read (w ∷ ws) ≡ reads.Padding → w ≡ 0
unfolding read
read_padding w ws is = by_zero (w == 0) refl is where
  no_rule : (r : Option ℕ) → read_by (w ∷ ws) r ≡ reads.Padding → ⊥
  no_rule None e = cc e
  no_rule (Some r) e = cc e

  by_zero : (b : Bool) → (w == 0) ≡ b → cond b reads.Padding (read_by (w ∷ ws) (entry_rule (w ∷ ws))) ≡ reads.Padding → w ≡ 0
  by_zero true z q = eqb-true w 0 z
  by_zero false z q = absurd (no_rule (entry_rule (w ∷ ws)) q)

padded_rest : (fuel p w : ℕ) (ws : List ℕ) → length (w ∷ ws) ≤ suc fuel → (p + length (w ∷ ws)) % 8 ≡ 0 → AreWords (w ∷ ws) → w ≡ 0 → IsWhole (cond (p % 8 == 0) broken (scan (p + 1) 0 true ws))
    → ((q : ℕ) (xs : List ℕ) → length xs ≤ fuel → (q + length xs) % 8 ≡ 0 → AreWords xs → IsWhole (scan q 0 false xs) → Rest q xs) → Rest p (w ∷ ws)
padded_rest fuel p w ws le at words zero_is h again = by_line (p % 8 == 0) refl h where
  go : p % 8 ≢ 0 → IsWhole (scan (p + 1) 0 true ws) → Rest p (w ∷ ws)
  go inside whole =
      let m = padding p - 1 in
      let full : (p + 1 + m) % 8 ≡ 0 = omega (arith, inside) in
      let less : m < 8 = omega arith in
      let there : m ≤ length ws = omega (arith, at, inside) in
      let z = zeros_whole m (p + 1) ws full less there whole in
      let xs = drop m ws in
      let left = length-drop m ws in
      let r = again (p + 1 + m) xs (omega (arith, le, left)) (omega (arith, at, left, there)) (drop_words m ws (λ i. words (suc i))) z.1 in
      let b = as_batches (p + 1 + m) xs full r in
      let size : suc m ≡ padding p = omega (arith, inside) in
      with_zeros p (w ∷ ws) (suc m) inside size b.0 b.1 (λ i. zero_is i ∷ (z.0 ∙ ap (λ l. replicate m 0 ++ l) b.2) i)

  by_line : (b : Bool) → (p % 8 == 0) ≡ b → IsWhole (cond b broken (scan (p + 1) 0 true ws)) → Rest p (w ∷ ws)
  by_line true e q = cc q
  by_line false e q = go (eqb-false (p % 8) 0 e) q

rest_of : (fuel p : ℕ) (ws : List ℕ) → length ws ≤ fuel → (p + length ws) % 8 ≡ 0 → AreWords ws → IsWhole (scan p 0 false ws) → Rest p ws
rest_of fuel p [] le at words whole =
    let none : padding (p + 0) ≡ 0 = omega (arith, at) in
    record { es = []; bs = []; spelled = tt; batches = tt; words = ap (λ x. replicate x 0 ++ []) (sym none); begun = λ a some. absurd (some refl) }
rest_of zero p (w ∷ ws) le at words whole = let bad : ⊥ = omega (arith, le) in absurd bad
rest_of (suc fuel) p (w ∷ ws) le at words whole =
    by_read (read (w ∷ ws)) refl whole (λ q xs short line good w. rest_of fuel q xs short line good w)
  where
    Again : Type 0
    Again = (q : ℕ) (xs : List ℕ) → length xs ≤ fuel → (q + length xs) % 8 ≡ 0 → AreWords xs → IsWhole (scan q 0 false xs) → Rest q xs

    by_read : (r : Read) → read (w ∷ ws) ≡ r
        → IsWhole (elim r as (λ _. Scan) [
          | reads.Entry e n ↦ with_entry p e (scan (p + 1) (n - 1) false ws)
          | reads.Padding ↦ cond (p % 8 == 0) broken (scan (p + 1) 0 true ws)
          | reads.BadEntry rule ↦ broken
        ])
        → ((q : ℕ) (xs : List ℕ) → length xs ≤ fuel → (q + length xs) % 8 ≡ 0 → AreWords xs → IsWhole (scan q 0 false xs) → Rest q xs) → Rest p (w ∷ ws)
    by_read (reads.Entry e n) is _ again =
        let s = read_exact (w ∷ ws) e n words is in
        let rest = drop n (w ∷ ws) in
        let on : scan p 0 false (w ∷ ws) ≡ with_entry p e (scan (p + n) 0 false rest) = ap (scan p 0 false) s.2 ∙ entry_found e s.0 p rest ∙ ap (λ k. with_entry p e (scan (p + k) 0 false rest)) (sym s.1) in
        let left = length-drop n (w ∷ ws) in
        let total : length (w ∷ ws) ≡ n + length rest = ap length s.2 ∙ length-append (words_of e) rest ∙ ap (λ k. k + length rest) (sym s.1) in
        let some : 0 < n = subst (λ k. 0 < k) (sym s.1) (some_words e.key e.version e.body) in
        let whole_rest : IsWhole (scan (p + n) 0 false rest) = ap (λ (s : Scan). s.whole) (sym on) ∙ whole in
        with_front p (w ∷ ws) e n s.0 s.1 s.2 (again (p + n) rest (omega (arith, le, total, some)) (omega (arith, at, total)) (drop_words n (w ∷ ws) words) whole_rest)
    by_read reads.Padding is h again = padded_rest fuel p w ws le at words (read_padding w ws is) h again
    by_read (reads.BadEntry rule) is h again = cc h

-- Both readings of a payload agree: it is scanned to its end exactly where it spells batches.
pub whole_spelled : (ws : List ℕ) → AreWords ws → length ws % 8 ≡ 0 → spells ws ≡ true → (bs : List (List Entry)) × SpellsBatches ws bs
whole_spelled ws words lines whole =
    let r = rest_of (length ws) 0 ws (omega arith) (omega (arith, lines)) words whole in
    let b = as_batches 0 ws refl r in
    (b.0, record { words = b.2; each = b.1 })

pub spelled_whole : (ws : List ℕ) (bs : List (List Entry)) → SpellsBatches ws bs → spells ws ≡ true
spelled_whole ws bs is = ap (λ (s : Scan). s.whole) (scan_spelled ws bs is)
