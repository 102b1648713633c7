-- What is read was spelled so.
use Rattle.std.proofs.Common.{◌≡◌, ◌⊎◌, inl, inr, ℕ, zero, suc, ◌+◌, ◌-◌, ◌^◌, ◌≤◌, ◌<◌, leb, ltb, List, [], ◌∷◌, ◌++◌, length, take, drop, get_or, replicate, refl, sym, ◌∙◌, ap, subst, arith, length-take, take-append-drop, ◌==◌, ◌&&◌, ◌||◌, true, false, Bool, cond, Option, Some, None}
use Rattle.std.proofs.lemmas.Bool.{and_parts, eqb-true, leb-true, ltb-true}
use Rattle.std.specs.List.{list_all, AllByRecursion}
use Rattle.std.specs.Int.{w64, to_le_bytes}
use Rattle.log_entry.specs.declared.entry.Body.{Body}
use Rattle.log_entry.specs.declared.entry.Body.TheVariants.{Pointer, Embedded, Tombstone}
use Rattle.log_entry.specs.declared.entry.Entry.{Entry}
use Rattle.log_entry.specs.declared.entry.Read.TheVariants as reads
use Rattle.log_entry.specs.Words.{words_for, packed_in, packed, unpacked}
use Rattle.log_entry.specs.Spelling.{first_word, body_words, words_of, Fits, HasSpelling}
use Rattle.log_entry.specs.Reading.{op_of, form_of, version_of, high_of, length_of, size_of, has_known_op, has_form_of_op, has_version_of_op, has_no_stray_bits, ends_in_zeros, entry_rule, body_of, entry_of, read_by, read}
use Rattle.log_entry.proofs.Bytes.{AreWords, packed_in-zeros, packed_in-unpacked, length-unpacked, all_zero_is}

-- a word is its fields put together
pub put_together : (w : ℕ) → first_word (op_of w) (form_of w) (version_of w) (high_of w) ≡ w
put_together w = omega arith

guard : (b : Bool) (o : Option ℕ) (r : ℕ) → cond b o (Some r) ≡ None → (b ≡ true) × (o ≡ None)
guard true o r e = (refl, e)
guard false o r e = cc e

either : (a b : Bool) → (a || b) ≡ true → (a ≡ true) ⊎ (b ≡ true)
either true b e = inl refl
either false b e = inr e

pub record Kept (ws : List ℕ) : Type 0 where
  pub k1 : has_known_op (get_or ws 0 0) ≡ true
  pub k2 : has_form_of_op (get_or ws 0 0) ≡ true
  pub k3 : has_version_of_op (get_or ws 0 0) ≡ true
  pub k4 : has_no_stray_bits (get_or ws 0 0) ≡ true
  pub size : size_of (get_or ws 0 0) ≤ length ws
  pub k6 : ends_in_zeros ws ≡ true

pub rules_kept : (ws : List ℕ) → entry_rule ws ≡ None → Kept ws
rules_kept ws e =
    let a = guard (has_known_op (get_or ws 0 0)) _ 1 e in
    let b = guard (has_form_of_op (get_or ws 0 0)) _ 2 a.1 in
    let c = guard (has_version_of_op (get_or ws 0 0)) _ 3 b.1 in
    let d = guard (has_no_stray_bits (get_or ws 0 0)) _ 4 c.1 in
    let s = guard (leb (size_of (get_or ws 0 0)) (length ws)) _ 5 d.1 in
    let z = guard (ends_in_zeros ws) None 6 s.1 in
    record { k1 = a.0; k2 = b.0; k3 = c.0; k4 = d.0; size = leb-true (size_of (get_or ws 0 0)) (length ws) s.0; k6 = z.0 }

eight_bytes : (w : ℕ) (rest : List ℕ) → AllByRecursion (λ b. b < 256) rest → AllByRecursion (λ b. b < 256) (to_le_bytes w64 w ++ rest)
eight_bytes w rest all = (omega arith, (omega arith, (omega arith, (omega arith, (omega arith, (omega arith, (omega arith, (omega arith, all))))))))

unpacked_bytes : (ws : List ℕ) → AllByRecursion (λ b. b < 256) (unpacked ws)
unpacked_bytes [] = tt
unpacked_bytes (w ∷ ws) = eight_bytes w (unpacked ws) (unpacked_bytes ws)

take_all : (n : ℕ) (xs : List ℕ) → AllByRecursion (λ b. b < 256) xs → AllByRecursion (λ b. b < 256) (take n xs)
take_all zero xs h = tt
take_all (suc n) [] h = tt
take_all (suc n) (x ∷ xs) h = (h.0, take_all n xs h.1)

take_words : (n : ℕ) (xs : List ℕ) → AreWords xs → AreWords (take n xs)
take_words zero xs h i = lit where
  lit : 0 < 2 ^ 64
  lit = omega arith
take_words (suc n) [] h i = h i
take_words (suc n) (x ∷ xs) h zero = h 0
take_words (suc n) (x ∷ xs) h (suc i) = take_words n xs (λ j. h (suc j)) i

-- what stands behind the key of a value spells it
module _ (t : List ℕ) (len : ℕ) (words : AreWords t) (many : length t ≡ words_for len) (zeros : list_all (λ b. b == 0) (drop len (unpacked t)) ≡ true) where
  abbrev value : List ℕ
  value = take len (unpacked t)

  pub value_length : length value ≡ len
  value_length = let e = length-unpacked t in length-take len (unpacked t) ∙ omega (arith, e, many)

  pub value_packed : packed value ≡ t
  value_packed =
      let n = words_for len in
      let z = length (drop len (unpacked t)) in
      let tail : drop len (unpacked t) ≡ replicate z 0 = all_zero_is (drop len (unpacked t)) zeros in
      let whole : value ++ replicate z 0 ≡ unpacked t = ap (λ l. value ++ l) (sym tail) ∙ take-append-drop len (unpacked t) in
      ap (λ m. packed_in (words_for m) value) value_length ∙ sym (packed_in-zeros n value z) ∙ ap (packed_in n) whole ∙ ap (λ m. packed_in m (unpacked t)) (sym many) ∙ packed_in-unpacked t words

abbrev pub IsSpelled : (ws : List ℕ) → ℕ → ℕ → Body → Type 0
IsSpelled ws k n b = let v = version_of (get_or ws 0 0) in Fits v b × (n ≡ length (body_words k v b)) × (ws ≡ body_words k v b ++ drop n ws)

module _ (w k : ℕ) (rest : List ℕ) (words : AreWords (w ∷ k ∷ rest)) (kept : Kept (w ∷ k ∷ rest)) where
  abbrev ws : List ℕ
  ws = w ∷ k ∷ rest

  small : version_of w < 2 ^ 20
  small = omega arith

  deleted : op_of w ≡ 2 → IsSpelled ws k (size_of w) (body_of ws)
  deleted o =
      let is : body_of ws ≡ Tombstone = rw o refl in
      let no_put : (op_of w == 1) ≡ false = rw o refl in
      let form : form_of w ≡ 0 = elim (either (form_of w == 0) (form_of w == 1 && op_of w == 1) kept.k2) [
        | inl e ↦ eqb-true (form_of w) 0 e
        | inr e ↦ (let both = and_parts (form_of w == 1) (op_of w == 1) e in cc (both.1, no_put))
      ] in
      let low : 2 ≤ version_of w = leb-true 2 (version_of w) (ap (λ b. cond b (leb 1 (version_of w) && leb (version_of w) 1048574) (leb 2 (version_of w))) (sym no_put) ∙ kept.k3) in
      let is_delete : (op_of w == 2) ≡ true = rw o refl in
      let high : high_of w ≡ 0 = eqb-true (high_of w) 0 (ap (λ b. cond b (high_of w == 0) (cond (form_of w == 1) (ltb (high_of w) 256) true)) (sym is_delete) ∙ kept.k4) in
      let size : size_of w ≡ 2 = rw form refl in
      let top : version_of w ≤ 1048575 = omega arith in
      let first : w ≡ first_word 2 0 (version_of w) 0 = sym (put_together w) ∙ (λ i. first_word (o i) (form i) (version_of w) (high i)) in
      let whole : ws ≡ body_words k (version_of w) Tombstone ++ drop (size_of w) ws = (λ i. first i ∷ k ∷ rest) ∙ ap (λ n. body_words k (version_of w) Tombstone ++ drop n ws) (sym size) in
      subst (IsSpelled ws k (size_of w)) (sym is) ((low, top), size, whole)

  a_put : op_of w ≡ 1 → (1 ≤ version_of w) × (version_of w ≤ 1048574)
  a_put o =
      let is_put : (op_of w == 1) ≡ true = rw o refl in
      let both = and_parts (leb 1 (version_of w)) (leb (version_of w) 1048574) (ap (λ b. cond b (leb 1 (version_of w) && leb (version_of w) 1048574) (leb 2 (version_of w))) (sym is_put) ∙ kept.k3) in
      (leb-true 1 (version_of w) both.0, leb-true (version_of w) 1048574 both.1)

  pointed : op_of w ≡ 1 → form_of w ≡ 0 → IsSpelled ws k (size_of w) (body_of ws)
  pointed o form =
      let is : body_of ws ≡ Pointer (high_of w) = rw (o, form) refl in
      let size : size_of w ≡ 2 = rw form refl in
      let high : high_of w < 2 ^ 40 = let big = words 0 in omega (arith, big) in
      let range = a_put o in
      let first : w ≡ first_word 1 0 (version_of w) (high_of w) = sym (put_together w) ∙ (λ i. first_word (o i) (form i) (version_of w) (high_of w)) in
      let whole : ws ≡ body_words k (version_of w) (Pointer (high_of w)) ++ drop (size_of w) ws = (λ i. first i ∷ k ∷ rest) ∙ ap (λ n. body_words k (version_of w) (Pointer (high_of w)) ++ drop n ws) (sym size) in
      subst (IsSpelled ws k (size_of w)) (sym is) ((range.0, range.1, high), size, whole)

  embedded : op_of w ≡ 1 → form_of w ≡ 1 → IsSpelled ws k (size_of w) (body_of ws)
  embedded o form =
      let len = length_of w in
      let m = words_for len in
      let no_delete : (op_of w == 2) ≡ false = rw o refl in
      let is_form : (form_of w == 1) ≡ true = rw form refl in
      let size : size_of w ≡ 2 + m = ap (λ b. cond b (2 + m) 2) is_form in
      let behind : size_of w - 2 ≡ m = omega (arith, size) in
      let t = take (size_of w - 2) rest in
      let is : body_of ws ≡ Embedded (take len (unpacked t)) =
      ap (λ b. cond b Tombstone (cond (form_of w == 1) (Embedded (take len (unpacked t))) (Pointer (high_of w)))) no_delete ∙ ap (λ b. cond b (Embedded (take len (unpacked t))) (Pointer (high_of w))) is_form in
      let there = kept.size in
      let many : length t ≡ m = length-take (size_of w - 2) rest ∙ omega (arith, there, size) in
      let t_words : AreWords t = take_words (size_of w - 2) rest (λ i. words (suc (suc i))) in
      let n_value = value_length t len t_words many kept.k6 in
      let packs = value_packed t len t_words many kept.k6 in
      let range = a_put o in
      let high : high_of w < 256 = ltb-true (high_of w) 256 (ap (λ b. cond b (ltb (high_of w) 256) true) (sym is_form) ∙ ap (λ b. cond b (high_of w == 0) (cond (form_of w == 1) (ltb (high_of w) 256) true)) (sym no_delete) ∙ kept.k4) in
      let value_high : high_of w ≡ length (take len (unpacked t)) = omega (arith, n_value, high) in
      let short : length (take len (unpacked t)) ≤ 255 = omega (arith, value_high, high) in
      let first : w ≡ first_word 1 1 (version_of w) (length (take len (unpacked t))) = sym (put_together w) ∙ (λ i. first_word (o i) (form i) (version_of w) (value_high i)) in
      let total : size_of w ≡ suc (suc (length (packed (take len (unpacked t))))) = let q = ap length packs in omega (arith, size, q, many) in
      let behind_words : drop (size_of w) ws ≡ drop (size_of w - 2) rest = ap (λ n. drop n ws) size ∙ two m ∙ ap (λ n. drop n rest) (sym behind) in
      let joined : rest ≡ packed (take len (unpacked t)) ++ drop (size_of w) ws = sym (take-append-drop (size_of w - 2) rest) ∙ (λ i. sym packs i ++ sym behind_words i) in
      let whole : ws ≡ body_words k (version_of w) (Embedded (take len (unpacked t))) ++ drop (size_of w) ws = (λ i. first i ∷ k ∷ joined i) in
      subst (IsSpelled ws k (size_of w)) (sym is) ((range.0, range.1, short, take_all len (unpacked t) (unpacked_bytes t)), total, whole)
    where
      two : (m : ℕ) → drop (2 + m) ws ≡ drop m rest
      two m = let e : 2 + m ≡ suc (suc m) = omega arith in ap (λ n. drop n ws) e

  spelled : IsSpelled ws k (size_of w) (body_of ws)
  spelled = elim (either (op_of w == 1) (op_of w == 2) kept.k1) [
    | inl e ↦ (let o = eqb-true (op_of w) 1 e in elim (either (form_of w == 0) (form_of w == 1 && op_of w == 1) kept.k2) [
      | inl f ↦ pointed o (eqb-true (form_of w) 0 f)
      | inr f ↦ embedded o (eqb-true (form_of w) 1 (and_parts (form_of w == 1) (op_of w == 1) f).0)
    ])
    | inr e ↦ deleted (eqb-true (op_of w) 2 e)
  ]

two_words : (w : ℕ) → 2 ≤ size_of w
two_words w = elim (form_of w == 1) as (λ b. 2 ≤ cond b (2 + words_for (length_of w)) 2) [ true ↦ omega arith | false ↦ omega arith ]

-- so far as no rule is broken
kept_spelled : (ws : List ℕ) → AreWords ws → Kept ws → HasSpelling (entry_of ws) × (size_of (get_or ws 0 0) ≡ length (words_of (entry_of ws))) × (ws ≡ words_of (entry_of ws) ++ drop (size_of (get_or ws 0 0)) ws)
kept_spelled [] words kept = let low = two_words 0 in let high = kept.size in let bad : ⊥ = omega (arith, low, high) in absurd bad
kept_spelled (w ∷ []) words kept = let low = two_words w in let high = kept.size in let bad : ⊥ = omega (arith, low, high) in absurd bad
kept_spelled (w ∷ k ∷ rest) words kept = let s = spelled w k rest words kept in (record { key = words 1; fits = s.0 }, s.1, s.2)

-- the answer that an entry was read is that it stands spelled there
pub read_exact : (ws : List ℕ) (e : Entry) (n : ℕ) → AreWords ws → read ws ≡ reads.Entry e n → HasSpelling e × (n ≡ length (words_of e)) × (ws ≡ words_of e ++ drop n ws)
unfolding read
read_exact ws e n words is = by_zero (get_or ws 0 0 == 0) is where
  by_rule : (r : Option ℕ) → entry_rule ws ≡ r → read_by ws r ≡ reads.Entry e n → HasSpelling e × (n ≡ length (words_of e)) × (ws ≡ words_of e ++ drop n ws)
  by_rule None none q =
      let s = kept_spelled ws words (rules_kept ws none) in
      let same : entry_of ws ≡ e = cc q in
      let size : size_of (get_or ws 0 0) ≡ n = cc q in
      let P : Entry → ℕ → Type 0 = λ e n. HasSpelling e × (n ≡ length (words_of e)) × (ws ≡ words_of e ++ drop n ws) in
      subst (λ n. P e n) size (subst (λ e. P e (size_of (get_or ws 0 0))) same s)
  by_rule (Some r) none q = cc q

  by_zero : (b : Bool) → cond b reads.Padding (read_by ws (entry_rule ws)) ≡ reads.Entry e n → HasSpelling e × (n ≡ length (words_of e)) × (ws ≡ words_of e ++ drop n ws)
  by_zero true q = cc q
  by_zero false q = by_rule (entry_rule ws) refl q
