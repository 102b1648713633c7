-- The bytes behind a value, in its last word.
use Rattle.std.proofs.Common.{◌≡◌, ℕ, zero, suc, ◌+◌, ◌-◌, ◌*◌, ◌/◌, ◌≤◌, ◌==◌, List, [], ◌∷◌, ◌++◌, append_assoc, append-nil, length, take, drop, get_or, refl, sym, ◌∙◌, ap, arith, true, false, cond, ltb}
use Rattle.std.specs.Prelude.{slice_index}
use Rattle.std.specs.List.{list_all}
use Rattle.std.specs.Int.{w64, to_le_bytes}
use Rattle.std.proofs.lemmas.Bool.{ltb-true, ltb-false}
use Rattle.std.proofs.lemmas.List.{take_more, length-take-le, get_or-drop, length-drop}
use Rattle.log_entry.specs.Words.{unpacked}
use Rattle.log_entry.specs.Reading.{form_of, length_of, size_of, ends_in_zeros}
use Rattle.log_entry.proofs.Bytes.{length-unpacked}

drop_past : {X : Type 0} (n : ℕ) (xs ys : List X) → drop (length xs + n) (xs ++ ys) ≡ drop n ys
drop_past n [] ys = ap (λ k. drop k ys) (omega arith)
drop_past n (x ∷ xs) ys = let e : length (x ∷ xs) + n ≡ suc (length xs + n) = omega arith in ap (λ k. drop k (x ∷ (xs ++ ys))) e ∙ drop_past n xs ys

drop_none : (n : ℕ) (xs : List ℕ) → length xs ≡ 0 → drop n xs ≡ xs
drop_none zero xs e = refl
drop_none (suc n) [] e = refl
drop_none (suc n) (x ∷ xs) e = absurd (omega (arith, e))

append-unpacked : (a b : List ℕ) → unpacked (a ++ b) ≡ unpacked a ++ unpacked b
append-unpacked [] b = refl
append-unpacked (x ∷ a) b = ap (λ l. to_le_bytes w64 x ++ l) (append-unpacked a b) ∙ sym (append_assoc (to_le_bytes w64 x) (unpacked a) (unpacked b))

-- a value of so many bytes fills all but the last of its words
pub fills : (w : ℕ) → (size_of w ≡ 2 → ⊥) → (3 ≤ size_of w) × (8 * (size_of w - 3) ≤ length_of w)
fills w more = elim (form_of w == 1) as (λ b. (cond b (2 + (length_of w + 7) / 8) 2 ≡ 2 → ⊥) → (3 ≤ cond b (2 + (length_of w + 7) / 8) 2) × (8 * (cond b (2 + (length_of w + 7) / 8) 2 - 3) ≤ length_of w)) [
  | true ↦ λ more. some (length_of w) more
  | false ↦ λ more. absurd (more refl)
] more where
  some : (n : ℕ) → (2 + (n + 7) / 8 ≡ 2 → ⊥) → (3 ≤ 2 + (n + 7) / 8) × (8 * (2 + (n + 7) / 8 - 3) ≤ n)
  some n more = elim (ltb 0 n) as (λ b. ltb 0 n ≡ b → (3 ≤ 2 + (n + 7) / 8) × (8 * (2 + (n + 7) / 8 - 3) ≤ n)) [
    | true ↦ λ e. (let l = ltb-true 0 n e in (omega (arith, l), omega (arith, l)))
    | false ↦ λ e. absurd (more (let l = ltb-false 0 n e in omega (arith, l)))
  ] refl

module _ (ws : List ℕ) where
  abbrev first : ℕ
  first = slice_index ws 0

  -- an entry of two words holds no value
  pub none_held : size_of first ≡ 2 → true ≡ ends_in_zeros ws
  none_held two = sym ((λ i. list_all (λ b. b == 0) (drop (length_of first) (unpacked (take (two i - 2) (drop 2 ws))))) ∙ ap (list_all (λ b. b == 0)) (drop_none (length_of first) [] refl))

  -- another one ends in its last word
  pub last_holds : (n : ℕ) → size_of first ≡ n + 3 → size_of first ≤ length ws → 8 * n ≤ length_of first
      → list_all (λ b. b == 0) (drop (length_of first - 8 * n) (to_le_bytes w64 (slice_index ws (n + 2)))) ≡ ends_in_zeros ws
  last_holds n size whole long =
      let behind = drop 2 ws in
      let x = slice_index ws (n + 2) in
      let room = length-drop 2 ws in
      let one_more : size_of first - 2 ≡ n + 1 = omega (arith, size) in
      let comm : 2 + n ≡ n + 2 = omega arith in
      let words = ap (λ k. take k behind) one_more ∙ take_more behind n 0 (omega (arith, size, whole, room)) ∙ ap (λ y. take n behind ++ y ∷ []) (get_or-drop 2 ws n 0 ∙ ap (λ k. get_or ws k 0) comm) in
      let bytes = ap unpacked words ∙ append-unpacked (take n behind) (x ∷ []) ∙ ap (λ l. unpacked (take n behind) ++ l) (append-nil (to_le_bytes w64 x)) in
      let count = length-unpacked (take n behind) in
      let many = length-take-le n behind (omega (arith, size, whole, room)) in
      let split : length_of first ≡ length (unpacked (take n behind)) + (length_of first - 8 * n) = omega (arith, count, many, long) in
      sym (ap (list_all (λ b. b == 0)) ((λ i. drop (split i) (bytes i)) ∙ drop_past (length_of first - 8 * n) (unpacked (take n behind)) (to_le_bytes w64 x)))
