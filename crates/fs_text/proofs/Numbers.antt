-- Numbers that are spelled in digits.
use Rattle.std.proofs.Common.{◌≡◌, ℕ, suc, ◌+◌, ◌-◌, ◌*◌, ◌^◌, ◌<◌, ◌≤◌, Bool, true, false, List, [], ◌∷◌, ◌++◌, length, take, drop, get_or, Some, None, refl, sym, ap, ◌∙◌, cond, subst, arith}
use Rattle.std.specs.Prelude.{◌&&◌}
use Rattle.std.specs.List.{fold, list_all}
use Rattle.std.proofs.lemmas.Grind.{common_steps, fold-append}
use Rattle.std.proofs.lemmas.List.{take-append-drop, take_all}
use Rattle.std.proofs.Math.Seq.{drop-cons}
use Rattle.fs_text.specs.Input.{starts_well, is_digit, number_of}
use Rattle.fs_text.specs.Reading.{fitting}

abbrev step : ℕ → ℕ → ℕ
step n b = 10 * n + (b - 48)

grows : (n : ℕ) (bs : List ℕ) → n ≤ fold step n bs
grows n [] = omega arith
grows n (b ∷ bs) = omega (arith, grows (step n b) bs)

too_great : (m : ℕ) → 2 ^ 64 ≤ m → fitting (Some m) ≡ None
too_great m h = grind (arith, common_steps)

fitting_none : (b : Bool) (m : ℕ) → 2 ^ 64 ≤ m → fitting (cond b (Some m) None) ≡ None
fitting_none true m h = too_great m h
fitting_none false m h = refl

not_fitting : (m : ℕ) → None ≡ fitting (Some m) → 2 ^ 64 ≤ m
not_fitting m h = grind (arith, common_steps)

-- once the digits up to one of them are too great, all are
pub digits_too_great : (bs : List ℕ) (i n d : ℕ) → i < length bs → n ≡ fold step 0 (take i bs) → d ≡ get_or bs i 0
    → None ≡ fitting (Some (10 * n + (d - 48))) → None ≡ fitting (number_of bs)
digits_too_great bs i n d h e f none =
    let big : 2 ^ 64 ≤ 10 * n + (d - 48) = not_fitting (10 * n + (d - 48)) none in
    let parts : bs ≡ take i bs ++ (get_or bs i 0 ∷ drop (suc i) bs) = sym (take-append-drop i bs) ∙ ap (λ xs. take i bs ++ xs) (drop-cons bs i 0 h) in
    let value : fold step 0 bs ≡ fold step (step n d) (drop (suc i) bs) =
    ap (λ xs. fold step 0 xs) parts ∙ fold-append step 0 (take i bs) (get_or bs i 0 ∷ drop (suc i) bs) ∙ (rw (← e, ← f) refl) in
    let great : 2 ^ 64 ≤ fold step 0 bs = omega (arith, value, grows (step n d) (drop (suc i) bs)) in
    sym (fitting_none (starts_well bs && list_all is_digit bs) (fold step 0 bs) great)

-- all digits, where the number fits
pub digits_read : (bs : List ℕ) (i n : ℕ) → length bs ≤ i → starts_well bs ≡ true → list_all is_digit (take i bs) ≡ true → n ≡ fold step 0 (take i bs)
    → n < 2 ^ 64 → Some n ≡ fitting (number_of bs)
digits_read bs i n h well digits e small =
    let all : take i bs ≡ bs = take_all i bs h in
    let good : list_all is_digit bs ≡ true = subst (λ xs. list_all is_digit xs ≡ true) all digits in
    let value : n ≡ fold step 0 bs = e ∙ ap (λ xs. fold step 0 xs) all in
    rw (well, good, ← value) (sym (fits n small))
  where
    fits : (m : ℕ) → m < 2 ^ 64 → fitting (Some m) ≡ Some m
    fits m h = grind (arith, common_steps)
