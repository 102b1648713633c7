-- The loops over heads and over pointers.
use Rattle.std.proofs.Common.{◌≡◌, ⊎_elim, ℕ, zero, suc, ◌+◌, ◌≤◌, ◌<◌, ◌==◌, ◌&&◌, ◌||◌, Bool, true, false, cond, List, [], ◌∷◌, length, get_or, take, refl, sym, ◌∙◌, ap, arith}
use Rattle.std.specs.Prelude.{slice_get, Option, Some}
use Rattle.std.specs.List.{AllByRecursion, list_any}
use Rattle.std.proofs.lemmas.Bool.{cases_eq, eq-eqb, ne_eqb, cond-true, cond-false}
use Rattle.std.proofs.lemmas.Option.{slice_get-get_or}
use Rattle.std.proofs.lemmas.List.Folds.{list_any_more}

pub all_at : {X : Type 0} (P : X → Type 0) (xs : List X) (i : ℕ) (d : X) → AllByRecursion P xs → i < length xs → P (get_or xs i d)
all_at P [] i d all lt = absurd (omega arith)
all_at P (x ∷ xs) zero d all lt = all.0
all_at P (x ∷ xs) (suc i) d all lt = all_at P xs i d all.1 (omega arith)

-- what is noted of the elements before one, and then of that one
pub noted : {X Y : Type 0} (f : Option X → Y) (now old : ℕ → Y) (xs : List X) (i : ℕ) (d : X) → i < length xs → ((j : ℕ) → now j ≡ cond (j == i) (f (Some (get_or xs i d))) (old j))
    → ((j : ℕ) → j < i → old j ≡ f (slice_get xs j)) → (j : ℕ) → j < i + 1 → now j ≡ f (slice_get xs j)
noted f now old xs i d lt step before j less = ⊎_elim
    (λ same. step j ∙ cond-true (j == i) (f (Some (get_or xs i d))) (old j) (eq-eqb j i same) ∙ ap f (sym (slice_get-get_or xs i d lt)) ∙ ap (λ (k : ℕ). f (slice_get xs k)) (sym same))
    (λ ne. step j ∙ cond-false (j == i) (f (Some (get_or xs i d))) (old j) (ne_eqb j i ne) ∙ before j (omega arith))
    (cases_eq j i)

pub not_yet : {Y : Type 0} (now old : ℕ → Y) (x none : Y) (i : ℕ) → ((j : ℕ) → now j ≡ cond (j == i) x (old j)) → ((j : ℕ) → i ≤ j → old j ≡ none) → (j : ℕ) → i + 1 ≤ j → now j ≡ none
not_yet now old x none i step past j le = step j ∙ cond-false (j == i) x (old j) (ne_eqb j i (λ same. absurd (omega arith))) ∙ past j (omega arith)

-- a test at a point
pub at_point : (q x : ℕ) (f : ℕ → Bool) → (q == x && f x) ≡ (q == x && f q)
at_point q x f = ⊎_elim (λ same. ap (λ (y : ℕ). q == x && f y) (sym same)) (λ ne. ap (λ (b : Bool). b && f x) (ne_eqb q x ne) ∙ sym (ap (λ (b : Bool). b && f q) (ne_eqb q x ne))) (cases_eq q x)

-- one pointer more
pub known : (xs : List ℕ) (i d p : ℕ) (some was now : Bool) → i < length xs → was ≡ (list_any (λ q. q == p) (take i xs) && some) → now ≡ ((p == get_or xs i d && some) || was) → now ≡ (list_any (λ q. q == p) (take (i + 1) xs) && some)
known xs i d p some was now lt before step = step ∙ ap (λ (b : Bool). (p == get_or xs i d && some) || b) before ∙ turn (p == get_or xs i d) (list_any (λ q. q == p) (take i xs)) some
    ∙ ap (λ (b : Bool). (list_any (λ q. q == p) (take i xs) || b) && some) (swap p (get_or xs i d)) ∙ ap (λ (b : Bool). b && some) (sym (list_any_more (λ q. q == p) xs i d lt))
  where
    turn : (a b s : Bool) → ((a && s) || (b && s)) ≡ ((b || a) && s)
    turn true true true = refl
    turn true true false = refl
    turn true false true = refl
    turn true false false = refl
    turn false true true = refl
    turn false true false = refl
    turn false false true = refl
    turn false false false = refl

    swap : (a b : ℕ) → (a == b) ≡ (b == a)
    swap a b = ⊎_elim (λ same. eq-eqb a b same ∙ sym (eq-eqb b a (sym same))) (λ ne. ne_eqb a b ne ∙ sym (ne_eqb b a (λ e. ne (sym e)))) (cases_eq a b)
