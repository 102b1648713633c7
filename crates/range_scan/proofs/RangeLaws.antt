-- The part of a rising list that a range keeps.
use Rattle.std.proofs.Common.{◌≡◌, ⊎_elim, ℕ, zero, suc, ◌<◌, ◌≤◌, ◌&&◌, not, ltb, leb, List, [], ◌∷◌, length, take, drop, get_or, Bool, true, false, cond, refl, sym, ◌∙◌, ap, arith}
use Rattle.std.specs.List.{AllByRecursion, filter}
use Rattle.std.specs.List.Sorted.{IsNonDecreasingBy}
use Rattle.std.proofs.lemmas.Bool.{cond-true, cond-false, cases_lt, cases_eq, lt-ltb, le-ltb, le-leb, lt-leb}
use Rattle.store_image.specs.Listing.{IsRising}
use Rattle.range_scan.specs.Ranges.{is_within}

all_at : (P : ℕ → Type 0) (xs : List ℕ) (i d : ℕ) → AllByRecursion P xs → i < length xs → P (get_or xs i d)
all_at P [] i d all lt = absurd (omega (arith, lt))
all_at P (x ∷ xs) zero d all lt = all.0
all_at P (x ∷ xs) (suc i) d all lt = all_at P xs i d all.1 (omega (arith, lt))

rises_pair : (xs : List ℕ) (i j d : ℕ) → IsRising xs → i < j → j < length xs → get_or xs i d < get_or xs j d
rises_pair [] i j d rising lt within = absurd (omega (arith, within))
rises_pair (x ∷ xs) i zero d rising lt within = absurd (omega (arith, lt))
rises_pair (x ∷ xs) zero (suc j) d rising lt within = all_at (λ y. x < y) xs j d rising.0 (omega (arith, within))
rises_pair (x ∷ xs) (suc i) (suc j) d rising lt within = rises_pair xs i j d rising.1 (omega (arith, lt)) (omega (arith, within))

pub never_falls : (xs : List ℕ) → IsRising xs → IsNonDecreasingBy (λ k. k) xs
never_falls xs rising = λ i j d le within. ⊎_elim
    (λ (same : i ≡ j). let e = ap (λ (n : ℕ). get_or xs n d) same in omega (arith, e))
    (λ (ne : i ≡ j → ⊥). ⊎_elim (λ (lt : i < j). let less = rises_pair xs i j d rising lt within in omega (arith, less)) (λ (ge : j ≤ i). absurd (ne (omega (arith, le, ge)))) (cases_lt i j))
    (cases_eq i j)

all_taken : (P : ℕ → Type 0) (n : ℕ) (xs : List ℕ) → AllByRecursion P xs → AllByRecursion P (take n xs)
all_taken P zero xs all = tt
all_taken P (suc n) [] all = tt
all_taken P (suc n) (x ∷ xs) all = (all.0, all_taken P n xs all.1)

pub rising_taken : (n : ℕ) (xs : List ℕ) → IsRising xs → IsRising (take n xs)
rising_taken zero xs rising = tt
rising_taken (suc n) [] rising = tt
rising_taken (suc n) (x ∷ xs) rising = (all_taken (λ y. x < y) n xs rising.0, rising_taken n xs rising.1)

-- the front passes a test, and the rest fails it
pub front_passes : (p : ℕ → Bool) (xs : List ℕ) (n : ℕ) → ((i d : ℕ) → i < n → i < length xs → p (get_or xs i d) ≡ true) → ((i d : ℕ) → n ≤ i → i < length xs → p (get_or xs i d) ≡ false) → take n xs ≡ filter p xs
front_passes p [] zero a b = refl
front_passes p [] (suc n) a b = refl
front_passes p (x ∷ xs) zero a b =
    front_passes p xs zero (λ i d lt within. absurd (omega (arith, lt))) (λ i d le within. b (suc i) d (omega arith) (omega (arith, within)))
    ∙ sym (cond-false (p x) (x ∷ filter p xs) (filter p xs) (b 0 x (omega arith) (omega arith)))
front_passes p (x ∷ xs) (suc n) a b =
    ap (λ ys. x ∷ ys) (front_passes p xs n (λ i d lt within. a (suc i) d (omega (arith, lt)) (omega (arith, within))) (λ i d le within. b (suc i) d (omega (arith, le)) (omega (arith, within))))
    ∙ sym (cond-true (p x) (x ∷ filter p xs) (filter p xs) (a 0 x (omega arith) (omega arith)))

pub rest_passes : (p q : ℕ → Bool) → ((k : ℕ) → q k ≡ not (p k)) → (xs : List ℕ) (n : ℕ) → ((i d : ℕ) → i < n → i < length xs → p (get_or xs i d) ≡ true) → ((i d : ℕ) → n ≤ i → i < length xs → p (get_or xs i d) ≡ false) → drop n xs ≡ filter q xs
rest_passes p q other [] zero a b = refl
rest_passes p q other [] (suc n) a b = refl
rest_passes p q other (x ∷ xs) zero a b =
    ap (λ ys. x ∷ ys) (rest_passes p q other xs zero (λ i d lt within. absurd (omega (arith, lt))) (λ i d le within. b (suc i) d (omega arith) (omega (arith, within))))
    ∙ sym (cond-true (q x) (x ∷ filter q xs) (filter q xs) (other x ∙ ap not (b 0 x (omega arith) (omega arith))))
rest_passes p q other (x ∷ xs) (suc n) a b =
    rest_passes p q other xs n (λ i d lt within. a (suc i) d (omega (arith, lt)) (omega (arith, within))) (λ i d le within. b (suc i) d (omega (arith, le)) (omega (arith, within)))
    ∙ sym (cond-false (q x) (x ∷ filter q xs) (filter q xs) (other x ∙ ap not (a 0 x (omega arith) (omega arith))))

pub not_below : (lo k : ℕ) → leb lo k ≡ not (ltb k lo)
not_below lo k = ⊎_elim
    (λ (lt : k < lo). lt-leb lo k lt ∙ ap not (sym (lt-ltb k lo lt)))
    (λ (ge : lo ≤ k). le-leb lo k ge ∙ ap not (sym (le-ltb k lo ge)))
    (cases_lt k lo)

both_more : (lo hi x : ℕ) (xs : List ℕ) → filter (λ k. leb lo k) (filter (λ k. leb k hi) xs) ≡ filter (is_within lo hi) xs → filter (λ k. leb lo k) (filter (λ k. leb k hi) (x ∷ xs)) ≡ filter (is_within lo hi) (x ∷ xs)
both_more lo hi x xs again = outer (leb x hi) where
  inner : (b : Bool) → cond b (x ∷ filter (λ k. leb lo k) (filter (λ k. leb k hi) xs)) (filter (λ k. leb lo k) (filter (λ k. leb k hi) xs)) ≡ cond (b && true) (x ∷ filter (is_within lo hi) xs) (filter (is_within lo hi) xs)
  inner true = ap (λ ys. x ∷ ys) again
  inner false = again

  none : (b : Bool) → filter (is_within lo hi) xs ≡ cond (b && false) (x ∷ filter (is_within lo hi) xs) (filter (is_within lo hi) xs)
  none true = refl
  none false = refl

  outer : (c : Bool) → filter (λ k. leb lo k) (cond c (x ∷ filter (λ k. leb k hi) xs) (filter (λ k. leb k hi) xs)) ≡ cond (leb lo x && c) (x ∷ filter (is_within lo hi) xs) (filter (is_within lo hi) xs)
  outer true = inner (leb lo x)
  outer false = again ∙ none (leb lo x)

-- two tests, one behind the other
pub both_pass : (lo hi : ℕ) (xs : List ℕ) → filter (λ k. leb lo k) (filter (λ k. leb k hi) xs) ≡ filter (is_within lo hi) xs
both_pass lo hi [] = refl
both_pass lo hi (x ∷ xs) = both_more lo hi x xs (both_pass lo hi xs)
