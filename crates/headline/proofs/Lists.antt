-- Lists with one element more, and tests that agree on a list.
use Rattle.std.proofs.Common.{◌≡◌, ℕ, zero, suc, ◌+◌, ◌<◌, ◌≤◌, List, [], ◌∷◌, ◌++◌, length, filter, refl, ◌∙◌, ap, arith, ◌==◌, ◌||◌, true, false, Bool, cond, Some}
use Rattle.std.specs.List.{AllByRecursion, list_any, enumerate_from, zip, find, slice_get}
use Rattle.std.proofs.lemmas.List.Folds.{list_any-append}
use Rattle.fs_model.specs.declared.model.Request.{Request}
use Rattle.fs_model.specs.Cells.{key_of}
use Rattle.fs_model.specs.Changes.{behind_last}

module _ {X : Type 0} (p q : X → Bool) where
  pub filter_same : (xs : List X) → AllByRecursion (λ x. p x ≡ q x) xs → filter p xs ≡ filter q xs
  filter_same [] h = refl
  filter_same (x ∷ xs) h = (λ t. cond (h.0 t) (x ∷ filter_same xs h.1 t) (filter_same xs h.1 t))

  pub any_same : (xs : List X) → AllByRecursion (λ x. p x ≡ q x) xs → list_any p xs ≡ list_any q xs
  any_same [] h = refl
  any_same (x ∷ xs) h = (λ t. h.0 t || any_same xs h.1 t)

  pub behind_same : (xs : List X) → AllByRecursion (λ x. p x ≡ q x) xs → behind_last p xs ≡ behind_last q xs
  behind_same [] h = refl
  behind_same (x ∷ xs) h = (λ t. cond (any_same (x ∷ xs) h t) (behind_same xs h.1 t) (x ∷ xs))

  pub find_same : (xs : List X) → AllByRecursion (λ x. p x ≡ q x) xs → find p xs ≡ find q xs
  find_same [] h = refl
  find_same (x ∷ xs) h = (λ t. cond (h.0 t) (Some x) (find_same xs h.1 t))

module _ {X : Type 0} (p : X → Bool) where
  pub filter_none : (xs : List X) → AllByRecursion (λ x. p x ≡ false) xs → filter p xs ≡ []
  filter_none [] h = refl
  filter_none (x ∷ xs) h = (λ t. cond (h.0 t) (x ∷ filter p xs) (filter p xs)) ∙ filter_none xs h.1

  pub any_none : (xs : List X) → AllByRecursion (λ x. p x ≡ false) xs → list_any p xs ≡ false
  any_none [] h = refl
  any_none (x ∷ xs) h = (λ t. h.0 t || list_any p xs) ∙ any_none xs h.1

  all_behind : (xs : List X) → list_any p xs ≡ false → behind_last p xs ≡ xs
  all_behind [] h = refl
  all_behind (x ∷ xs) h = (λ t. cond (h t) (behind_last p xs) (x ∷ xs))

  or_false : (b : Bool) → (b || false) ≡ b
  or_false true = refl
  or_false false = refl

  or_true : (b : Bool) → (b || true) ≡ true
  or_true true = refl
  or_true false = refl

  -- what passes no test stands behind
  pub behind-append : (xs ys : List X) → list_any p ys ≡ false → behind_last p (xs ++ ys) ≡ behind_last p xs ++ ys
  behind-append [] ys none = all_behind ys none
  behind-append (x ∷ xs) ys none =
      let same : list_any p (x ∷ (xs ++ ys)) ≡ list_any p (x ∷ xs) = list_any-append p (x ∷ xs) ys ∙ ap (λ b. list_any p (x ∷ xs) || b) none ∙ or_false (list_any p (x ∷ xs)) in
      (λ t. cond (same t) (behind-append xs ys none t) (x ∷ (xs ++ ys))) ∙ split (list_any p (x ∷ xs)) where
        split : (b : Bool) → cond b (behind_last p xs ++ ys) (x ∷ (xs ++ ys)) ≡ cond b (behind_last p xs) (x ∷ xs) ++ ys
        split true = refl
        split false = refl

  -- nothing stands behind a last element that passes
  pub behind_end : (xs : List X) (y : X) → p y ≡ true → behind_last p (xs ++ y ∷ []) ≡ []
  behind_end [] y passes = (λ t. cond (passes t || false) [] (y ∷ []))
  behind_end (x ∷ xs) y passes =
      let any : list_any p (x ∷ (xs ++ y ∷ [])) ≡ true = list_any-append p (x ∷ xs) (y ∷ []) ∙ ap (λ b. list_any p (x ∷ xs) || (b || false)) passes ∙ or_true (list_any p (x ∷ xs)) in
      (λ t. cond (any t) (behind_last p (xs ++ y ∷ [])) (x ∷ (xs ++ y ∷ []))) ∙ behind_end xs y passes

pub enumerate-append : {X : Type 0} (n : ℕ) (xs ys : List X) → enumerate_from n (xs ++ ys) ≡ enumerate_from n xs ++ enumerate_from (n + length xs) ys
enumerate-append n [] ys = let z : n ≡ n + 0 = omega arith in ap (λ m. enumerate_from m ys) z
enumerate-append n (x ∷ xs) ys =
    let z : n + 1 + length xs ≡ n + length (x ∷ xs) = omega arith in
    ap (λ l. (n, x) ∷ l) (enumerate-append (n + 1) xs ys) ∙ ap (λ m. (n, x) ∷ (enumerate_from (n + 1) xs ++ enumerate_from m ys)) z

-- what holds of each number holds of each numbered request of a key
pub each_number : (P : ℕ → Type 0) (k n : ℕ) (xs : List Request) → ((m : ℕ) → n ≤ m → m < n + length xs → P m)
    → AllByRecursion (λ (x : ℕ × Request). P x.0) (filter (λ x. key_of x.1 == k) (enumerate_from n xs))
each_number P k n [] h = tt
each_number P k n (x ∷ xs) h =
    let rest = each_number P k (n + 1) xs (λ m low high. h m (omega (arith, low)) (omega (arith, high))) in
    elim (key_of x == k) as (λ b. AllByRecursion (λ (y : ℕ × Request). P y.0) (cond b ((n, x) ∷ filter (λ y. key_of y.1 == k) (enumerate_from (n + 1) xs)) (filter (λ y. key_of y.1 == k) (enumerate_from (n + 1) xs)))) [
      | true ↦ (h n (omega arith) (omega arith), rest)
      | false ↦ rest
    ]

pub zip-append : {X Y : Type 0} (xs : List X) (ys : List Y) (x : X) (y : Y) → length ys ≡ length xs → zip (xs ++ x ∷ []) (ys ++ y ∷ []) ≡ zip xs ys ++ (x, y) ∷ []
zip-append [] [] x y e = refl
zip-append [] (b ∷ ys) x y e = absurd (omega (arith, e))
zip-append (a ∷ xs) [] x y e = absurd (omega (arith, e))
zip-append (a ∷ xs) (b ∷ ys) x y e = ap (λ l. (a, b) ∷ l) (zip-append xs ys x y (omega (arith, e)))

-- the element with a number, of a list with one more
pub get_before : {X : Type 0} (xs : List X) (y : X) (i : ℕ) → i < length xs → slice_get (xs ++ y ∷ []) i ≡ slice_get xs i
get_before [] y i lt = absurd (omega (arith, lt))
get_before (x ∷ xs) y zero lt = refl
get_before (x ∷ xs) y (suc i) lt = get_before xs y i (omega (arith, lt))

pub get_front : {X : Type 0} (xs ys : List X) (i : ℕ) → i < length xs → slice_get (xs ++ ys) i ≡ slice_get xs i
get_front [] ys i lt = absurd (omega (arith, lt))
get_front (x ∷ xs) ys zero lt = refl
get_front (x ∷ xs) ys (suc i) lt = get_front xs ys i (omega (arith, lt))

pub get_end : {X : Type 0} (xs : List X) (y : X) → slice_get (xs ++ y ∷ []) (length xs) ≡ Some y
get_end [] y = refl
get_end (x ∷ xs) y = get_end xs y

-- what holds of each holds of each behind the last that passes
pub each_behind : {X : Type 0} (P : X → Type 0) (p : X → Bool) (xs : List X) → AllByRecursion P xs → AllByRecursion P (behind_last p xs)
each_behind P p [] h = tt
each_behind P p (x ∷ xs) h = elim (list_any p (x ∷ xs)) as (λ b. AllByRecursion P (cond b (behind_last p xs) (x ∷ xs))) [
  | true ↦ each_behind P p xs h.1
  | false ↦ h
]
