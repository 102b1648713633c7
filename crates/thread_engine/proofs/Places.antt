-- Items of lists by their places, and blocks of items one after another.
use Rattle.std.proofs.Common.{◌≡◌, ◌⊎◌, inl, inr, ℕ, zero, suc, ◌+◌, ◌*◌, ◌<◌, ◌≤◌, ◌||◌, Bool, true, false, List, [], ◌∷◌, ◌++◌, map, length, Some, refl, sym, ◌∙◌, ap, arith, slice_index_or}
use Rattle.std.specs.List.{slice_get, list_any}
use Rattle.std.proofs.Math.Nat.{mul-le-mul}
use mathlib.Core.Option.{some}
use lib.ListN.{get_elem?}

pub get_more : {X : Type 0} (xs : List X) (y z : X) (n : ℕ) → slice_get (xs ++ y ∷ []) n ≡ Some z → (slice_get xs n ≡ Some z) ⊎ ((n ≡ length xs) × (z ≡ y))
get_more [] y z zero e = inr (refl, cc e)
get_more [] y z (suc n) e = absurd (cc e)
get_more (x ∷ xs) y z zero e = inl e
get_more (x ∷ xs) y z (suc n) e = elim (get_more xs y z n e) [
  | inl h ↦ inl h
  | inr h ↦ inr (ap suc h.0, h.1)
]

pub get_low : {X : Type 0} (xs : List X) (n : ℕ) (x : X) → slice_get xs n ≡ Some x → n < length xs
get_low [] n x e = absurd (cc e)
get_low (y ∷ ys) zero x e = omega arith
get_low (y ∷ ys) (suc n) x e = let r = get_low ys n x e in omega (arith, r)

pub get_at : {X : Type 0} (xs : List X) (n : ℕ) → n < length xs → (x : X) × (slice_get xs n ≡ Some x)
get_at [] n low = absurd (omega (arith, low))
get_at (x ∷ xs) zero low = (x, refl)
get_at (x ∷ xs) (suc n) low = get_at xs n (omega (arith, low))

pub get_index : {X : Type 0} (xs : List X) (n : ℕ) (x d : X) → slice_get xs n ≡ Some x → slice_index_or xs n d ≡ x
get_index [] n x d e = absurd (cc e)
get_index (y ∷ ys) zero x d e = cc e
get_index (y ∷ ys) (suc n) x d e = get_index ys n x d e

pub get_there : {X : Type 0} (xs : List X) (n : ℕ) (d : X) → n < length xs → slice_get xs n ≡ Some (slice_index_or xs n d)
get_there [] n d low = absurd (omega (arith, low))
get_there (x ∷ xs) zero d low = refl
get_there (x ∷ xs) (suc n) d low = get_there xs n d (omega (arith, low))

pub get_front : {X : Type 0} (xs ys : List X) (n : ℕ) → n < length xs → slice_get (xs ++ ys) n ≡ slice_get xs n
get_front [] ys n low = absurd (omega (arith, low))
get_front (x ∷ xs) ys zero low = refl
get_front (x ∷ xs) ys (suc n) low = get_front xs ys n (omega (arith, low))

pub get_behind : {X : Type 0} (xs ys : List X) (n : ℕ) → slice_get (xs ++ ys) (length xs + n) ≡ slice_get ys n
get_behind [] ys n = let z : 0 + n ≡ n = omega arith in ap (slice_get ys) z
get_behind {X} (x ∷ xs) ys n = let z : length (x ∷ xs) + n ≡ suc (length xs + n) = omega arith in ap (slice_get (x ∷ (xs ++ ys))) z ∙ get_behind xs ys n

pub get_map : {X Y : Type 0} (f : X → Y) (xs : List X) (n : ℕ) (x : X) → slice_get xs n ≡ Some x → slice_get (map f xs) n ≡ Some (f x)
get_map f [] n x e = absurd (cc e)
get_map f (y ∷ ys) zero x e = (let same : y ≡ x = cc e in ap (λ z. Some (f z)) same)
get_map f (y ∷ ys) (suc n) x e = get_map f ys n x e

pub map_get : {X Y : Type 0} (f : X → Y) (xs : List X) (n : ℕ) (y : Y) → slice_get (map f xs) n ≡ Some y → (x : X) × (slice_get xs n ≡ Some x) × (y ≡ f x)
map_get f [] n y e = absurd (cc e)
map_get f (x ∷ xs) zero y e = (x, refl, (let same : f x ≡ y = cc e in sym same))
map_get f (x ∷ xs) (suc n) y e = map_get f xs n y e

pub map_long : {X Y : Type 0} (f : X → Y) (xs : List X) → length (map f xs) ≡ length xs
map_long f [] = refl
map_long f (x ∷ xs) = let r = map_long f xs in omega (arith, r)

-- the same place in the other words
pub as_elem : {X : Type 0} (xs : List X) (n : ℕ) (x : X) → slice_get xs n ≡ Some x → get_elem? xs n ≡ some x
as_elem [] n x e = absurd (cc e)
as_elem (y ∷ ys) zero x e = (let same : y ≡ x = cc e in ap some same)
as_elem (y ∷ ys) (suc n) x e = as_elem ys n x e

pub as_get : {X : Type 0} (xs : List X) (n : ℕ) (x : X) → get_elem? xs n ≡ some x → slice_get xs n ≡ Some x
as_get [] n x e = absurd (cc e)
as_get (y ∷ ys) zero x e = (let same : y ≡ x = cc e in ap Some same)
as_get (y ∷ ys) (suc n) x e = as_get ys n x e

-- a place in the block of a lower number
pub in_block : (g m n k : ℕ) → g < k → m < n → g * n + m < k * n
in_block g m n k low less =
    let up : (g + 1) * n ≤ k * n = mul-le-mul {n₁ = g + 1} {m₁ = n} {n₂ = k} {m₂ = n} (omega (arith, low)) (omega arith) in
    let one : (g + 1) * n ≡ g * n + n = omega arith in
    omega (arith, up, one, less)

-- whether a test holds somewhere
pub any_at : {X : Type 0} (p : X → Bool) (xs : List X) (n : ℕ) (x : X) → slice_get xs n ≡ Some x → p x ≡ true → list_any p xs ≡ true
any_at p [] n x at e = absurd (cc at)
any_at p (y ∷ ys) zero x at e = (let same : y ≡ x = cc at in ap (λ b. b || list_any p ys) (ap p same ∙ e))
any_at p (y ∷ ys) (suc n) x at e = by (p y) (any_at p ys n x at e) where
  by : (b : Bool) → list_any p ys ≡ true → (b || list_any p ys) ≡ true
  by true h = refl
  by false h = h

pub any_in : {X : Type 0} (p : X → Bool) (xs : List X) → list_any p xs ≡ true → (n : ℕ) × (x : X) × (slice_get xs n ≡ Some x) × (p x ≡ true)
any_in p [] e = absurd (cc e)
any_in {X} p (y ∷ ys) e = by (p y) refl e (any_in p ys) where
  by : (b : Bool) → p y ≡ b → (b || list_any p ys) ≡ true → (list_any p ys ≡ true → (n : ℕ) × (x : X) × (slice_get ys n ≡ Some x) × (p x ≡ true)) → (n : ℕ) × (x : X) × (slice_get (y ∷ ys) n ≡ Some x) × (p x ≡ true)
  by true t h again = (0, y, refl, t)
  by false t h again = (let r = again h in (suc r.0, r.1, r.2, r.3))
