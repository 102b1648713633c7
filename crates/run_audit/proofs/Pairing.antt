-- Two lists side by side.
use Rattle.std.proofs.Common.{◌≡◌, ℕ, zero, suc, ◌+◌, ◌<◌, List, [], ◌∷◌, ◌++◌, length, take, get_or, min, refl, ap, ◌∙◌, arith}
use Rattle.std.proofs.lemmas.List.{take_more}
use Rattle.std.specs.List.{zip}

pub length-zip : {A B : Type 0} (xs : List A) (ys : List B) → length (zip xs ys) ≡ min (length xs) (length ys)
length-zip [] ys = omega arith
length-zip (x ∷ xs) [] = omega arith
length-zip (x ∷ xs) (y ∷ ys) = let h = length-zip xs ys in omega arith

pub get_or-zip : {A B : Type 0} (xs : List A) (ys : List B) (i : ℕ) (a : A) (b : B) → i < length xs → i < length ys
    → get_or (zip xs ys) i (a, b) ≡ (get_or xs i a, get_or ys i b)
get_or-zip [] ys i a b h g = absurd (omega arith)
get_or-zip (x ∷ xs) [] i a b h g = absurd (omega arith)
get_or-zip (x ∷ xs) (y ∷ ys) zero a b h g = refl
get_or-zip (x ∷ xs) (y ∷ ys) (suc i) a b h g = get_or-zip xs ys i a b (omega arith) (omega arith)

pub zip-take : {A B : Type 0} (n : ℕ) (xs : List A) (ys : List B) → zip (take n xs) (take n ys) ≡ take n (zip xs ys)
zip-take zero xs ys = refl
zip-take (suc n) [] ys = refl
zip-take (suc n) (x ∷ xs) [] = refl
zip-take (suc n) (x ∷ xs) (y ∷ ys) = ap (λ l. (x, y) ∷ l) (zip-take n xs ys)

-- one pair more
pub zip_more : {A B : Type 0} (xs : List A) (ys : List B) (i : ℕ) (a : A) (b : B) → i < length xs → i < length ys
    → take (i + 1) (zip xs ys) ≡ take i (zip xs ys) ++ (get_or xs i a, get_or ys i b) ∷ []
zip_more xs ys i a b h g =
    let long : i < length (zip xs ys) = omega (arith, length-zip xs ys) in
    take_more (zip xs ys) i (a, b) long ∙ ap (λ p. take i (zip xs ys) ++ p ∷ []) (get_or-zip xs ys i a b h g)

pub pair_more : {A B : Type 0} (xs : List A) (ys : List B) (i : ℕ) (a : A) (b : B) → i < length xs → i < length ys → a ≡ get_or xs i a → b ≡ get_or ys i b
    → take (i + 1) (zip xs ys) ≡ take i (zip xs ys) ++ (a, b) ∷ []
pair_more xs ys i a b h g x y =
    let e : (get_or xs i a, get_or ys i b) ≡ (a, b) = cc in
    zip_more xs ys i a b h g ∙ ap (λ p. take i (zip xs ys) ++ p ∷ []) e
