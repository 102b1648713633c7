-- Elements of the front of a list.
use Rattle.std.proofs.Common.{◌≡◌, ℕ, ◌+◌, ◌<◌, zero, suc, List, [], ◌∷◌, take, length, get_or, refl, sym, subst, arith, ◌⊎◌, inl, inr}
use Rattle.std.proofs.lemmas.List.{take_more}
use Rattle.store_image.specs.Facts.{In}
use Rattle.group_laws.proofs.Clients.{In-push, In-append_left, In-append_right}

pub In-take_more : {X : Type 0} (x : X) (xs : List X) (i : ℕ) (d : X) → i < length xs → In x (take (i + 1) xs) → (x ≡ get_or xs i d) ⊎ In x (take i xs)
In-take_more x xs i d l q = In-push x (get_or xs i d) (take i xs) (subst (In x) (take_more xs i d l) q)

pub In-at : {X : Type 0} (x : X) (xs : List X) (i : ℕ) (d : X) → i < length xs → get_or xs i d ≡ x → In x xs
In-at x [] i d l e = absurd (omega (arith, l))
In-at x (y ∷ xs) zero d l e = inl (sym e)
In-at x (y ∷ xs) (suc i) d l e = inr (In-at x xs i d (omega (arith, l)) e)

pub In-more : {X : Type 0} (x : X) (xs : List X) (i : ℕ) (d : X) → i < length xs → In x (take i xs) → In x (take (i + 1) xs)
In-more x xs i d l q = subst (In x) (sym (take_more xs i d l)) (In-append_left x (take i xs) (get_or xs i d ∷ []) q)

pub In-here : {X : Type 0} (xs : List X) (i : ℕ) (d : X) → i < length xs → In (get_or xs i d) (take (i + 1) xs)
In-here xs i d l = subst (In (get_or xs i d)) (sym (take_more xs i d l)) (In-append_right (get_or xs i d) (take i xs) (get_or xs i d ∷ []) (inl refl))
