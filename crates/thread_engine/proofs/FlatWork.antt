-- Work at each place of a list, as its last place is split off.
use Rattle.std.proofs.Common.{◌≡◌, ℕ, zero, suc, ◌+◌, ◌<◌, List, [], ◌∷◌, ◌++◌, length, slice_index_or, slice_set, refl, sym, ap, ◌∙◌, subst, arith, length-append}
use Rattle.thread_engine.specs.FlatWork.{EachChanges}

-- what a call leaves of a list with one element
pub one_changes : {X : Type 0} (R : ℕ → X → X → Type 0) (xs : List X) (e y : X) → length xs ≡ 1
    → R 0 (slice_index_or xs 0 e) y
    → (i : ℕ) (d : X) → i < length xs
    → (slice_index_or (slice_set xs 0 y) i d ≡ slice_index_or (slice_set xs 0 y) i d)
    × R i (slice_index_or xs i d) (slice_index_or (slice_set xs 0 y) i d)
one_changes R [] e y one r i d low = absurd (omega (arith, low))
one_changes R (x ∷ []) e y one r zero d low = (refl, r)
one_changes R (x ∷ []) e y one r (suc i) d low = absurd (omega (arith, low))
one_changes R (x ∷ z ∷ xs) e y one r i d low = absurd (omega (arith, one))

-- what calls leave of a list, and of one element behind it
behind_changes : {X : Type 0} (R : ℕ → X → X → Type 0) (xs ys : List X) (x y : X) → length ys ≡ length xs
    → ((i : ℕ) (d : X) → i < length xs → R i (slice_index_or xs i d) (slice_index_or ys i d)) → R (length xs) x y
    → (i : ℕ) (d : X) → i < length xs + 1
    → R i (slice_index_or (xs ++ x ∷ []) i d) (slice_index_or (ys ++ y ∷ []) i d)
behind_changes R [] [] x y same each r zero d low = r
behind_changes R [] [] x y same each r (suc i) d low = absurd (omega (arith, low))
behind_changes R [] (b ∷ ys) x y same each r i d low = absurd (omega (arith, same))
behind_changes R (a ∷ xs) [] x y same each r i d low = absurd (omega (arith, same))
behind_changes R (a ∷ xs) (b ∷ ys) x y same each r zero d low = each 0 d (omega arith)
behind_changes R (a ∷ xs) (b ∷ ys) x y same each r (suc i) d low =
    behind_changes (λ n. R (suc n)) xs ys x y (omega (arith, same)) (λ j e less. each (suc j) e (omega (arith, less))) r i d (omega (arith, low))

-- the same where the element is a list of its own
parts_change : {X : Type 0} (R : ℕ → X → X → Type 0) (front back rest : List X) (e y : X) → length back ≡ 1
    → length rest ≡ length front → EachChanges R front rest → R (length front) (slice_index_or back 0 e) y
    → (i : ℕ) (d : X) → i < length front + 1
    → R i (slice_index_or (front ++ back) i d) (slice_index_or (rest ++ slice_set back 0 y) i d)
parts_change R front [] rest e y one same each r = absurd (omega (arith, one))
parts_change R front (x ∷ []) rest e y one same each r = behind_changes R front rest x y same each.each r
parts_change R front (x ∷ z ∷ back) rest e y one same each r = absurd (omega (arith, one))

-- what calls leave of a list that is split before its last place
pub split_changes : {X : Type 0} (R : ℕ → X → X → Type 0) (xs front back rest : List X) (e y : X) (at : ℕ)
    → xs ≡ front ++ back → length front ≡ at → at + 1 ≡ length xs → length rest ≡ length front
    → EachChanges R front rest → R at (slice_index_or back 0 e) y
    → (i : ℕ) (d : X) → i < length xs
    → (slice_index_or (rest ++ slice_set back 0 y) i d ≡ slice_index_or (rest ++ slice_set back 0 y) i d)
    × R i (slice_index_or xs i d) (slice_index_or (rest ++ slice_set back 0 y) i d)
split_changes R xs front back rest e y at whole front_len last same each r i d low =
    let lens = ap length whole ∙ length-append front back in
    let all = parts_change R front back rest e y (omega (arith, lens, front_len, last)) same each
    (subst (λ n. R n (slice_index_or back 0 e) y) (sym front_len) r) i d (omega (arith, low, front_len, last)) in
    (refl, subst (λ zs. R i (slice_index_or zs i d) (slice_index_or (rest ++ slice_set back 0 y) i d)) (sym whole) all)
