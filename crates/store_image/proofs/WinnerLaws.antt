-- The winner of a list of entries with more behind it, and the cell that it leaves.
use Rattle.std.proofs.Common.{◌≡◌, ℕ, ◌<◌, List, [], ◌∷◌, ◌++◌, refl, sym, ◌∙◌, ap, arith, ◌==◌, true, false, cond, Option, Some, None, ltb}
use Rattle.std.proofs.lemmas.Bool.{ltb-true, ltb-false, lt-ltb, le-ltb, eq-eqb}
use Rattle.store_image.specs.declared.types.PlacedEntry.{PlacedEntry}
use Rattle.store_image.specs.Winners.{better, winner_in}

-- the better of two, either of which may be missing
abbrev pub best : Option PlacedEntry → Option PlacedEntry → Option PlacedEntry
best None y = y
best (Some x) y = Some (better x y)

better_assoc : (x y : PlacedEntry) (o : Option PlacedEntry) → better x (Some (better y o)) ≡ better (better x (Some y)) o
better_assoc x y None = refl
better_assoc x y (Some z) = elim (ltb x.entry.version y.entry.version) as (λ b. ltb x.entry.version y.entry.version ≡ b → better x (Some (better y (Some z))) ≡ better (better x (Some y)) (Some z)) [
  | true ↦ λ e. grind (arith, ltb-true x.entry.version y.entry.version e, e)
  | false ↦ λ e. grind (arith, ltb-false x.entry.version y.entry.version e, e)
] refl

-- the winner of both lists is the better of their winners
pub winner-append : (k : ℕ) (xs ys : List PlacedEntry) → winner_in k (xs ++ ys) ≡ best (winner_in k xs) (winner_in k ys)
winner-append k [] ys = refl
winner-append k (x ∷ xs) ys = elim (x.entry.key == k) as (λ b. cond b (Some (better x (winner_in k (xs ++ ys)))) (winner_in k (xs ++ ys)) ≡ best (cond b (Some (better x (winner_in k xs))) (winner_in k xs)) (winner_in k ys)) [
  | true ↦ ap (λ o. Some (better x o)) (winner-append k xs ys) ∙ joined (winner_in k xs)
  | false ↦ winner-append k xs ys
] where
  joined : (o : Option PlacedEntry) → Some (better x (best o (winner_in k ys))) ≡ Some (better (better x o) (winner_in k ys))
  joined None = refl
  joined (Some y) = ap Some (better_assoc x y (winner_in k ys))

-- entries of other keys change nothing
pub winner-others : (k : ℕ) (xs ys : List PlacedEntry) → winner_in k ys ≡ None → winner_in k (xs ++ ys) ≡ winner_in k xs
winner-others k xs ys none = winner-append k xs ys ∙ ap (best (winner_in k xs)) none ∙ same (winner_in k xs) where
  same : (o : Option PlacedEntry) → best o None ≡ o
  same None = refl
  same (Some x) = refl

-- an entry of greater version wins
pub winner-newer : (k : ℕ) (xs : List PlacedEntry) (x : PlacedEntry) → x.entry.key ≡ k → ((y : PlacedEntry) → winner_in k xs ≡ Some y → y.entry.version < x.entry.version) → winner_in k (xs ++ x ∷ []) ≡ Some x
winner-newer k xs x is newer =
    let own : winner_in k (x ∷ []) ≡ Some x = rw (eq-eqb x.entry.key k is) refl in
    winner-append k xs (x ∷ []) ∙ ap (best (winner_in k xs)) own ∙ beats (winner_in k xs) newer where
      beats : (o : Option PlacedEntry) → ((y : PlacedEntry) → o ≡ Some y → y.entry.version < x.entry.version) → best o (Some x) ≡ Some x
      beats None less = refl
      beats (Some y) less = rw (lt-ltb y.entry.version x.entry.version (less y refl)) refl

best_assoc : (a b c : Option PlacedEntry) → best a (best b c) ≡ best (best a b) c
best_assoc None b c = refl
best_assoc (Some x) None c = refl
best_assoc (Some x) (Some y) c = ap Some (better_assoc x y c)

-- entries of other keys, wherever they are put
pub winner-skipped : (k : ℕ) (a xs b : List PlacedEntry) → winner_in k xs ≡ None → winner_in k (a ++ (xs ++ b)) ≡ winner_in k (a ++ b)
winner-skipped k a xs b none = winner-append k a (xs ++ b) ∙ ap (best (winner_in k a)) (winner-append k xs b ∙ ap (λ o. best o (winner_in k b)) none) ∙ sym (winner-append k a b)

-- An entry of greater version wins, wherever it is put. So what its key recovers is what it leaves.
pub winner-inserted : (k : ℕ) (a b : List PlacedEntry) (x : PlacedEntry) → x.entry.key ≡ k → ((y : PlacedEntry) → winner_in k (a ++ b) ≡ Some y → y.entry.version < x.entry.version) → winner_in k (a ++ (x ∷ b)) ≡ Some x
winner-inserted k a b x is newer =
    let own : winner_in k (x ∷ b) ≡ Some (better x (winner_in k b)) = rw (eq-eqb x.entry.key k is) refl in
    winner-append k a (x ∷ b) ∙ ap (best (winner_in k a)) own ∙ beats (winner_in k a) (winner_in k b) (λ y e. newer y (winner-append k a b ∙ e)) where
      beats : (o p : Option PlacedEntry) → ((y : PlacedEntry) → best o p ≡ Some y → y.entry.version < x.entry.version) → best o (Some (better x p)) ≡ Some x
      beats None None less = refl
      beats None (Some z) less = rw (le-ltb x.entry.version z.entry.version (let lt = less z refl in omega (arith, lt))) refl
      beats (Some y) None less = rw (lt-ltb y.entry.version x.entry.version (less y refl)) refl
      beats (Some y) (Some z) less =
          let lt = less (better y (Some z)) refl in
          let both = above y z lt in
          rw (le-ltb x.entry.version z.entry.version (let l = both.1 in omega (arith, l))) (rw (lt-ltb y.entry.version x.entry.version both.0) refl)
        where
          above : (y z : PlacedEntry) → (better y (Some z)).entry.version < x.entry.version → (y.entry.version < x.entry.version) × (z.entry.version < x.entry.version)
          above y z = elim (ltb y.entry.version z.entry.version) as (λ b. ltb y.entry.version z.entry.version ≡ b → (cond b z y).entry.version < x.entry.version → (y.entry.version < x.entry.version) × (z.entry.version < x.entry.version)) [
            | true ↦ λ e lt. (let l = ltb-true y.entry.version z.entry.version e in (omega (arith, l, lt), lt))
            | false ↦ λ e lt. (let l = ltb-false y.entry.version z.entry.version e in (lt, omega (arith, l, lt)))
          ] refl
