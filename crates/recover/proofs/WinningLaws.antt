-- Lists of winners.
use Rattle.std.proofs.Common.{inl, inr, ℕ, ◌<◌, List, [], ◌∷◌, arith}
use Rattle.std.specs.List.{AllByRecursion}
use Rattle.store_image.specs.Facts.{In}

pub above_in : (b k : ℕ) (ks : List ℕ) → AllByRecursion (λ y. b < y) ks → In k ks → b < k
above_in b k [] all h = absurd h
above_in b k (x ∷ xs) all (inl p) = let l = all.0 in omega (arith, l, p)
above_in b k (x ∷ xs) all (inr h) = above_in b k xs all.1 h
