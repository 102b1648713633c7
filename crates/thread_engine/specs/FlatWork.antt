-- What work at the places of a list leaves.
use Rattle.std.specs.Prelude.{ℕ, ◌<◌, List, length, slice_index_or}

-- R holds of one element before and after
pub record Changes {X : Type 0} (R : X → X → Type 0) (x y : X) : Type 0 where
  pub it : R x y

-- R holds of each element, by its place, before and after
pub record EachChanges {X : Type 0} (R : ℕ → X → X → Type 0) (xs ys : List X) : Type 0 where
  pub each : (i : ℕ) (d : X) → i < length xs → R i (slice_index_or xs i d) (slice_index_or ys i d)
