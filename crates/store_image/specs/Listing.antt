-- A list of pairs that shows every cell.
use Rattle.std.specs.Prelude.{◌≡◌, ℕ, ◌<◌, ◌==◌, List, [], ◌∷◌, map, find, Option, Some, None, option_map}
use Rattle.std.specs.List.{AllByRecursion}
use Rattle.fs_model.specs.declared.model.Pair.{Pair}

-- each number is below all behind it
abbrev pub IsRising : List ℕ → Type 0
IsRising [] = Unit {0}
IsRising (x ∷ xs) = AllByRecursion (λ y. x < y) xs × IsRising xs

-- the value beside the key, where the list has the key
abbrev pub lookup : ℕ → List Pair → Option (List ℕ)
lookup k pairs = option_map (λ x. x.value) (find (λ x. x.key == k) pairs)

-- the keys rise, and each key has the value that its cell has, or none
pub record ListsCells (cells : ℕ → Option (List ℕ)) (pairs : List Pair) : Type 0 where
  pub rising : IsRising (map (λ x. x.key) pairs)
  pub each : (k : ℕ) → lookup k pairs ≡ cells k

-- the pair of a key in front, where it is live
abbrev pub with_pair : ℕ → Option (List ℕ) → List Pair → List Pair
with_pair k None pairs = pairs
with_pair k (Some v) pairs = record { key = k; value = v } ∷ pairs
