-- What is kept of answers, by number.
use Rattle.std.specs.Prelude.{ℕ, ◌<◌, List, [], ◌∷◌, Option, Some, slice_set}
use Rattle.core_worker.specs.declared.types.Answer.{Answer}

-- so much of each answer, kept by its number
abbrev pub stored_by : {X : Type 0} → (Answer → X) → List Answer → List (Option X) → List (Option X)
stored_by f [] ys = ys
stored_by f (x ∷ xs) ys = stored_by f xs (slice_set ys x.number (Some (f x)))

-- each number has a place
abbrev pub HavePlaces : ℕ → List Answer → Type 0
HavePlaces n [] = Unit {0}
HavePlaces n (x ∷ xs) = (x.number < n) × HavePlaces n xs
