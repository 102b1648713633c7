-- What a call that tries a step makes of a state.
use Rattle.std.specs.Prelude.{◌≡◌, ℕ, Bool, true, false}
use Rattle.group_laws.specs.State.{Group}
use Rattle.group_laws.specs.Runs.{Kind, IsStep}
use Rattle.group_machine.specs.declared.state.GroupState.{GroupState}
use Rattle.group_machine.specs.Shows.{group_of}

-- The step was made. Or it wasn't, the state is as it was, and the step isn't enabled there.
abbrev pub Makes : Bool → GroupState → ℕ → Kind → GroupState → Type 0
Makes true g m kind h = IsStep (group_of g) m kind (group_of h)
Makes false g m kind h = (h ≡ g) × ((u : Group) → IsStep (group_of g) m kind u → ⊥)
