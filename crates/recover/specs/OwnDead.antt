-- Which names of its own log a core begins with as told dead.
use Rattle.std.specs.Prelude.{◌≡◌, ℕ, ◌&&◌, List, is_some}
pub use Rattle.core_index.specs.Records.{is_dead_in}
use Rattle.core_index.specs.Index.{known_at}
use Rattle.core_index.specs.Slots.{Place}
use Rattle.log_standing.specs.NameCounts.{StandingState, copies_at, is_told}

-- Exactly those names of the own log were told dead that stand and are dead by the index.
abbrev pub TellsOwn : StandingState → List (ℕ × Place) → Type 0
TellsOwn st es = (k v : ℕ) → is_told st k v ≡ (is_some (copies_at st k v) && is_dead_in
    (known_at es k) v)
