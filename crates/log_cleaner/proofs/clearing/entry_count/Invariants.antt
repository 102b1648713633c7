use Rattle.std.proofs.Common.{◌≡◌, ◌≤◌, ◌-◌, ◌+◌, ℕ, length}
use Rattle.pm_region.specs.State.{State, IsTelling}
use Rattle.core_log.specs.Log.{LogState, tail_in}
use Rattle.core_log.specs.Walking.{IsReadable, entries_in, behind}
use Rattle.log_cleaner.proofs.clearing.entry_count.Given as goal

pub record SoFar (s : State) (log : LogState) (j place count : ℕ) : Type 0 where
  pub readable : IsReadable s log j place
  pub below : count ≤ place
  pub told : IsTelling s → count + length (behind place (entries_in s log j)) ≡ length (entries_in s log j)

abbrev pub invariant-loop-found : goal.invariant-loop-found
invariant-loop-found g l = SoFar (g.R.Region.state l.region) l.log l.chunk l.place l.count

abbrev pub decreases-loop-found : goal.decreases-loop-found
decreases-loop-found g l = tail_in l.log l.chunk - l.place
