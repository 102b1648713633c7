use Rattle.std.proofs.Common.{◌-◌, ℕ}
use Rattle.pm_region.specs.State.{State}
use Rattle.core_log.specs.Log.{LogState, tail_in}
use Rattle.core_log.specs.Walking.{IsReadable}
use Rattle.log_standing.specs.NameCounts.{StandingState}
use Rattle.log_cleaner.specs.Searching.{Forgets}
use Rattle.log_cleaner.proofs.searching.forget_spots.Given as goal

pub record SoFar (s : State) (log : LogState) (old st : StandingState) (j place : ℕ) : Type 0 where
  pub readable : IsReadable s log j place
  pub forgets : Forgets old st j

abbrev pub invariant-loop-found : goal.invariant-loop-found
invariant-loop-found g l = SoFar (g.R.Region.state l.region) l.log l.fn.standing l.standing l.chunk l.place

abbrev pub decreases-loop-found : goal.decreases-loop-found
decreases-loop-found g l = tail_in l.log l.chunk - l.place
