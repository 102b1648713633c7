use Rattle.std.proofs.Common.{◌≡◌, ◌≤◌, ◌-◌, ℕ}
use Rattle.pm_region.specs.State.{State, IsTelling}
use Rattle.core_log.specs.Log.{LogState, tail_in}
use Rattle.core_log.specs.Walking.{IsReadable, entries_in}
use Rattle.log_standing.specs.NameCounts.{StandingState}
use Rattle.log_cleaner.specs.declared.types.Victim.{Victim}
use Rattle.log_cleaner.proofs.CountLaws.{Counted}
use Rattle.log_cleaner.proofs.counting.to_copy.Given as goal

pub record SoFar (s : State) (log : LogState) (st : StandingState) (j place : ℕ) (v : Victim) : Type 0 where
  pub readable : IsReadable s log j place
  pub entries : v.entries ≤ place
  pub words : v.words ≤ place
  pub chunk : v.chunk ≡ j
  pub told : IsTelling s → Counted st (entries_in s log j) place v

abbrev pub invariant-loop-found : goal.invariant-loop-found
invariant-loop-found g l = SoFar (g.R.Region.state l.region) l.log l.standing l.chunk l.place l.so_far

abbrev pub decreases-loop-found : goal.decreases-loop-found
decreases-loop-found g l = tail_in l.log l.chunk - l.place
