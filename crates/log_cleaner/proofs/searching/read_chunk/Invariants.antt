use Rattle.std.proofs.Common.{◌≡◌, ◌≤◌, ◌-◌, ℕ, Bool}
use Rattle.pm_region.specs.State.{State, IsTelling}
use Rattle.core_log.specs.Log.{LogState, tail_in}
use Rattle.core_log.specs.Walking.{IsReadable}
use Rattle.log_standing.specs.NameCounts.{StandingState}
use Rattle.log_cleaner.specs.declared.types.Victim.{Victim}
use Rattle.log_cleaner.specs.Floors.{Searches}
use Rattle.log_cleaner.proofs.SearchLaws.{Looking}
use Rattle.log_cleaner.proofs.searching.read_chunk.Given as goal

pub record SoFar (s : State) (log : LogState) (old st : StandingState) (j place : ℕ) (alone : Bool) (v : Victim) : Type 0 where
  pub readable : IsReadable s log j place
  pub entries : v.entries ≤ place
  pub words : v.words ≤ place
  pub chunk : v.chunk ≡ j
  pub same : Searches old st
  pub floors : st.floors ≡ old.floors
  pub looking : IsTelling s → Looking s log old st j place alone v

abbrev pub invariant-loop-found : goal.invariant-loop-found
invariant-loop-found g l = SoFar (g.R.Region.state l.region) l.log l.fn.standing l.standing l.chunk l.place l.alone l.so_far

abbrev pub decreases-loop-found : goal.decreases-loop-found
decreases-loop-found g l = tail_in l.log l.chunk - l.place
