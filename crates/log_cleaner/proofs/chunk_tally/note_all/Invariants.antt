use Rattle.std.proofs.Common.{◌≡◌, ◌-◌, ℕ}
use Rattle.pm_region.specs.State.{State, IsTelling}
use Rattle.core_log.specs.Log.{LogState, tail_in}
use Rattle.core_log.specs.Walking.{IsReadable, entries_in}
use Rattle.log_standing.specs.Tallies.{TallyState}
use Rattle.log_cleaner.proofs.TallyLaws.{IsBelow, Tallying}
use Rattle.log_cleaner.proofs.chunk_tally.note_all.Given as goal

pub record SoFar (s : State) (log : LogState) (j place : ℕ) (t old : TallyState) : Type 0 where
  pub readable : IsReadable s log j place
  pub below : IsBelow t place
  pub left : t.left ≡ old.left
  pub told : IsTelling s → Tallying t (entries_in s log j) place

abbrev pub invariant-loop-found : goal.invariant-loop-found
invariant-loop-found g l = SoFar (g.R.Region.state l.region) l.log l.chunk l.place l.tally l.fn.tally

abbrev pub decreases-loop-found : goal.decreases-loop-found
decreases-loop-found g l = tail_in l.log l.chunk - l.place
