use Rattle.std.proofs.Common.{◌≡◌, ◌+◌, ◌-◌, ◌≤◌, ℕ, length}
use Rattle.pm_region.specs.State.{State, IsTelling}
use Rattle.core_log.specs.Log.{LogState, tail_in}
use Rattle.core_log.specs.Walking.{IsReadable, entries_in}
use Rattle.log_standing.specs.NameCounts.{StandingState}
use Rattle.log_cleaner.specs.Clearing.{ClearingState, AreLone, AreNoted}
use Rattle.log_cleaner.proofs.GatherLaws.{Gathering}
use Rattle.log_cleaner.proofs.clearing.Clearing.note_all.Given as goal

pub record SoFar (s : State) (log : LogState) (st : StandingState) (j place : ℕ) (c old : ClearingState) : Type 0 where
  pub readable : IsReadable s log j place
  pub chunk : c.chunk ≡ old.chunk
  pub lone : AreLone st c.doomed
  pub noted : AreNoted c
  pub few : length c.doomed + c.room ≤ old.room
  pub told : IsTelling s → Gathering st (entries_in s log j) place c

abbrev pub invariant-loop-found : goal.invariant-loop-found
invariant-loop-found g l = SoFar (g.R.Region.state l.region) l.log l.standing l.chunk l.place l.self l.fn.self

abbrev pub decreases-loop-found : goal.decreases-loop-found
decreases-loop-found g l = tail_in l.log l.chunk - l.place
