use Rattle.std.proofs.Common.{◌≡◌, ◌≤◌, ◌-◌, ◌*◌, ℕ, length}
use Rattle.pm_region.specs.State.{State, IsTelling}
use Rattle.log_entry.specs.Buffer.{Buffer}
use Rattle.core_log.specs.Log.{LogState, tail_in}
use Rattle.core_log.specs.Walking.{IsReadable, entries_in}
use Rattle.log_standing.specs.NameCounts.{StandingState}
use Rattle.log_cleaner.specs.CopyBatch.{KeepsNames}
use Rattle.log_cleaner.specs.Tallied.{KeepsTally}
use Rattle.log_cleaner.proofs.Batches.{Collecting}
use Rattle.log_cleaner.proofs.collect_copies.collect_from.Given as goal

pub record SoFar (s : State) (log : LogState) (old st : StandingState) (j place taken : ℕ) (first b : Buffer) : Type 0 where
  pub readable : IsReadable s log j place
  pub most : taken ≤ 64
  pub low : taken ≤ length b.words
  pub high : length b.words ≤ 34 * taken
  pub room : 2176 ≤ b.room
  pub kept : b.room ≡ first.room
  pub settled : st.settled ≡ old.settled
  pub names : KeepsNames old st
  pub tally : KeepsTally old st
  pub told : IsTelling s → Collecting old st (entries_in s log j) place taken b.words

abbrev pub invariant-loop-found : goal.invariant-loop-found
invariant-loop-found g l = SoFar (g.R.Region.state l.region) l.log l.fn.standing l.standing l.chunk l.place l.taken l.fn.buffer l.buffer

abbrev pub decreases-loop-found : goal.decreases-loop-found
decreases-loop-found g l = tail_in l.log l.chunk - l.place
