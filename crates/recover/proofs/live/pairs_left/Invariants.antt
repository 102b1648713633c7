use Rattle.std.proofs.Common.{◌≡◌, ◌≤◌, ◌-◌, length, take}
use Rattle.pm_region.specs.State.{IsTelling}
use Rattle.pm_region.specs.Words.{lasts}
use Rattle.recover.specs.Winning.{winners_of}
use Rattle.recover.specs.Live.{pairs_by}
use Rattle.recover.specs.FoundEntries.{AreFound, entries_at}
use Rattle.recover.proofs.RunLaws.{Begins}
use Rattle.recover.proofs.FaultLaws.{NoneSoFar}
use Rattle.recover.proofs.live.pairs_left.Given as goal

-- the pairs of the keys so far
abbrev pub invariant-loop-at : goal.invariant-loop-at
invariant-loop-at g l = record {
  within : l.at ≤ length l.sorted;
  begins : Begins l.sorted l.at;
  so_far : IsTelling (g.R.Region.state l.region) → AreFound l.layout (lasts (g.R.Region.state l.region)) l.sorted
      → l.pairs.items ≡ pairs_by l.layout (lasts (g.R.Region.state l.region)) (winners_of (entries_at l.layout (lasts (g.R.Region.state l.region)) (take l.at l.sorted)));
  judged : IsTelling (g.R.Region.state l.region) → AreFound l.layout (lasts (g.R.Region.state l.region)) l.sorted
      → NoneSoFar l.layout (lasts (g.R.Region.state l.region)) l.taken (winners_of (entries_at l.layout (lasts (g.R.Region.state l.region)) (take l.at l.sorted)));
}

abbrev pub decreases-loop-at : goal.decreases-loop-at
decreases-loop-at g l = length l.sorted - l.at
