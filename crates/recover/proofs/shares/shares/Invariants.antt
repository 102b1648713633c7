use Rattle.std.proofs.Common.{◌≡◌, ◌-◌, ◌≤◌, length, take}
use Rattle.pm_region.specs.State.{IsTelling}
use Rattle.pm_region.specs.Words.{lasts}
use Rattle.recover.specs.FoundEntries.{AreFound, entries_at}
use Rattle.recover.specs.Shares.{AreShares, AreSpelledShares}
use Rattle.recover.specs.Winning.{winners_of}
use Rattle.recover.proofs.KeyLaws.{IsNewKey}
use Rattle.recover.proofs.RunLaws.{Begins}
use Rattle.recover.proofs.FaultLaws.{NoneSoFar}
use Rattle.recover.proofs.shares.shares.Given as goal

-- the keys so far were given
abbrev pub invariant-loop-at : goal.invariant-loop-at
invariant-loop-at g l = record {
  count : length l.shares.items ≡ l.layout.cores;
  within : l.at ≤ length l.sorted;
  fresh : IsNewKey l.sorted l.at;
  spelled : AreSpelledShares l.layout l.shares.items;
  told : IsTelling (g.R.Region.state l.region) → AreFound l.layout (lasts (g.R.Region.state l.region)) l.sorted
      → AreShares l.layout (entries_at l.layout (lasts (g.R.Region.state l.region)) (take l.at l.sorted)) l.shares.items;
  begins : Begins l.sorted l.at;
  judged : IsTelling (g.R.Region.state l.region) → AreFound l.layout (lasts (g.R.Region.state l.region)) l.sorted
      → NoneSoFar l.layout (lasts (g.R.Region.state l.region)) l.taken (winners_of (entries_at l.layout (lasts (g.R.Region.state l.region)) (take l.at l.sorted)));
}

abbrev pub decreases-loop-at : goal.decreases-loop-at
decreases-loop-at g l = length l.sorted - l.at
