use Rattle.pm_region.specs.State.{IsTelling}
use Rattle.pm_region.specs.Words.{lasts}
use Rattle.recover.specs.FoundEntries.{AreFound}
use Rattle.recover.proofs.FirstClashLaws.{SoFar}
use Rattle.recover.proofs.sorting.first_clash.Given as goal

-- the lowest clash among the neighbours so far
abbrev pub invariant-loop-i : goal.invariant-loop-i
invariant-loop-i g l = IsTelling (g.R.Region.state l.region) → AreFound l.layout (lasts (g.R.Region.state l.region)) l.sorted
    → SoFar l.layout (lasts (g.R.Region.state l.region)) l.sorted l.i l.first
