use Rattle.std.proofs.Common.{◌≡◌, map, take}
use Rattle.pm_region.specs.State.{IsTelling}
use Rattle.pm_region.specs.Words.{lasts}
use Rattle.recover.specs.ByName.{name_of}
use Rattle.recover.specs.Winning.{AreSpelled}
use Rattle.recover.specs.FoundEntries.{AreFound, entries_at, name_found}
use Rattle.recover.proofs.reading.read_entries.Given as goal

-- those that were read so far
abbrev pub invariant-loop-x : goal.invariant-loop-x
invariant-loop-x g l = record {
  told : IsTelling (g.R.Region.state l.region) → AreFound l.layout (lasts (g.R.Region.state l.region)) l.found
      → l.entries.items ≡ entries_at l.layout (lasts (g.R.Region.state l.region)) (take l.x-index l.found);
  names : map name_of l.entries.items ≡ map name_found (take l.x-index l.found);
  spelled : AreSpelled l.entries.items;
}
