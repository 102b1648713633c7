use Rattle.std.proofs.Common.{◌≡◌, ℕ, ◌-◌, ◌<◌, ◌++◌, map}
use Rattle.std.specs.List.{flat_map}
use Rattle.pm_region.specs.State.{IsTelling}
use Rattle.pm_region.specs.Words.{lasts}
use Rattle.chunk_map.specs.Layouts.{numbers}
use Rattle.store_image.specs.Parts.{part_entries, all_entries}
use Rattle.store_image.specs.Soundness.{first_some, part_fault, chunk_fault}
use Rattle.recover.specs.Logs.{SpellsLog}
use Rattle.recover.specs.FoundEntries.{found_of}
use Rattle.recover.proofs.gather_region.gather.Given as goal

-- no fault so far; the entries of the parts so far, and those of the rest
abbrev pub invariant-loop-part : goal.invariant-loop-part
invariant-loop-part g l = record {
  fault : IsTelling (g.R.Region.state l.region) → first_some (part_fault l.layout (lasts (g.R.Region.state l.region))) (numbers l.part (l.layout.cores - l.part)) ≡ chunk_fault l.layout (lasts (g.R.Region.state l.region));
  entries : IsTelling (g.R.Region.state l.region) → l.found.items ++ map (found_of l.layout) (flat_map (part_entries l.layout (lasts (g.R.Region.state l.region))) (numbers l.part (l.layout.cores - l.part))) ≡ map (found_of l.layout) (all_entries l.layout (lasts (g.R.Region.state l.region)));
  spells : IsTelling (g.R.Region.state l.region) → (c : ℕ) → c < l.part → (j : ℕ) → j < l.layout.chunks → SpellsLog l.layout (lasts (g.R.Region.state l.region)) c j;
}
