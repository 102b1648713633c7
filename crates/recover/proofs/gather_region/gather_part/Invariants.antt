use Rattle.std.proofs.Common.{◌≡◌, ℕ, ◌-◌, ◌<◌, ◌++◌, map}
use Rattle.std.specs.Prelude.{option_map}
use Rattle.std.specs.List.{flat_map}
use Rattle.pm_region.specs.State.{IsTelling}
use Rattle.pm_region.specs.Words.{lasts}
use Rattle.chunk_map.specs.Layouts.{numbers}
use Rattle.store_image.specs.Parts.{chunk_entries, part_entries}
use Rattle.store_image.specs.Soundness.{first_some, damaged, chunk_rule, part_fault}
use Rattle.recover.specs.Logs.{SpellsLog}
use Rattle.recover.specs.FoundEntries.{found_of}
use Rattle.recover.proofs.gather_region.gather_part.Given as goal

-- no fault so far; the entries of the chunks so far, and those of the rest
abbrev pub invariant-loop-chunk : goal.invariant-loop-chunk
invariant-loop-chunk g l = record {
  fault : IsTelling (g.R.Region.state l.region) → first_some (λ j. option_map (damaged l.part j) (chunk_rule l.layout (lasts (g.R.Region.state l.region)) l.part j)) (numbers l.chunk (l.layout.chunks - l.chunk)) ≡ part_fault l.layout (lasts (g.R.Region.state l.region)) l.part;
  entries : IsTelling (g.R.Region.state l.region) → l.found.items ++ map (found_of l.layout) (flat_map (chunk_entries l.layout (lasts (g.R.Region.state l.region)) l.part) (numbers l.chunk (l.layout.chunks - l.chunk))) ≡ l.fn.found.items ++ map (found_of l.layout) (part_entries l.layout (lasts (g.R.Region.state l.region)) l.part);
  spells : IsTelling (g.R.Region.state l.region) → (j : ℕ) → j < l.chunk → SpellsLog l.layout (lasts (g.R.Region.state l.region)) l.part j;
}
