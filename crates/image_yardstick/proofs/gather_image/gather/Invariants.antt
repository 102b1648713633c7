use Rattle.std.proofs.Common.{◌≡◌, ◌-◌, ◌++◌, slice_index}
use Rattle.std.specs.List.{flat_map}
use Rattle.std.specs.Option.{option_or}
use Rattle.chunk_map.specs.Layouts.{numbers}
use Rattle.store_image.specs.Parts.{part_entries, all_entries}
use Rattle.store_image.specs.Soundness.{first_some, part_fault, chunk_fault}
use Rattle.image_yardstick.proofs.gather_image.gather.Given as goal

-- the fault and the entries of the parts so far, and those of the rest
abbrev pub invariant-loop-part : goal.invariant-loop-part
invariant-loop-part l = record {
  fault : option_or l.fault (first_some (part_fault l.layout (λ w. slice_index l.words w)) (numbers l.part (l.layout.cores - l.part))) ≡ chunk_fault l.layout (λ w. slice_index l.words w);
  entries : l.entries.items ++ flat_map (part_entries l.layout (λ w. slice_index l.words w)) (numbers l.part (l.layout.cores - l.part)) ≡ all_entries l.layout (λ w. slice_index l.words w);
}
