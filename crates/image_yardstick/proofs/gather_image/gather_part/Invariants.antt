use Rattle.std.proofs.Common.{◌≡◌, ◌-◌, ◌++◌, slice_index}
use Rattle.std.specs.List.{flat_map}
use Rattle.std.specs.Option.{option_or}
use Rattle.std.specs.Prelude.{option_map}
use Rattle.chunk_map.specs.Layouts.{numbers}
use Rattle.store_image.specs.Parts.{chunk_entries, part_entries}
use Rattle.store_image.specs.Soundness.{first_some, damaged, chunk_rule, part_fault}
use Rattle.image_yardstick.proofs.gather_image.gather_part.Given as goal

-- the fault and the entries of the chunks so far, and those of the rest
abbrev pub invariant-loop-chunk : goal.invariant-loop-chunk
invariant-loop-chunk l = record {
  fault : option_or l.fault (first_some (λ j. option_map (damaged l.part j) (chunk_rule l.layout (λ w. slice_index l.words w) l.part j)) (numbers l.chunk (l.layout.chunks - l.chunk))) ≡ part_fault l.layout (λ w. slice_index l.words w) l.part;
  entries : l.entries.items ++ flat_map (λ j. chunk_entries l.layout (λ w. slice_index l.words w) l.part j) (numbers l.chunk (l.layout.chunks - l.chunk)) ≡ l.fn.entries.items ++ part_entries l.layout (λ w. slice_index l.words w) l.part;
}
