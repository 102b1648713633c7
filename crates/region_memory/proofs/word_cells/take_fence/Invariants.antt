use Rattle.std.proofs.Common.{take}
use Rattle.pm_region.specs.Cell.{HasValue}
use Rattle.region_memory.specs.CellLists.{Acts}
use Rattle.region_memory.proofs.word_cells.take_fence.Given as goal

abbrev pub invariant-loop-k : goal.invariant-loop-k
invariant-loop-k l = Acts l.step l.first l.initial.cells.items l.cells.items (λ k. HasValue (take l.k-index l.open_places) k)
