use Rattle.std.proofs.Common.{◌+◌, ◌≤◌, ◌<◌}
use Rattle.region_memory.specs.CellLists.{Acts}
use Rattle.region_memory.proofs.word_cells.take_flush.Given as goal

abbrev pub invariant-loop-w : goal.invariant-loop-w
invariant-loop-w l = Acts l.step l.first l.initial.cells.items l.cells.items (λ k. (l.from ≤ l.first + k) × (l.first + k < l.w))
