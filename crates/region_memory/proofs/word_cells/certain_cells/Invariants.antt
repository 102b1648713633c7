use Rattle.std.proofs.Common.{◌≡◌, ℕ, ◌<◌, length, get_or}
use Rattle.pm_region.specs.Cell.{certain}
use Rattle.region_memory.specs.CellLists.{cell_in}
use Rattle.region_memory.proofs.word_cells.certain_cells.Given as goal

abbrev pub invariant-loop-value : goal.invariant-loop-value
invariant-loop-value l = record {
  count : length l.cells.items ≡ l.value-index;
  each : (k : ℕ) → k < l.value-index → cell_in l.cells.items k ≡ certain (get_or l.start k 0);
}
