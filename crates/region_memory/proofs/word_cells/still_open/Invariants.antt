use Rattle.std.proofs.Common.{ℕ, ◌⊎◌, ◌<◌, length, take}
use Rattle.pm_region.specs.Cell.{HasValue}
use Rattle.region_memory.specs.CellLists.{HasOne, cell_in}
use Rattle.region_memory.proofs.word_cells.still_open.Given as goal

abbrev pub invariant-loop-k : goal.invariant-loop-k
invariant-loop-k l = record {
  within : (k : ℕ) → HasValue l.still.items k → k < length l.cells;
  seen : (k : ℕ) → HasValue (take l.k-index l.open_places) k → HasOne (cell_in l.cells k) ⊎ HasValue l.still.items k;
}
