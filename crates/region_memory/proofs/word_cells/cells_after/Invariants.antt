use Rattle.std.proofs.Common.{◌≡◌, ℕ, ◌+◌, ◌<◌, length, get_or, take}
use Rattle.pm_region.specs.Cell.{certain}
use Rattle.region_memory.specs.CellLists.{cell_in, AreOpen}
use Rattle.region_memory.specs.Journals.{cell_after}
use Rattle.region_memory.proofs.word_cells.cells_after.Given as goal

abbrev pub invariant-loop-step : goal.invariant-loop-step
invariant-loop-step l = record {
  count : length l.cells.items ≡ length l.start;
  each : (k : ℕ) → k < length l.start → cell_in l.cells.items k ≡ cell_after (take l.step-index l.steps) (l.first + k) (certain (get_or l.start k 0));
  places : AreOpen l.cells.items l.open_places.items;
}
