-- The cells of neighbouring words, brought forward by one step after another.
use Rattle.std.specs.Prelude.{◌≡◌, ◌⊎◌, ℕ, ◌+◌, ◌<◌, List, [], length, map, slice_index_or}
use Rattle.pm_region.specs.Cell.{Cell, certain, HasValue}
use Rattle.region_memory.specs.Image.{cell_of_data}
use Rattle.region_memory.specs.Journals.{act}
use Rattle.region_memory.specs.declared.crash_image.CellData.{CellData}
use Rattle.region_memory.specs.declared.step.Step.{Step}

abbrev pub cell_in : List CellData → ℕ → Cell
cell_in ds k = slice_index_or (map cell_of_data ds) k (certain 0)

-- it has one value
abbrev pub HasOne : Cell → Type 0
HasOne c = (c.before ≡ []) × (c.marked ≡ [])

-- the cell at this place took the step, and no other cell changed
pub record ActsAt (step : Step) (first : ℕ) (old new : List CellData) (k : ℕ) : Type 0 where
  pub count : length new ≡ length old
  pub here : cell_in new k ≡ act step (first + k) (cell_in old k)
  pub others : (j : ℕ) → (j ≡ k → ⊥) → cell_in new j ≡ cell_in old j

-- Each cell took the step or stayed. Those at the places of which `Taken` holds took it.
pub record Acts (step : Step) (first : ℕ) (old new : List CellData) (Taken : ℕ → Type 0) :
    Type 0 where
  pub count : length new ≡ length old
  pub each : (k : ℕ) → (cell_in new k ≡ cell_in old k)
      ⊎ (cell_in new k ≡ act step (first + k) (cell_in old k))
  pub taken : (k : ℕ) → Taken k → cell_in new k ≡ act step (first + k) (cell_in old k)

-- all cells took the step
pub record AllAct (step : Step) (first : ℕ) (old new : List CellData) : Type 0 where
  pub count : length new ≡ length old
  pub each : (k : ℕ) → k < length old → cell_in new k ≡ act step (first + k) (cell_in old k)

-- every cell that hasn't one value alone stands at one of these places
pub record AreOpen (cells : List CellData) (places : List ℕ) : Type 0 where
  pub within : (k : ℕ) → HasValue places k → k < length cells
  pub others : (k : ℕ) → k < length cells → HasOne (cell_in cells k) ⊎ HasValue places k
