-- Which image is picked of those that a crash may have left.
use Rattle.std.specs.Prelude.{◌≡◌, ℕ, ◌+◌, ◌%◌, ◌<◌, List, length, slice_index}
use Rattle.pm_region.specs.Cell.{Cell, certain, values}
use Rattle.region_memory.specs.Journals.{cell_after}
use Rattle.region_memory.specs.declared.crash_image.CellData.{CellData}
use Rattle.region_memory.specs.declared.crash_image.Pick.{Pick}
use Rattle.region_memory.specs.declared.crash_image.Pick.TheVariants.{Oldest, Newest, Mixed}
use Rattle.region_memory.specs.declared.step.Step.{Step}

-- the value of a word that is picked of its list
abbrev pub picked : Pick → ℕ → Cell → ℕ
picked Oldest w c = slice_index (values c) 0
picked Newest w c = c.last
picked (Mixed n) w c = slice_index (values c) ((w + n) % length (values c))

abbrev pub cell_of_data : CellData → Cell
cell_of_data d = record { before = d.before.items; marked = d.marked.items; last = d.last }

-- what is picked of the word at a place, from `first` on, after these steps
abbrev pub pick_of : ℕ → List ℕ → List Step → Pick → ℕ → ℕ
pick_of first start steps pick k = picked pick (first + k)
    (cell_after steps (first + k) (certain (slice_index start k)))

-- the first n words are picked
pub record ArePicked (first : ℕ) (start : List ℕ) (steps : List Step) (pick : Pick) (image : List ℕ)
    (n : ℕ) : Type 0 where
  pub count : length image ≡ n
  pub each : (k : ℕ) → k < n → slice_index image k ≡ pick_of first start steps pick k
