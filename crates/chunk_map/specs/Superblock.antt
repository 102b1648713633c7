-- The superblock of a region, and what it is while it is written.
use Rattle.std.specs.Prelude.{◌≡◌, ◌⊎◌, ℕ, ◌≤◌, ◌<◌, Some, None}
use Rattle.pm_region.specs.Cell.{Cell, MayBe}
use Rattle.pm_region.specs.Words.{Narrows}
use Rattle.chunk_map.specs.declared.layouts.Geometry.{Geometry}
use Rattle.chunk_map.specs.Layouts.{magic, layout_of, superblock_rule}

-- the image has the superblock of the layout
pub record IsSuperblock (l : Geometry) (image : ℕ → ℕ) : Type 0 where
  pub magic_is : image 0 ≡ magic
  pub format : image 1 ≡ 1
  pub layout : layout_of image ≡ l

-- word 0 is what it might be before, or the whole superblock is there
abbrev pub MayHaveSuperblock : (ℕ → Cell) → Geometry → (ℕ → ℕ) → Type 0
MayHaveSuperblock old l image = MayBe (old 0) (image 0) ⊎ IsSuperblock l image

-- an image of so many bytes is refused by rule 2, or has the whole superblock and keeps the rules
abbrev pub IsRefusedOrWhole : Geometry → ℕ → (ℕ → ℕ) → Type 0
IsRefusedOrWhole l bytes image = (superblock_rule bytes image ≡ Some 2)
    ⊎ (IsSuperblock l image × (superblock_rule bytes image ≡ None))

-- no word outside a range is stored
abbrev pub NarrowsOutside : (ℕ → Cell) → ℕ → ℕ → (ℕ → Cell) → Type 0
NarrowsOutside old from end new = (w : ℕ) → (w < from) ⊎ (end ≤ w) → Narrows (old w) (new w)
