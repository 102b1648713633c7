-- Groups and cores of a layout, and what licenses the words of a whole region.
use Rattle.std.specs.Prelude.{◌≡◌, ℕ, ◌/◌, ◌%◌, ◌<◌}
use Rattle.pm_region.specs.Cell.{Cell}
use Rattle.pm_region.specs.Words.{Surely}
use Rattle.chunk_map.specs.declared.layouts.Geometry.{Geometry}
use Rattle.chunk_map.specs.Layouts.{layout_of}
use Rattle.store_image.specs.Soundness.{IsSound}
use Rattle.group_laws.specs.State.{Group}
use Rattle.group_laws.specs.MemberViews.{view_of}
use Rattle.group_laws.specs.Invariant.{Lawful}
use Rattle.group_laws.specs.Regions.{groups_in, place_at, ShowsCell}
use Rattle.licence.specs.Licence.{Licensed}
use Rattle.chunk_map.specs.declared.layout_sizes.TheConstants.{SUPERBLOCK_WORDS}

-- the group of a core, and which member of it the core is
abbrev pub group_of : Geometry → ℕ → ℕ
group_of l c = c / l.group

abbrev pub member_of : Geometry → ℕ → ℕ
member_of l c = c % l.group

-- each image of core c's part is licensed by the view of its member in this state of its group
abbrev pub LicensedPart : Geometry → ℕ → Group → (ℕ → Cell) → Type 0
LicensedPart l c w cells = Licensed (place_at l (group_of l c)) (member_of l c)
    (view_of w (member_of l c)) cells

-- each part is licensed by its core's view
abbrev pub AllLicensed : Geometry → (ℕ → Group) → (ℕ → Cell) → Type 0
AllLicensed l w cells = (c : ℕ) → c < l.cores → LicensedPart l c (w (group_of l c)) cells

-- the words of the superblock are certain
abbrev pub HasSuperblock : (ℕ → ℕ) → (ℕ → Cell) → Type 0
HasSuperblock found cells = (w : ℕ) → w < SUPERBLOCK_WORDS → Surely (cells w) (found w)

-- the groups of a layout, each in a lawful state
pub record Groups (l : Geometry) (w : ℕ → Group) : Type 0 where
  pub place : (g : ℕ) → g < groups_in l → (w g).place ≡ place_at l g
  pub lawful : (g : ℕ) → g < groups_in l → Lawful (w g)

-- The image is sound, and recovers for each key the cell of its owner's view, or the one that its pending change leaves.
pub record ShowsGroups (bytes : ℕ) (l : Geometry) (w : ℕ → Group) (image : ℕ → ℕ) : Type 0 where
  pub sound : IsSound bytes image
  pub layout : layout_of image ≡ l
  pub cells : (k : ℕ) → ShowsCell l w image k
