-- What a call with the words of `format` promises.
use Rattle.std.specs.Prelude.{◌≡◌, ◌⊎◌, ℕ, ◌/◌, ◌≤◌, ◌<◌, true, Some, None, Ok}
use Rattle.pm_region.specs.Cell.{Cell}
use Rattle.pm_region.specs.State.{State, Frame, IsTold, IsTelling, MayLeave, cell_now, Faulted}
use Rattle.chunk_map.specs.declared.layouts.Geometry.{Geometry}
use Rattle.chunk_map.specs.declared.heads.Head.TheVariants.{Free}
use Rattle.chunk_map.specs.Layouts.{chunk_first, head_at, total_bytes, total_words}
use Rattle.chunk_map.specs.Superblock.{IsSuperblock}
use Rattle.store_image.specs.declared.types.Fault.TheVariants.{NotARegion}
use Rattle.store_image.specs.Soundness.{IsSound, first_fault}
use Rattle.headline.specs.Headline.{cells_of}
use Rattle.flatstore_commands.specs.Attaching.{Creates}
use Rattle.flatstore_commands.specs.declared.report.Status.TheVariants as statuses
use Rattle.flatstore_commands.specs.declared.report.CommandReport.{CommandReport}

-- The empty region of a layout: its superblock, and zeros behind. So each chunk is free, it is sound, and no key has a value.
pub record IsEmptyStore (l : Geometry) (image : ℕ → ℕ) : Type 0 where
  pub superblock : IsSuperblock l image
  pub zeros : (w : ℕ) → 6 ≤ w → w < total_words l → image w ≡ 0
  pub free : (c j : ℕ) → c < l.cores → j < l.chunks → head_at l image (chunk_first l c j) ≡ Ok Free
  pub sound : IsSound (total_bytes l) image
  pub cells : (k : ℕ) → cells_of image k ≡ None

-- an image of so many bytes is refused by rule 2, or is the empty region
abbrev pub IsRefusedOrEmpty : Geometry → (ℕ → ℕ) → Type 0
IsRefusedOrEmpty l image =
    (first_fault (total_bytes l) image ≡ Some (NotARegion 2)) ⊎ IsEmptyStore l image

-- each image that a crash may leave of these cells has P
abbrev pub EachImage : Frame → ((ℕ → ℕ) → Type 0) → (ℕ → Cell) → Type 0
EachImage f P cells = (image : ℕ → ℕ) → MayLeave f cells image → P image

-- of a region before and after the call, the layout that was asked for, and the report
pub record Formats (old new : State) (l : Geometry) (r : CommandReport) : Type 0 where
  -- It ends well, but for a fault that was counted and want of memory.
  pub ends : (r.status ≡ statuses.Done)
      ⊎ ((r.status ≡ statuses.Memory) ⊎ ((r.status ≡ statuses.RegionFault)
      × Faulted old new))
  -- The region was created once, unless the device refused that or there was no memory.
  pub creates : Creates old new l r
  pub size : r.attached ≡ true → new.frame.bytes ≡ total_bytes l
  -- Whatever a crash leaves at any told moment since the region was created is refused, or is the empty region.
  pub crash : r.attached ≡ true → (t : ℕ) → IsTold new t
      → EachImage new.frame (IsRefusedOrEmpty l) (new.cells t)
  -- At the end it is the empty region.
  pub done : r.status ≡ statuses.Done → IsTelling new
      → EachImage new.frame (IsEmptyStore l) (cell_now new)
