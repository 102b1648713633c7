-- What recovery gives.
use Rattle.std.specs.Prelude.{◌≡◌, ℕ, ◌<◌, List, length, slice_index_or, Option, Some, None, Result, Ok, Err}
use Rattle.pm_region.specs.State.{State}
use Rattle.chunk_map.specs.Layouts.{IsLayout, total_bytes, layout_of}
use Rattle.chunk_map.specs.declared.layouts.Geometry.{Geometry}
use Rattle.store_image.specs.Winners.{recovered}
use Rattle.store_image.specs.Soundness.{damage, first_fault}
use Rattle.store_image.specs.Facts.{IsStore}
use Rattle.core_log.specs.Log.{StandsIn}
use Rattle.recover.specs.declared.types.CoreStart.{CoreStart}
use Rattle.recover.specs.declared.types.Recovered.{Recovered}
use Rattle.recover.specs.declared.types.RecoverError.{RecoverError}
use Rattle.recover.specs.declared.types.RecoverError.TheVariants as errors
use Rattle.recover.specs.Causes.{HasCause}
use Rattle.recover.specs.Logs.{HasLogsOf, IsStart}
use Rattle.recover.specs.Gathering.{AllSpell}
use Rattle.recover.specs.Starts.{IsAllocatorOf, IsIndexOf, HasCopiesOf}

-- whatever the region tells: a layout of a region of so many bytes, a start for each core in order
pub record IsMade (bytes : ℕ) (r : Recovered) : Type 0 where
  pub layout : IsLayout r.layout
  pub total : total_bytes r.layout ≡ bytes
  pub count : length r.starts.items ≡ r.layout.cores
  pub starts : (c : ℕ) (d : CoreStart) → c < r.layout.cores
      → IsStart r.layout c (slice_index_or r.starts.items c d)

-- the logs, the allocators and the indexes of an image with this layout
pub record IsOf (l : Geometry) (image : ℕ → ℕ) (r : Recovered) : Type 0 where
  pub layout_is : r.layout ≡ l
  pub logs : (c : ℕ) (d : CoreStart) → c < l.cores
      → HasLogsOf l image c (slice_index_or r.starts.items c d).log
  pub spells : AllSpell l image
  pub allocators : (c : ℕ) (d : CoreStart) → c < l.cores
      → IsAllocatorOf l image c (slice_index_or r.starts.items c d).allocator
  pub indexes : (c : ℕ) (d : CoreStart) → c < l.cores
      → IsIndexOf l image c (slice_index_or r.starts.items c d).index
  pub standings : (c : ℕ) (d : CoreStart) → c < l.cores
      → HasCopiesOf image (slice_index_or r.starts.items c d).log
      (slice_index_or r.starts.items c d).standing

-- those of an image that keeps rules 4 to 11, or the first that it breaks
abbrev pub Restores : Geometry → (ℕ → ℕ) → Result Recovered RecoverError → Type 0
Restores l image (Ok r) = (damage l image ≡ None) × IsOf l image r
Restores l image (Err e) = HasCause (damage l image) e

-- what recovery finds in a sound image of so many bytes
pub record IsFound (bytes : ℕ) (image : ℕ → ℕ) (r : Recovered) : Type 0 where
  pub sound : IsStore bytes image
  pub is_of : IsOf (layout_of image) image r

-- what is found, or the first broken rule
abbrev pub Recovers : ℕ → (ℕ → ℕ) → Result Recovered RecoverError → Type 0
Recovers bytes image (Ok r) = IsFound bytes image r
Recovers bytes image (Err (errors.Fault fault)) = first_fault bytes image ≡ Some fault
Recovers bytes image (Err errors.Memory) = Unit {0}

-- each core's log stands in the region
abbrev pub AllStand : State → Recovered → Type 0
AllStand s r = (c : ℕ) (d : CoreStart) → c < r.layout.cores
    → StandsIn s (slice_index_or r.starts.items c d).log

-- the cells that an image recovers, by the layout in it
abbrev pub cells_found : (ℕ → ℕ) → ℕ → Option (List ℕ)
cells_found image k = recovered (layout_of image) image k
