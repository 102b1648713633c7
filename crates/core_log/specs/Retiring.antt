-- A chunk of a log while it is made Free, and afterwards.
use Rattle.std.specs.Prelude.{◌≡◌, ◌⊎◌, ℕ}
use Rattle.pm_region.specs.State.{State, IsTelling, cell_now}
use Rattle.pm_region.specs.Words.{Surely, lasts}
use Rattle.store_image.specs.Parts.{chunk_entries}
use Rattle.core_log.specs.Log.{LogState, StandsIn, without, first_of}
use Rattle.core_log.specs.Opening.{EachInChunk, HasNoEntries}

-- the image shows the chunk's entries as they are now, or none
abbrev pub HasSameOrNone : State → LogState → ℕ → (ℕ → ℕ) → Type 0
HasSameOrNone s log j image = (chunk_entries log.layout image log.part j ≡ chunk_entries log.layout
    (lasts s) log.part j) ⊎ HasNoEntries log j image

-- The chunk is certainly Free and none of the log's, and no image shows an entry in it.
pub record RetiredChunk (new : State) (log log' : LogState) (chunk : ℕ) : Type 0 where
  pub stands : StandsIn new log'
  pub log_is : log' ≡ record log { chunks = without log.chunks chunk }
  pub free : IsTelling new → Surely (cell_now new (first_of log chunk)) 0
  pub none : IsTelling new → EachInChunk log chunk (HasNoEntries log chunk) (cell_now new)
