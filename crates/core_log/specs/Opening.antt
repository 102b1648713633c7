-- A chunk of a part while it is opened for the log, and afterwards.
use Rattle.std.specs.Prelude.{◌≡◌, ℕ, ◌+◌, [], Some}
use Rattle.pm_region.specs.State.{State, IsTelling, cell_now}
use Rattle.pm_region.specs.Words.{EachIn}
use Rattle.pm_region.specs.Cell.{Cell}
use Rattle.chunk_map.specs.Layouts.{chunk_words, payload_lines}
use Rattle.store_image.specs.Parts.{chunk_entries}
use Rattle.core_log.specs.Chunk.{HasLog}
use Rattle.core_log.specs.Log.{LogState, StandsIn, with_tail, first_of, room_of}

-- each image of a chunk's words has P
abbrev pub EachInChunk : LogState → ℕ → ((ℕ → ℕ) → Type 0) → (ℕ → Cell) → Type 0
EachInChunk log j P cells = EachIn (first_of log j) (first_of log j + chunk_words log.layout) P
    cells

-- the image shows no entry in the chunk
abbrev pub HasNoEntries : LogState → ℕ → (ℕ → ℕ) → Type 0
HasNoEntries log j image = chunk_entries log.layout image log.part j ≡ []

-- The chunk is the open one, with nothing in it.
pub record OpenedChunk (new : State) (log log' : LogState) (chunk : ℕ) : Type 0 where
  pub stands : StandsIn new log'
  pub log_is : log' ≡ record log { chunks = with_tail log.chunks chunk 0; opened = Some chunk }
  pub room : room_of log' ≡ payload_lines log.layout
  pub has : IsTelling new → EachInChunk log chunk (HasLog (first_of log chunk) 0 []) (cell_now new)
