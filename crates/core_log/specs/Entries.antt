-- The entries of the open chunk while a batch is appended.
use Rattle.std.specs.Prelude.{◌≡◌, ◌⊎◌, ℕ, ◌+◌, List, [], ◌∷◌, ◌++◌, length}
use Rattle.pm_region.specs.State.{State, IsTelling, cell_now}
use Rattle.log_entry.specs.declared.entry.Entry.{Entry}
use Rattle.log_entry.specs.Spelling.{words_of}
use Rattle.store_image.specs.declared.types.PlacedEntry.{PlacedEntry}
use Rattle.store_image.specs.Parts.{placed_in_chunk, chunk_entries}
use Rattle.core_log.specs.Chunk.{words_now, HasLog}
use Rattle.core_log.specs.Log.{LogState, StandsIn, EachInOpen, with_tail, open_number, open_first, open_tail}

-- entries one after another from a place on, each with its place
abbrev pub with_places : ℕ → List Entry → List (ℕ × Entry)
with_places p [] = []
with_places p (e ∷ es) = (p, e) ∷ with_places (p + length (words_of e)) es

-- the entries of the open chunk in an image, in order of their places
abbrev pub open_entries : LogState → (ℕ → ℕ) → List PlacedEntry
open_entries log image = chunk_entries log.layout image log.part (open_number log)

-- the entries of a batch behind the tail of the open chunk
abbrev pub added_entries : LogState → List Entry → List PlacedEntry
added_entries log es = placed_in_chunk log.part (open_number log) (with_places (open_tail log) es)

-- the entries from before, and all of the batch's
abbrev pub HasEntries : LogState → List PlacedEntry → List Entry → (ℕ → ℕ) → Type 0
HasEntries log before es image = open_entries log image ≡ before ++ added_entries log es

-- the entries from before, with all of the batch's or none of them
abbrev pub HasEntriesOrLacks : LogState → List PlacedEntry → List Entry → (ℕ → ℕ) → Type 0
HasEntriesOrLacks log before es image = (open_entries log image ≡ before)
    ⊎ HasEntries log before es image

-- The tail of the open chunk moved past the batch, and each image has the batch.
pub record AppendedBatch (old new : State) (log log' : LogState) (batch : List ℕ) : Type 0 where
  pub stands : StandsIn new log'
  pub log_is : log' ≡ record log {
    chunks = with_tail log.chunks (open_number log)
        (open_tail log + length batch);
  }
  pub has : IsTelling new
      → EachInOpen log (HasLog (open_first log) (open_tail log + length batch)
      (words_now old (open_first log) (open_tail log) ++ batch)) (cell_now new)
