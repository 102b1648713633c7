-- What an image says of the part of a log, beside another one that differs from it in one chunk.
use Rattle.std.specs.Prelude.{◌≡◌, ◌≢◌, ◌⊎◌, ℕ, ◌+◌, true, List, map, Some, is_some}
use Rattle.pm_region.specs.Cell.{Cell}
use Rattle.pm_region.specs.State.{State, cell_now}
use Rattle.pm_region.specs.Words.{EachIn, MayLeaveIn}
use Rattle.chunk_map.specs.Layouts.{part_first}
use Rattle.log_entry.specs.declared.entry.Entry.{Entry}
use Rattle.store_image.specs.Parts.{part_entries, reads, value_in_block}
use Rattle.store_image.specs.Facts.{In}
use Rattle.core_log.specs.Log.{LogState, tail_of}
use Rattle.core_log.specs.Walking.{entries_in}

-- of each word of the log's part a crash may leave the image's value
abbrev pub MayLeavePart : LogState → (ℕ → Cell) → (ℕ → ℕ) → Type 0
MayLeavePart log cells image = MayLeaveIn cells (part_first log.layout log.part)
    (part_first log.layout (log.part + 1)) image

-- each image of the log's part has P
abbrev pub EachInPart : LogState → ((ℕ → ℕ) → Type 0) → (ℕ → Cell) → Type 0
EachInPart log P cells = EachIn (part_first log.layout log.part)
    (part_first log.layout (log.part + 1)) P cells

-- the entry stands in the part, in whatever chunk
abbrev pub StandsInPart : LogState → (ℕ → ℕ) → Entry → Type 0
StandsInPart log image e = In e (map (λ x. x.entry) (part_entries log.layout image log.part))

-- the entries of a chunk of the log, as they are now
abbrev pub entries_of : State → LogState → ℕ → List Entry
entries_of s log j = map (λ x. x.1) (entries_in s log j)

-- The part reads as well as before, and its blocks hold what they held.
pub record KeepsPart (log : LogState) (before image : ℕ → ℕ) : Type 0 where
  pub well : reads log.layout before log.part ≡ true → reads log.layout image log.part ≡ true
  pub blocks : (q : ℕ) (b : List ℕ) → value_in_block log.layout before log.part q ≡ Some b
      → value_in_block log.layout image log.part q ≡ Some b

-- The part has the entries from before, and these, and no others.
pub record Gains (log : LogState) (es : List Entry) (before image : ℕ → ℕ) : Type 0 where
  pub keeps : KeepsPart log before image
  pub has : (e : Entry) → StandsInPart log before e → StandsInPart log image e
  pub only : (e : Entry) → StandsInPart log image e → StandsInPart log before e ⊎ In e es
  pub all : (e : Entry) → In e es → StandsInPart log image e

-- The part has the entries from before, but perhaps those that stood in chunk j alone, and no others.
pub record Loses (s : State) (log : LogState) (j : ℕ) (before image : ℕ → ℕ) : Type 0 where
  pub keeps : KeepsPart log before image
  pub has : (e : Entry) → StandsInPart log before e → StandsInPart log image e
      ⊎ In e (entries_of s log j)
  pub others : (k : ℕ) (e : Entry) → k ≢ j → is_some (tail_of log.chunks k) ≡ true
      → In e (entries_of s log k) → StandsInPart log image e
  pub only : (e : Entry) → StandsInPart log image e → StandsInPart log before e

-- the same beside an image that a crash might leave then
abbrev pub GainsSince : State → LogState → List Entry → (ℕ → ℕ) → Type 0
GainsSince s log es image = (before : ℕ → ℕ) × MayLeavePart log (cell_now s) before
    × Gains log es before image

abbrev pub LosesSince : State → LogState → ℕ → (ℕ → ℕ) → Type 0
LosesSince s log j image = (before : ℕ → ℕ) × MayLeavePart log (cell_now s) before
    × Loses s log j before image
