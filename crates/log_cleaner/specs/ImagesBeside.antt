-- What an image of a log's part has, beside an image of the call's beginning.
use Rattle.std.specs.Prelude.{◌≡◌, ◌⊎◌, ℕ, ◌+◌, ◌≤◌, ◌<◌, List, length, map, true, Some, is_some}
use Rattle.pm_region.specs.declared.region_sizes.TheConstants.{LINE_WORDS}
use Rattle.pm_region.specs.Cell.{Cell}
use Rattle.pm_region.specs.State.{State, IsTelling, cell_now, During}
use Rattle.pm_region.specs.Words.{KeepsOutside, MayLeaveIn, EachIn, lasts}
use Rattle.chunk_map.specs.Layouts.{chunk_words, part_first}
use Rattle.log_entry.specs.declared.entry.Entry.{Entry}
use Rattle.log_entry.specs.declared.entry.EntryName.{EntryName}
use Rattle.store_image.specs.declared.types.PlacedEntry.{PlacedEntry}
use Rattle.store_image.specs.Parts.{part_entries, reads, value_in_block}
use Rattle.store_image.specs.Facts.{In}
use Rattle.core_log.specs.Log.{LogState, tail_of, first_of, open_number, open_first, EachInOpen}
use Rattle.core_log.specs.Entries.{open_entries, HasEntriesOrLacks}
use Rattle.core_log.specs.Opening.{EachInChunk}
use Rattle.core_log.specs.Retiring.{HasSameOrNone}
use Rattle.core_log.specs.Walking.{entries_in}
use Rattle.log_standing.specs.NameCounts.{times_in}
use Rattle.log_standing.specs.ChunkCounts.{chunks_with}

-- the entry stands in the part
abbrev pub Stands : LogState → (ℕ → ℕ) → Entry → Type 0
Stands log image e = In e
    (map (λ (x : PlacedEntry). x.entry) (part_entries log.layout image log.part))

-- each image of the part's words has P
abbrev pub EachInPart : LogState → ((ℕ → ℕ) → Type 0) → (ℕ → Cell) → Type 0
EachInPart log P cells = EachIn (part_first log.layout log.part)
    (part_first log.layout (log.part + 1)) P cells

-- An image of the call's beginning, with the same words outside one chunk. The part reads as well as there, and its blocks hold what they hold there.
pub record IsBefore (s : State) (log : LogState) (j : ℕ) (image before : ℕ → ℕ) : Type 0 where
  pub may : MayLeaveIn (cell_now s) (part_first log.layout log.part)
      (part_first log.layout (log.part + 1)) before
  pub outside : (w : ℕ) → (w < first_of log j) ⊎ (first_of log j + chunk_words log.layout ≤ w)
      → before w ≡ image w
  pub reads : reads log.layout before log.part ≡ true → reads log.layout image log.part ≡ true
  pub blocks : (q : ℕ) (b : List ℕ) → value_in_block log.layout before log.part q ≡ Some b
      → value_in_block log.layout image log.part q ≡ Some b
  pub only : (e : Entry) → Stands log image e → Stands log before e

-- The image has the entries of such a one but perhaps those of these names, and no other.
pub record LosesOnly (s : State) (log : LogState) (j : ℕ) (doomed : List EntryName) (image : ℕ
    → ℕ) : Type 0 where
  pub before : ℕ → ℕ
  pub beside : IsBefore s log j image before
  pub has : (e : Entry) → Stands log before e → times_in doomed e.key e.version ≡ 0
      → Stands log image e

-- The image has just the entries of such a one.
pub record HasSame (s : State) (log : LogState) (j : ℕ) (image : ℕ → ℕ) : Type 0 where
  pub before : ℕ → ℕ
  pub beside : IsBefore s log j image before
  pub has : (e : Entry) → Stands log before e → Stands log image e

-- Copies are made. The open chunk has the whole batch or none of it, no word outside it is stored or flushed, and each image of the part has just the entries of one of the beginning.
pub record MakesCopies (s t : State) (log : LogState) (es : List Entry) : Type 0 where
  pub entries : IsTelling s → 0 < length es
      → During s t (EachInOpen log (HasEntriesOrLacks log (open_entries log (lasts s)) es))
  pub outside : During s t (KeepsOutside (cell_now s) (open_first log)
      (open_first log + chunk_words log.layout))
  pub parts : During s t (EachInPart log (HasSame s log (open_number log)))

-- A chunk is made Free. It has its entries or none of them, no word outside its head's line is stored or flushed, and each image of the part has the entries of one of the beginning but perhaps those of these names.
pub record GivesUp (s t : State) (log : LogState) (j : ℕ) (doomed : List EntryName) : Type 0 where
  pub entries : During s t (EachInChunk log j (HasSameOrNone s log j))
  pub outside : During s t (KeepsOutside (cell_now s) (first_of log j)
      (first_of log j + LINE_WORDS))
  pub parts : During s t (EachInPart log (LosesOnly s log j doomed))

-- two entries of the log that have one name are equal
abbrev pub AgreesIn : State → LogState → Type 0
AgreesIn s log = (i j : ℕ) (x y : ℕ × Entry) → is_some (tail_of log.chunks i) ≡ true
    → is_some (tail_of log.chunks j) ≡ true → In x (entries_in s log i) → In y (entries_in s log j)
    → x.1.key ≡ y.1.key → x.1.version ≡ y.1.version → x.1 ≡ y.1

-- these names stand in the log no more, and each other one still does
pub record Vanish (s t : State) (old new : LogState) (names : List EntryName) : Type 0 where
  pub gone : (k v : ℕ) → 0 < times_in names k v → chunks_with t new k v ≡ 0
  pub stays : (k v : ℕ) → times_in names k v ≡ 0 → 0 < chunks_with s old k v
      → 0 < chunks_with t new k v
