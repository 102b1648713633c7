-- What a member writes to its part, in the words of the calls of its log and its allocator. At the beginning of the call each image is licensed.
use Rattle.std.specs.Prelude.{◌≡◌, ◌≢◌, ◌⊎◌, ℕ, ◌+◌, ◌≤◌, ◌<◌, true, List, [], length, Some, None, is_some}
use Rattle.std.specs.List.{flat_map}
use Rattle.pm_region.specs.State.{State, IsTelling, cell_now, During}
use Rattle.pm_region.specs.Words.{EachIn, KeepsOutside, Surely, lines_for}
use Rattle.log_entry.specs.declared.entry.Entry.{Entry}
use Rattle.log_entry.specs.Spelling.{words_of}
use Rattle.log_entry.specs.Batches.{IsBatch}
use Rattle.chunk_map.specs.Layouts.{chunk_words}
use Rattle.store_image.specs.Facts.{In}
use Rattle.core_log.specs.Chunk.{padded, words_now, HasOrLacks, FreeOrEmpty, FreeOrLog}
use Rattle.core_log.specs.Log.{LogState, StandsIn, tail_of, tail_in, first_of, open_first, open_tail, room_of, EachInOpen}
use Rattle.core_log.specs.Opening.{EachInChunk}
use Rattle.core_log.specs.PartImages.{entries_of}
use Rattle.lazy_alloc.specs.Sets.{Sets, AreSets, class_at}
use Rattle.lazy_alloc.specs.Written.{KeepsOthers, HeadTurnsTo, HasHead, head_of}
use Rattle.group_laws.specs.Places.{Place, IsPlace, core_of}
use Rattle.group_laws.specs.MemberViews.{View}
use Rattle.licence.specs.Licence.{Licensed, IsLogOf}

-- Member m's log stands at the beginning, and each image is licensed by v.
pub record Begins (s : State) (p : Place) (m : ℕ) (v : View) (log : LogState) : Type 0 where
  pub own : IsLogOf p m log
  pub stands : StandsIn s log
  pub licensed : IsTelling s → Licensed p m v (cell_now s)

-- the words spell these entries, and fit in the open chunk
pub record IsSpelled (log : LogState) (es : List Entry) (ws : List ℕ) : Type 0 where
  pub words : ws ≡ flat_map words_of es
  pub batch : IsBatch es
  pub room : lines_for (length ws) ≤ room_of log

-- words are appended to the open chunk, as one batch
pub record Appends (s t : State) (log : LogState) (ws : List ℕ) : Type 0 where
  pub moments : During s t
      (EachInOpen log (HasOrLacks (open_first log) (open_tail log)
      (words_now s (open_first log) (open_tail log)) (padded ws)))
  pub outside : During s t (KeepsOutside (cell_now s) (open_first log)
      (open_first log + chunk_words log.layout))

-- a Free chunk of the part is opened
pub record Opens (s t : State) (log : LogState) (j : ℕ) : Type 0 where
  pub part : j < log.layout.chunks
  pub free : IsTelling s → Surely (cell_now s (first_of log j)) 0
  pub moments : During s t (EachInChunk log j (FreeOrEmpty (first_of log j)))
  pub outside : During s t (KeepsOutside (cell_now s) (first_of log j) (first_of log j + 8))

-- a chunk of the log is made Free
pub record Frees (s t : State) (log : LogState) (j : ℕ) : Type 0 where
  pub has : is_some (tail_of log.chunks j) ≡ true
  pub moments : During s t
      (EachInChunk log j (FreeOrLog (first_of log j) (tail_in log j)
      (words_now s (first_of log j) (tail_in log j))))
  pub outside : During s t (KeepsOutside (cell_now s) (first_of log j) (first_of log j + 8))

-- the entry stands in another chunk of the log than j
abbrev pub StandsElsewhere : State → LogState → ℕ → Entry → Type 0
StandsElsewhere s log j e = (k : ℕ) × (k ≢ j) × (is_some (tail_of log.chunks k) ≡ true)
    × In e (entries_of s log k)

-- Nothing is in flight, and each entry of chunk j may vanish or stands in another chunk too.
pub record MaySpare (s : State) (v : View) (log : LogState) (j : ℕ) : Type 0 where
  pub idle : v.flying ≡ []
  pub each : IsTelling s → (e : Entry) → In e (entries_of s log j)
      → (v.doomed e.key e.version ≡ true) ⊎ StandsElsewhere s log j e

-- The allocator is that of member m's part, the block at this pointer has this class, and no value of the view is in it. Of two blocks at different pointers no unit is shared, since those of one chunk have one class.
pub record IsUnused (s : State) (p : Place) (m : ℕ) (v : View) (a : Sets) (q class : ℕ) :
    Type 0 where
  pub place : IsPlace p
  pub sets : AreSets a
  pub layout : a.layout ≡ p.layout
  pub part : a.part ≡ core_of p m
  pub at : class_at a q ≡ Some class
  pub unused : v.blocks q ≡ None
  pub head : HasHead s a q class
  pub licensed : IsTelling s → Licensed p m v (cell_now s)

-- A value is written to the block, behind its chunk's head.
pub record WritesBlock (s t : State) (a : Sets) (q class : ℕ) : Type 0 where
  pub outside : During s t (KeepsOthers a q class (cell_now s))
  pub head : During s t (EachIn (head_of a q) (head_of a q + 2) (HeadTurnsTo a q class))
