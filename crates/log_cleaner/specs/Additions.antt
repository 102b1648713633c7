-- Entries that a lead appends to the log between two turns of a cleaning.
use Rattle.std.specs.Prelude.{◌≡◌, ◌≢◌, ℕ, ◌+◌, ◌<◌, Bool, true, false, List, Some, None, is_some, if◌then◌else◌}
use Rattle.std.specs.List.{flat_map, list_any}
use Rattle.pm_region.specs.declared.region_sizes.TheConstants.{LINE_WORDS}
use Rattle.pm_region.specs.State.{State, IsTelling, cell_now, During}
use Rattle.pm_region.specs.Words.{KeepsOutside}
use Rattle.chunk_map.specs.Layouts.{chunk_words}
use Rattle.log_entry.specs.declared.entry.Entry.{Entry}
use Rattle.log_entry.specs.Spelling.{words_of}
use Rattle.log_entry.specs.Batches.{IsBatch}
use Rattle.core_log.specs.Chunk.{padded}
use Rattle.core_log.specs.Entries.{AppendedBatch}
use Rattle.core_log.specs.Log.{LogState, IsOwn, Spelled, tail_of, with_tail, first_of, open_number, open_first}
use Rattle.core_log.specs.Walking.{words_in, entries_in}
use Rattle.log_standing.specs.declared.types.Settled.{Settled}
use Rattle.log_standing.specs.NameCounts.{StandingState, name_eq, copies_at, one_more}
use Rattle.log_standing.specs.ChunkCounts.{has_name}

-- one of the entries has this name
abbrev pub is_among : List Entry → ℕ → ℕ → Bool
is_among es k v = list_any (λ (e : Entry). name_eq (e.key, e.version) (k, v)) es

-- a chunk's entries have none of their names
abbrev pub Lacks : List (ℕ × Entry) → List Entry → Type 0
Lacks xs es = (k v : ℕ) → is_among es k v ≡ true → has_name xs k v ≡ false

-- each of their names was added once, and nothing else changed
pub record AddsEach (old new : StandingState) (es : List Entry) : Type 0 where
  pub copies : (k v : ℕ)
      → copies_at new k v ≡ (if is_among es k v then Some (one_more (copies_at old k v))
      else copies_at old k v)
  pub settled : new.settled ≡ old.settled

-- the log with a chunk more, which is the open one and empty
abbrev pub with_open : LogState → ℕ → LogState
with_open log j = record log { chunks = with_tail log.chunks j 0; opened = Some j }

-- A chunk that isn't the log's is opened; a cleaning has read at most one of the log's. No word outside the chunk's head is written, or no word at all.
pub record OpensNew (s t : State) (log : LogState) (st : StandingState) (j : ℕ) : Type 0 where
  pub own : IsOwn log
  pub within : j < log.layout.chunks
  pub new : tail_of log.chunks j ≡ None
  pub outside : During s t (KeepsOutside (cell_now s) (first_of log j) (first_of log j + LINE_WORDS))
  pub settled : (h : Settled) → st.settled ≡ Some h → is_some (tail_of log.chunks h.chunk) ≡ true

-- the chunk is another one of the log's than the open one, and lacks their names
pub record IsApart (s : State) (log : LogState) (es : List Entry) (h : Settled) : Type 0 where
  pub closed : h.chunk ≢ open_number log
  pub has : is_some (tail_of log.chunks h.chunk) ≡ true
  pub lacks : IsTelling s → Lacks (entries_in s log h.chunk) es

-- Entries are appended to the open chunk as one batch, by the clauses of that call; their names are new in that chunk, and in the one that a cleaning has read.
pub record AppendsNew (s t : State) (log log' : LogState) (st : StandingState) (es : List Entry) :
    Type 0 where
  pub own : IsOwn log
  pub opened : is_some log.opened ≡ true
  pub spelled : IsTelling s → Spelled (words_in s log (open_number log))
  pub batch : IsBatch es
  pub appended : AppendedBatch s t log log' (padded (flat_map words_of es))
  pub outside : During s t (KeepsOutside (cell_now s) (open_first log)
      (open_first log + chunk_words log.layout))
  pub fresh : IsTelling s → Lacks (entries_in s log (open_number log)) es
  pub apart : (h : Settled) → st.settled ≡ Some h → IsApart s log es h
