-- A batch of copies of a cleaning: what it makes of the log, the allocator and the names that stand, and what is left to be copied.
use Rattle.std.specs.Prelude.{◌≡◌, ℕ, zero, suc, ◌≤◌, ◌<◌, List, length, Some}
use Rattle.pm_region.specs.State.{State, IsTelling}
use Rattle.log_entry.specs.declared.entry_limits.TheConstants.{MOST_ENTRIES}
use Rattle.core_log.specs.Chunk.{padded}
use Rattle.core_log.specs.Log.{LogState, StandsIn}
use Rattle.core_log.specs.Walking.{entries_in}
use Rattle.core_room.specs.CleaningRoom.{left_after, left_words}
use Rattle.log_standing.specs.declared.types.Settled.{Settled}
use Rattle.log_standing.specs.NameCounts.{StandingState}
use Rattle.log_cleaner.specs.Copying.{IsUpToDate}
use Rattle.log_cleaner.specs.CopyBatch.{IsCopyBatch, IsLess, KeepsNames}
use Rattle.log_cleaner.specs.Tallied.{KeepsTally}
use Rattle.log_cleaner.specs.declared.types.Victim.{Victim}
use Rattle.core_worker.specs.TakenChunks.{appended_to}

-- the log once so many entries with these words were copied into its open chunk
abbrev pub copied_to : ℕ → LogState → List ℕ → LogState
copied_to zero log ws = log
copied_to (suc n) log ws = appended_to log (padded ws)

-- what of a victim is left to be copied after so many entries with so many words
abbrev pub left_of : Victim → ℕ → ℕ → Victim
left_of v n w = record v { entries = left_after v.entries n; words = left_words v.words n w }

-- A batch was copied, whatever the region tells: no more than the victim's numbers say. Just the names stand that stood.
pub record CopiesBatch (victim : Victim) (log log' : LogState) (old new : StandingState) (n : ℕ)
    (ws : List ℕ) : Type 0 where
  pub few : n ≤ MOST_ENTRIES
  pub within : n ≤ victim.entries
  pub short : 0 < n → length ws ≤ victim.words
  pub some : 0 < n → 0 < length ws
  pub log_is : log' ≡ copied_to n log ws
  pub names : KeepsNames old new
  pub tally : KeepsTally old new
  pub read : (h : Settled) → new.settled ≡ Some h → h.chunk ≡ victim.chunk

-- The same by the region: the names stand as the log has them, the victim's chunk has its entries, and less of it is left to be copied.
pub record CopiesInRegion (s t : State) (victim : Victim) (log log' : LogState)
    (old new : StandingState) (n : ℕ) (ws : List ℕ) : Type 0 where
  pub stands : StandsIn t log'
  pub counted : IsTelling t → IsUpToDate t log' new
  pub chunk : IsTelling t → entries_in t log' victim.chunk ≡ entries_in s log victim.chunk
  pub batch : IsTelling t → IsCopyBatch s log old victim.chunk n ws
  pub less : IsTelling t → IsLess old new (entries_in s log victim.chunk)
