-- What of a chunk is still to be copied.
use Rattle.std.specs.Prelude.{◌≡◌, ℕ, ◌≤◌, Bool, List, length, Some}
use Rattle.std.specs.List.{filter, sum_by, count_by}
use Rattle.pm_region.specs.State.{State}
use Rattle.log_entry.specs.declared.entry.Entry.{Entry}
use Rattle.log_entry.specs.Spelling.{words_of}
use Rattle.core_log.specs.Log.{LogState}
use Rattle.core_log.specs.Walking.{IsBetween, entries_in, behind}
use Rattle.log_cleaner.specs.declared.types.Victim.{Victim}
use Rattle.log_standing.specs.declared.types.Settled.{Settled}
use Rattle.log_standing.specs.NameCounts.{StandingState, wants}
use Rattle.log_standing.specs.ChunkCounts.{is_named, IsStandingOf}

-- the entry was not told dead and stands in one chunk alone
abbrev pub awaits : StandingState → ℕ × Entry → Bool
awaits st x = wants st x.1.key x.1.version

-- of a chunk's entries those that are still to be copied, each place of equal ones
abbrev pub left_to_copy : StandingState → List (ℕ × Entry) → List (ℕ × Entry)
left_to_copy st xs = filter (awaits st) xs

-- no two of the entries have one name
abbrev pub IsEachOnce : List (ℕ × Entry) → Type 0
IsEachOnce xs = (k v : ℕ) → count_by (is_named k v) xs ≤ 1

abbrev pub words_sum : List (ℕ × Entry) → ℕ
words_sum xs = sum_by (λ x. length (words_of x.1)) xs

abbrev pub tally_of : ℕ → List (ℕ × Entry) → Victim
tally_of j xs = record { chunk = j; entries = length xs; words = words_sum xs }

-- what of a chunk is still to be copied, in numbers
abbrev pub to_copy : State → LogState → StandingState → ℕ → Victim
to_copy s log st j = tally_of j (left_to_copy st (entries_in s log j))

abbrev pub begins : ℕ → ℕ → Settled
begins j place = record { chunk = j; place = place }

-- A place of a chunk between its entries: before it none is still to be copied.
pub record IsSettled (s : State) (log : LogState) (st : StandingState) (h : Settled) : Type 0 where
  pub between : IsBetween h.place (entries_in s log h.chunk)
  pub none : left_to_copy st (entries_in s log h.chunk) ≡ left_to_copy st
      (behind h.place (entries_in s log h.chunk))

abbrev pub IsSettledIn : State → LogState → StandingState → Type 0
IsSettledIn s log st = (h : Settled) → st.settled ≡ Some h → IsSettled s log st h

-- The names that stand are the log's with their copies, and up to where a cleaning has read nothing is left to be copied.
pub record IsUpToDate (s : State) (log : LogState) (st : StandingState) : Type 0 where
  pub counts : IsStandingOf s log st
  pub settled : IsSettledIn s log st
