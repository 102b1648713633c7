-- The names of a core's own log while it is cleaned: which of them vanish, and which are told dead.
use Rattle.std.specs.Prelude.{◌≡◌, ℕ, ◌≤◌, ◌<◌, length, Bool, true, List, [], Option, Some, is_some, option_map, if◌then◌else◌}
use Rattle.pm_region.specs.State.{State}
use Rattle.log_entry.specs.declared.entry.Entry.{Entry}
use Rattle.log_entry.specs.declared.entry.EntryName.{EntryName}
use Rattle.core_log.specs.Log.{LogState, tail_of}
use Rattle.core_log.specs.Walking.{entries_in}
use Rattle.log_standing.specs.declared.types.Settled.{Settled}
use Rattle.log_standing.specs.NameCounts.{StandingState, copies_at, count_of, is_told, killed}
use Rattle.log_cleaner.specs.Clearing.{ClearingState, IsGathered, IsReady}
use Rattle.log_cleaner.specs.Copying.{left_to_copy, IsUpToDate}
use Rattle.log_cleaner.specs.CopyBatch.{Bounds}
use Rattle.log_cleaner.specs.Dropping.{Drops}
use Rattle.log_cleaner.specs.Floors.{HasFloors}
pub use Rattle.log_cleaner.specs.Floors.{IsClosed}
use Rattle.log_cleaner.specs.Tallied.{IsTallied, KeepsTally}
use Rattle.log_cleaner.specs.declared.types.Victim.{Victim}
use Rattle.core_index.specs.Slots as slots
use Rattle.group_laws.specs.State.{Notices}
use Rattle.group_laws.specs.Updates.{has}
use Rattle.group_laws.specs.Places as groups
use Rattle.group_laws.specs.MemberViews.{View}
use Rattle.core_worker.specs.declared.types.Place.{Place}
use Rattle.core_worker.specs.declared.types.Cleaning.{Cleaning}
use Rattle.core_worker.specs.declared.types.Cleaning.TheVariants.{Nothing, Copying, Doomed}
use Rattle.core_worker.specs.StandingTies.{IsNamedIn, HearsOwn}
use Rattle.core_worker.specs.Hearing.{HearsAll}
use Rattle.core_worker.specs.GoneNames.{LosesNames}

-- What stands in the log of member m, where the region tells: exactly the names of the entries that are certain there, and exactly its dead names were told dead. What it believes to stand there does, and such a name is dead once it was told.
pub record KnowsNames (m : ℕ) (kept : List Entry) (present : ℕ → ℕ → Option ℕ)
    (told dead : ℕ → ℕ → Bool) (st : StandingState) : Type 0 where
  pub stands : (k n : ℕ) → 0 < count_of st k n → IsNamedIn kept k n
  pub all : (k n : ℕ) → IsNamedIn kept k n → 0 < count_of st k n
  pub deaths : (k n : ℕ) → is_told st k n ≡ dead k n
  pub buried : (k n : ℕ) → dead k n ≡ true → IsNamedIn kept k n
  pub own : (k n : ℕ) → present k n ≡ Some m → IsNamedIn kept k n
  pub heard : (k n : ℕ) → present k n ≡ Some m → told k n ≡ true → dead k n ≡ true

-- by a view
abbrev pub KnowsBy : ℕ → View → StandingState → Type 0
KnowsBy m v st = KnowsNames m v.kept v.present v.told v.dead st

-- The chunk is one of the log. What of it is still to be copied is counted, and is no more than these numbers say; the clearing has room for the names of all its entries.
pub record CopiesIn (s : State) (log : LogState) (st : StandingState) (victim : Victim)
    (clearing : Option ClearingState) : Type 0 where
  pub chunk : is_some (tail_of log.chunks victim.chunk) ≡ true
  pub bounds : Bounds victim st (entries_in s log victim.chunk)
  pub counts : IsTallied st (entries_in s log victim.chunk)
  pub room : (c : ClearingState) → clearing ≡ Some c
      → length (entries_in s log victim.chunk) ≤ c.room

-- The chunk is one of the log, its names were noted, and nothing of it is left to be copied.
pub record ClearsIn (s : State) (log : LogState) (st : StandingState) (c : ClearingState) : Type 0 where
  pub chunk : is_some (tail_of log.chunks c.chunk) ≡ true
  pub ready : IsReady s log st c

-- what the region has of the chunk that is cleaned
abbrev pub IsCleanedBy : State → LogState → StandingState → Option ClearingState → Cleaning
    → Type 0
IsCleanedBy s log st clearing Nothing = Unit {0}
IsCleanedBy s log st clearing (Copying victim first) = CopiesIn s log st victim clearing
IsCleanedBy s log st clearing (Doomed chunk) = (c : ClearingState) → clearing ≡ Some c
    → ClearsIn s log st c

-- What stands in the log of member m by its region: the names are counted as the log has them, a cleaning has read at most a closed chunk of it, what a search has counted of its chunks is right, the names are those of the certain entries, and so it is with the chunk that is cleaned.
pub record NamesStand (s : State) (m : ℕ) (kept : List Entry) (present : ℕ → ℕ → Option ℕ)
    (told dead : ℕ → ℕ → Bool) (log : LogState) (st : StandingState)
    (clearing : Option ClearingState) (cleaning : Cleaning) : Type 0 where
  pub counted : IsUpToDate s log st
  pub read : (h : Settled) → st.settled ≡ Some h → IsClosed log h.chunk
  pub floors : HasFloors s log st
  pub knows : KnowsNames m kept present told dead st
  pub cleaned : IsCleanedBy s log st clearing cleaning

-- these names were told dead
pub record KillsNames (ns : List EntryName) (old new : StandingState) : Type 0 where
  pub copies : (k n : ℕ) → copies_at new k n ≡ (if has ns k n then option_map killed (copies_at old k n)
      else copies_at old k n)
  pub settled : new.settled ≡ old.settled
  pub room : new.room ≡ old.room
  pub count : length new.entries ≡ length old.entries
  pub tally : KeepsTally old new

-- What another member told is heard: its dead names, then the gone ones, and then the own names that died by these.
pub record HearsNotices (core : ℕ) (n : Notices) (ps qs : List Place) (es ix : List (ℕ × slots.Place))
    (old new : StandingState) : Type 0 where
  pub killed : StandingState
  pub kills : KillsNames n.dead old killed
  pub mid : List (ℕ × slots.Place)
  pub loses : LosesNames n.gone ps qs es mid
  pub heard : HearsAll core mid ix
  pub tells : HearsOwn core mid killed new

-- A chunk was given up: a copy less of each of its names, of which none was left to be copied. Of those that vanished the own ones are gone, and then the own names that died by these are told.
pub record LosesChunk (core : ℕ) (es : List (ℕ × Entry)) (c : ClearingState) (own : List EntryName)
    (ps qs : List Place) (index ix : List (ℕ × slots.Place)) (old new : StandingState) : Type 0 where
  pub gathered : IsGathered old es c
  pub copied : left_to_copy old es ≡ []
  pub dropped : StandingState
  pub drops : Drops old dropped c.names
  pub mid : List (ℕ × slots.Place)
  pub loses : LosesNames own ps qs index mid
  pub heard : HearsAll core mid ix
  pub tells : HearsOwn core mid dropped new

-- the names of the list that are the member's own
pub record AreOwnOf (p : groups.Place) (m : ℕ) (all ns : List EntryName) : Type 0 where
  pub own : (k n : ℕ) → has ns k n ≡ true → groups.owner p k ≡ m
  pub same : (k n : ℕ) → groups.owner p k ≡ m → has ns k n ≡ has all k n
