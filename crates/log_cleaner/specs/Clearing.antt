-- The names of a chunk, and those that vanish with it.
use Rattle.std.specs.Prelude.{◌≡◌, ℕ, ◌+◌, ◌<◌, ◌≤◌, ◌==◌, ◌&&◌, Bool, true, List, [], ◌∷◌, ◌++◌, length, if◌then◌else◌}
use Rattle.pm_region.specs.State.{State, IsTelling}
use Rattle.log_entry.specs.declared.entry.Entry.{Entry}
use Rattle.log_entry.specs.declared.entry.EntryName.{EntryName}
use Rattle.core_log.specs.Log.{LogState}
use Rattle.core_log.specs.Retiring.{RetiredChunk}
use Rattle.core_log.specs.Walking.{entries_in}
use Rattle.log_standing.specs.NameCounts.{StandingState, bit, count_of, is_told, times_in}
use Rattle.log_standing.specs.ChunkCounts.{has_name}
use Rattle.log_cleaner.specs.Copying.{left_to_copy, IsUpToDate}
use Rattle.log_cleaner.specs.Dropping.{Drops}
use Rattle.log_cleaner.specs.Floors.{HasFloors}
use Rattle.log_cleaner.specs.ImagesBeside.{Vanish}

-- the chunk, its names, those that vanish with it, and for how many more names there is room
pub record ClearingState : Type 0 where
  pub chunk : ℕ
  pub names : List EntryName
  pub doomed : List EntryName
  pub room : ℕ

abbrev pub IsFresh : ClearingState → Type 0
IsFresh c = (c.names ≡ []) × (c.doomed ≡ [])

-- the name was told dead and stands in one chunk alone
abbrev pub is_doomed : StandingState → ℕ → ℕ → Bool
is_doomed st k v = is_told st k v && count_of st k v == 1

-- each of these names was told dead and stands in one chunk alone
abbrev pub AreLone : StandingState → List EntryName → Type 0
AreLone st ns = (k v : ℕ) → 0 < times_in ns k v → is_doomed st k v ≡ true

-- each name that is to vanish was noted, and stands in that list no oftener than it was
abbrev pub AreNoted : ClearingState → Type 0
AreNoted c = (k v : ℕ) → times_in c.doomed k v ≤ times_in c.names k v

-- the list has each name of the entries once, and no other
abbrev pub HasNames : List EntryName → List (ℕ × Entry) → Type 0
HasNames ns es = (k v : ℕ) → times_in ns k v ≡ bit (has_name es k v)

-- each name of theirs that was told dead and stands in one chunk alone, once, and no other
abbrev pub HasDoomed : List EntryName → StandingState → List (ℕ × Entry) → Type 0
HasDoomed ns st es = (k v : ℕ) → times_in ns k v ≡ bit (has_name es k v && is_doomed st k v)

pub record IsGathered (st : StandingState) (es : List (ℕ × Entry)) (c : ClearingState) :
    Type 0 where
  pub names : HasNames c.names es
  pub doomed : HasDoomed c.doomed st es

-- the names of the chunk's entries were noted, and nothing of it is left to be copied
pub record IsReady (s : State) (log : LogState) (st : StandingState) (c : ClearingState) :
    Type 0 where
  pub gathered : IsGathered st (entries_in s log c.chunk) c
  pub copied : left_to_copy st (entries_in s log c.chunk) ≡ []

-- The chunk was given up. It is certainly Free, each of its names has one copy less, and the doomed ones stand in the log no more, all others still do.
pub record HasCleared (s t : State) (log log' : LogState) (old new : StandingState)
    (c : ClearingState) : Type 0 where
  pub retired : RetiredChunk t log log' c.chunk
  pub dropped : Drops old new c.names
  pub standing : IsTelling t → IsUpToDate t log' new
  pub vanish : IsTelling t → Vanish s t log log' c.doomed
  pub floors : IsTelling t → HasFloors s log old → HasFloors t log' new

-- a name that wasn't noted yet is noted
pub record NotesNew (st : StandingState) (old new : ClearingState) (n : EntryName) : Type 0 where
  pub names : new.names ≡ old.names ++ n ∷ []
  pub doomed : new.doomed ≡ (if is_doomed st n.key n.version then old.doomed ++ n ∷ []
      else old.doomed)
  pub room : new.room + 1 ≡ old.room

-- What is true of the fields between two calls: the set of names seen is that of the list, which has each once; and there is room.
pub record IsClearing (noted : StandingState) (names doomed : List EntryName)
    (names_room doomed_room : ℕ) : Type 0 where
  pub names_fit : length names + noted.room ≤ names_room
  pub doomed_fit : length names + noted.room ≤ doomed_room
  pub fewer : length doomed ≤ length names
  pub seen : (k v : ℕ) → count_of noted k v ≡ times_in names k v
  pub once : (k v : ℕ) → times_in names k v ≤ 1
