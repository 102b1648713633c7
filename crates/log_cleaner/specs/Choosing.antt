-- Which chunk is cleaned next.
use Rattle.std.specs.Prelude.{◌≡◌, ◌≢◌, ◌⊎◌, ℕ, ◌+◌, ◌*◌, ◌/◌, ◌<◌, ◌≤◌, ◌&&◌, ◌||◌, nat_le, Bool, true, false, Option, Some, None, is_some, ◌-◌}
use Rattle.log_entry.specs.declared.entry_limits.TheConstants.{MOST_ENTRIES}
use Rattle.pm_region.specs.Words.{lines_for}
use Rattle.pm_region.specs.State.{State}
use Rattle.core_log.specs.declared.types.Room.{Room}
use Rattle.core_log.specs.Log.{LogState, tail_of, tail_in}
use Rattle.log_cleaner.specs.declared.types.Victim.{Victim}
use Rattle.log_standing.specs.declared.types.Amount.{Amount}
use Rattle.log_standing.specs.NameCounts.{StandingState, floor_at}
use Rattle.log_cleaner.specs.Copying.{to_copy}

-- the lines that the copies take at most: their words in whole lines, and a line's end for each batch
abbrev pub copy_lines : Victim → ℕ
copy_lines v = lines_for v.words + (v.entries + (MOST_ENTRIES - 1)) / MOST_ENTRIES

-- Copies of so many lines are a third of a payload at most, and there is room for them besides what is promised. No cleaning is under way, so what is promised is to own changes.
abbrev pub has_room : Room → ℕ → Bool
has_room room lines = nat_le (3 * lines) room.payload_lines
    && (nat_le (room.pledged_lines + lines) room.open_lines || nat_le 1 room.free_chunks)

abbrev pub fits : Room → Victim → Bool
fits room v = has_room room (copy_lines v)

-- so much is left of a chunk at least that it doesn't fit
pub record IsPast (st : StandingState) (room : Room) (j : ℕ) : Type 0 where
  pub amount : Amount
  pub noted : floor_at st j ≡ Some amount
  pub past : has_room room (copy_lines (record {
    chunk = j;
    entries = amount.entries;
    words = amount.words;
  })) ≡ false

-- a chunk of the log that isn't the open one and whose copies fit
pub record IsEligible (s : State) (log : LogState) (st : StandingState) (room : Room) (j : ℕ) :
    Type 0 where
  pub has : is_some (tail_of log.chunks j) ≡ true
  pub closed : log.opened ≡ Some j → ⊥
  pub fitting : fits room (to_copy s log st j) ≡ true

-- whatever the region tells, a chunk of the log that isn't the open one, and numbers that fit
pub record IsChosen (log : LogState) (room : Room) (v : Victim) : Type 0 where
  pub has : is_some (tail_of log.chunks v.chunk) ≡ true
  pub closed : log.opened ≢ Some v.chunk
  pub fitting : fits room v ≡ true
  pub entries : v.entries ≤ tail_in log v.chunk
  pub words : v.words ≤ tail_in log v.chunk

-- j comes before i, or is i, in the cyclic order of numbers that begins behind the last victim
abbrev pub Comes : Option ℕ → ℕ → ℕ → Type 0
Comes None j i = j ≤ i
Comes (Some a) j i = ((a < j) × ((j ≤ i) ⊎ (i ≤ a))) ⊎ ((j ≤ a) × (i ≤ a) × (j ≤ i))

-- the eligible chunk that comes first; none where no chunk is eligible
abbrev pub IsVictim : State → LogState → StandingState → Option ℕ → Room → Option Victim → Type 0
IsVictim s log st after room None = (i : ℕ) → IsEligible s log st room i → ⊥
IsVictim s log st after room (Some v) = (v ≡ to_copy s log st v.chunk)
    × IsEligible s log st room v.chunk
    × ((i : ℕ) → IsEligible s log st room i → Comes after v.chunk i)

-- what is said of one chunk
abbrev pub IsCandidate : State → LogState → StandingState → Room → ℕ → Option Victim → Type 0
IsCandidate s log st room j None = IsEligible s log st room j → ⊥
IsCandidate s log st room j (Some v) = (v ≡ to_copy s log st j) × IsEligible s log st room j

-- the first eligible one of some chunk numbers
abbrev pub IsFirstIn : State → LogState → StandingState → Room → ℕ → ℕ → Option Victim → Type 0
IsFirstIn s log st room low high None = (i : ℕ) → low ≤ i → i < high → IsEligible s log st room i
    → ⊥
IsFirstIn s log st room low high (Some v) = (v ≡ to_copy s log st v.chunk)
    × IsEligible s log st room v.chunk × ((low ≤ v.chunk) × (v.chunk < high))
    × ((i : ℕ) → low ≤ i → i < high → IsEligible s log st room i → v.chunk ≤ i)
