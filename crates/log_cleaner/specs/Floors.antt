-- How much of each closed chunk is still to be copied at least, as a search has counted it.
use Rattle.std.specs.Prelude.{◌≡◌, ◌≢◌, ℕ, ◌≤◌, true, false, List, length, take, Some, is_some}
use Rattle.std.specs.List.{AllByRecursion, count_by}
use Rattle.pm_region.specs.State.{State}
use Rattle.log_entry.specs.declared.entry.Entry.{Entry}
use Rattle.log_entry.specs.Spelling.{words_of}
use Rattle.core_log.specs.Log.{LogState, tail_of}
use Rattle.core_log.specs.Walking.{entries_in}
use Rattle.log_standing.specs.declared.types.Amount.{Amount}
use Rattle.log_standing.specs.declared.types.Spot.{Spot}
use Rattle.log_standing.specs.ChunkCounts.{is_named}
use Rattle.log_standing.specs.NameCounts.{StandingState, count_of, floor_at, is_told, spot_of}
use Rattle.log_cleaner.specs.Copying.{left_to_copy, words_sum}

-- a chunk of the log that isn't the open one
pub record IsClosed (log : LogState) (j : ℕ) : Type 0 where
  pub has : is_some (tail_of log.chunks j) ≡ true
  pub closed : log.opened ≢ Some j

-- where a search finds an entry of chunk j
abbrev pub spot_at : ℕ → ℕ × Entry → Spot
spot_at j y = record { chunk = j; words = length (words_of y.1) }

-- an entry of chunk j was found there, if its name was not told dead
abbrev pub IsFoundIn : StandingState → ℕ → ℕ × Entry → Type 0
IsFoundIn st j y = is_told st y.1.key y.1.version ≡ false
    → spot_of st y.1.key y.1.version ≡ spot_at j y

-- These entries of chunk j were found there, and no two of them have one name, but for names that were told dead.
pub record AreSeen (st : StandingState) (j : ℕ) (es : List (ℕ × Entry)) : Type 0 where
  pub found : AllByRecursion (IsFoundIn st j) es
  pub once : (k v : ℕ) → is_told st k v ≡ false → count_by (is_named k v) es ≤ 1

-- so many of the entries of chunk j were seen, from the first on
pub record IsSeen (st : StandingState) (j : ℕ) (es : List (ℕ × Entry)) : Type 0 where
  pub many : ℕ
  pub seen : AreSeen st j (take many es)

-- no less of so many of these entries, from the first on, is still to be copied
pub record IsFloor (a : Amount) (st : StandingState) (many : ℕ) (es : List (ℕ × Entry)) :
    Type 0 where
  pub entries : a.entries ≤ length (left_to_copy st (take many es))
  pub words : a.words ≤ words_sum (left_to_copy st (take many es))

-- It is counted of the entries that were seen: of the whole chunk no less is left.
pub record IsCounted (st : StandingState) (j : ℕ) (a : Amount) (es : List (ℕ × Entry)) : Type 0 where
  pub seen : IsSeen st j es
  pub floor : IsFloor a st seen.many es

-- what is noted of chunk j is right, if it has these entries
abbrev pub HasFloor : StandingState → ℕ → List (ℕ × Entry) → Type 0
HasFloor st j es = (a : Amount) → floor_at st j ≡ Some a → IsCounted st j a es

-- What is noted of each chunk is right, and only closed chunks of the log were counted.
pub record HasFloors (s : State) (log : LogState) (st : StandingState) : Type 0 where
  pub closed : (j : ℕ) → is_some (floor_at st j) ≡ true → IsClosed log j
  pub counted : (j : ℕ) → HasFloor st j (entries_in s log j)

-- Of the names that stand nothing is another one but where they were found, and what was counted of a chunk.
pub record Searches (old new : StandingState) : Type 0 where
  pub counts : (k v : ℕ) → count_of new k v ≡ count_of old k v
  pub told : (k v : ℕ) → is_told new k v ≡ is_told old k v
  pub names : length new.entries ≡ length old.entries
  pub room : new.room ≡ old.room
  pub settled : new.settled ≡ old.settled
  pub tally : new.tally ≡ old.tally
