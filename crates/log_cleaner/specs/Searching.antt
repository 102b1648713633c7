-- A chunk is read for a search.
use Rattle.std.specs.Prelude.{◌≡◌, ◌≢◌, ◌⊎◌, ℕ, ◌-◌, Bool, true, false, take}
use Rattle.pm_region.specs.State.{State}
use Rattle.core_log.specs.declared.types.Peek.{Peek}
use Rattle.core_log.specs.declared.types.Room.{Room}
use Rattle.core_log.specs.Log.{LogState}
use Rattle.core_log.specs.Walking.{entries_in}
use Rattle.log_standing.specs.NameCounts.{StandingState, name_eq, count_of, is_told, spot_of}
use Rattle.log_standing.specs.ChunkCounts.{has_name}
use Rattle.log_cleaner.specs.declared.types.Victim.{Victim}
use Rattle.log_cleaner.specs.Choosing.{fits}
use Rattle.log_cleaner.specs.Copying.{left_to_copy, tally_of}
use Rattle.log_cleaner.specs.Floors.{AreSeen, Searches}

-- An entry of chunk j was looked at: the only one of its name, if that wasn't told dead, is found there from now on, and wasn't before.
pub record Looks (old new : StandingState) (j : ℕ) (p : Peek) (alone : Bool) : Type 0 where
  pub same : Searches old new
  pub floors : new.floors ≡ old.floors
  pub others : (k v : ℕ) → name_eq (p.name.key, p.name.version) (k, v) ≡ false
      → spot_of new k v ≡ spot_of old k v
  pub lone : (spot_of new p.name.key p.name.version ≡ spot_of old p.name.key p.name.version)
      ⊎ (count_of old p.name.key p.name.version ≡ 1)
  pub found : alone ≡ true → is_told old p.name.key p.name.version ≡ false
      → spot_of new p.name.key p.name.version ≡ record { chunk = j; words = p.next - p.place }
  pub first : alone ≡ true → is_told old p.name.key p.name.version ≡ false → (words : ℕ)
      → spot_of old p.name.key p.name.version ≡ record { chunk = j; words = words } → words ≡ 0

-- Of names that were found in chunk j it was forgotten where, and nothing else.
pub record Forgets (old new : StandingState) (j : ℕ) : Type 0 where
  pub same : Searches old new
  pub floors : new.floors ≡ old.floors
  pub others : (k v : ℕ) → (spot_of old k v).chunk ≢ j → spot_of new k v ≡ spot_of old k v

-- So many entries of chunk j were read, from the first on, and all where what is left of them fits: what is left of them, whether they were seen, each name once, and that no other name was found.
pub record IsRead (s : State) (log : LogState) (old new : StandingState) (room : Room) (j : ℕ)
    (v : Victim) (alone : Bool) : Type 0 where
  pub many : ℕ
  pub left : v ≡ tally_of j (left_to_copy old (take many (entries_in s log j)))
  pub whole : fits room v ≡ true → take many (entries_in s log j) ≡ entries_in s log j
  pub seen : alone ≡ true → AreSeen new j (take many (entries_in s log j))
  pub others : (k n : ℕ) → (spot_of new k n ≡ spot_of old k n)
      ⊎ ((count_of old k n ≡ 1) × (has_name (entries_in s log j) k n ≡ true))
