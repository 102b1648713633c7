-- What the index keeps of a key: its record, where it has one, and room for changes to come.
use Rattle.std.specs.Prelude.{◌≡◌, ◌≢◌, ◌&&◌, Bool, is_none, ℕ, ◌+◌, ◌*◌, ◌≤◌, ◌==◌, List, [], Option, Some, None, option_map, if◌then◌else◌, ◌⊎◌}
use Rattle.std.specs.List.{AllByRecursion}
use Rattle.core_index.specs.declared.types.Head.{Head}
use Rattle.core_index.specs.declared.types.Head.TheVariants as heads
use Rattle.log_entry.specs.declared.entry.Body.{Body}
use Rattle.log_entry.specs.declared.entry.Body.TheVariants as bodies
use Rattle.core_index.specs.declared.types.Standee.{Standee}
use Rattle.core_index.specs.declared.types.StandingEntry.{StandingEntry}
use Rattle.core_index.specs.declared.types.TheConstants.{NAMES_OF_CHANGE}
use Rattle.core_index.specs.Marks.{Marks}
use Rattle.core_index.specs.Records.{KeyRecord, standing_at, is_tombstone, dies_in, is_dead, last_of, told_in, Awaits}

pub record Place : Type 0 where
  pub known : Option KeyRecord
  pub room : ℕ  -- how many changes can be settled

-- there is neither a record nor room
abbrev pub is_bare : Place → Bool
is_bare p = is_none p.known && (p.room == 0)

-- the last change of a key
pub record LastChange : Type 0 where
  pub version : ℕ
  pub body : Body

abbrev pub change_in : Head → Option LastChange
change_in heads.Absent = None
change_in (heads.Block v p) = Some (record { version = v; body = bodies.Pointer p })
change_in (heads.Embedded v b) = Some (record { version = v; body = bodies.Embedded b })
change_in (heads.Deleted v) = Some (record { version = v; body = bodies.Tombstone })

abbrev pub record_with : LastChange → List StandingEntry → KeyRecord
record_with h ss = record { version = h.version; body = h.body; standing = ss }

abbrev pub known_with : Option LastChange → List StandingEntry → Option KeyRecord
known_with None ss = None
known_with (Some h) ss = Some (record_with h ss)

-- no entry stands above the last version, and none at all without a record
abbrev pub AreBelow : Option LastChange → List StandingEntry → Type 0
AreBelow None ss = ss ≡ []
AreBelow (Some h) ss = AllByRecursion (λ s. s.version ≤ h.version) ss

abbrev pub home_in : Option StandingEntry → Option ℕ
home_in None = None
home_in (Some s) = Some s.home

abbrev pub home_alive : KeyRecord → Option ℕ
home_alive r = if is_dead r r.version then None else home_in (standing_at r.standing r.version)

-- the same by what is known of the last change
abbrev pub alive_in : ℕ → Bool → List StandingEntry → Option ℕ
alive_in last deleted ss = if dies_in last deleted ss last then None else home_in (standing_at ss last)

-- the home of the last version's entry, where it stands and is not dead
abbrev pub alive_at : Option KeyRecord → Option ℕ
alive_at None = None
alive_at (Some r) = home_alive r

-- What is true of a slot's fields.
pub record IsSlot (h : Option LastChange) (m : Marks) : Type 0 where
  pub below : AreBelow h m.items
  pub top : m.top ≤ last_of (known_with h m.items)

abbrev pub count_of : Option ℕ → ℕ
count_of None = 0
count_of (Some h) = 1

-- one where the last change was a delete whose entry is alive: it dies once no other entry stands
abbrev pub lone_deaths : Option KeyRecord → ℕ
lone_deaths None = 0
lone_deaths (Some r) = if is_tombstone r.body then count_of (home_alive r) else 0

-- How many entries of the key may still die by what there is room for already. By a change to come dies the entry before
-- it, and later its own, where it is a delete. The entry of a value dies by nothing else.
abbrev pub mortal : Place → ℕ
mortal p = NAMES_OF_CHANGE * p.room + lone_deaths p.known

abbrev pub standee_with : ℕ → ℕ → Standee
standee_with v home = record { version = v; home = home }

abbrev pub count_dead : Option Standee → ℕ
count_dead None = 0
count_dead (Some s) = 1

-- What dies by a finished change: its own entry at once, or the one that was alive.
abbrev pub dead_by : ℕ → ℕ → ℕ → Option ℕ → Option ℕ → Option Standee
dead_by v home last before None = Some (standee_with v home)
dead_by v home last None (Some g) = None
dead_by v home last (Some h) (Some g) = Some (standee_with last h)

-- The last version's entry, where it was alive and is no more, and another one went.
abbrev pub died : ℕ → ℕ → Option ℕ → Option ℕ → Option Standee
died v last None after = None
died v last (Some h) (Some g) = None
died v last (Some h) None = if v == last then None else Some (standee_with last h)

-- The version waited to be told to this home, and was told now. No other entry waits that did not.
pub record TellsOne (old new : Place) (home v : ℕ) : Type 0 where
  pub waited : Awaits old.known home v
  pub told : new ≡ record { known = option_map (told_in v) old.known; room = old.room }
  pub others : (w h : ℕ) → Awaits new.known h w → (w ≢ v) × Awaits old.known h w

-- Which entries wait to be told: none that did not, but for the one that died.
abbrev pub OnlyDead : Option KeyRecord → Option KeyRecord → Option Standee → Type 0
OnlyDead old new dead = (v home : ℕ) → Awaits new home v → Awaits old home v
    ⊎ (dead ≡ Some (standee_with v home))
