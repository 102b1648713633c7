-- The entries of a key, in place or in a list.
use Rattle.std.specs.Prelude.{◌≡◌, ℕ, ◌+◌, ◌≤◌, false, true, List, length, Option, Some, None}
use Rattle.core_index.specs.declared.types.Held.{Held}
use Rattle.core_index.specs.declared.types.Held.TheVariants.{Few, Many}
use Rattle.core_index.specs.declared.types.Pair.{Pair}
use Rattle.core_index.specs.declared.types.Presence.{Presence}
use Rattle.core_index.specs.declared.types.Presence.TheVariants.{Free, Untold, Told}
use Rattle.core_index.specs.declared.types.Standee.{Standee}
use Rattle.core_index.specs.declared.types.StandingEntry.{StandingEntry}
use Rattle.core_index.specs.declared.types.TheConstants.{IN_PLACE}
use Rattle.core_index.specs.Records.{standing_with}
use Rattle.core_index.specs.Pairs.{in_pair, top_of, IsRising}

-- what a place has
abbrev pub entry_in : Presence → Standee → Option StandingEntry
entry_in Free s = None
entry_in Untold s = Some (standing_with s.version s.home false)
entry_in Told s = Some (standing_with s.version s.home true)

abbrev pub pair_in : Presence → Presence → Standee → Standee → Pair
pair_in f s n m = record { first = entry_in f n; second = entry_in s m }

abbrev pub items_in : Held → List StandingEntry
items_in (Few f s room n m) = in_pair (pair_in f s n m)
items_in (Many room list) = list.value.items

abbrev pub room_in : Held → ℕ
room_in (Few f s room n m) = room
room_in (Many room list) = room

-- a version that none is above, and none of the places of entries that are gone
abbrev pub top_in : Held → ℕ
top_in (Few f s room n m) = top_of (pair_in f s n m)
top_in (Many room list) = list.value.top

-- a pair with room for so many more
pub record IsFew (p : Pair) (room : ℕ) : Type 0 where
  pub rising : IsRising p
  pub fits : length (in_pair p) + room ≤ IN_PLACE

-- What is true of what is held.
abbrev pub IsHeld : Held → Type 0
IsHeld (Few f s room n m) = IsFew (pair_in f s n m) room
IsHeld (Many room list) = room ≤ list.value.room

-- It holds these entries, with room for so many more.
pub record Holds (h : Held) (items : List StandingEntry) (room top : ℕ) : Type 0 where
  pub held : IsHeld h
  pub items_are : items_in h ≡ items
  pub room_is : room_in h ≡ room
  pub top_is : top_in h ≡ top
