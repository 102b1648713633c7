-- What a list of places has of a key.
use Rattle.std.specs.Prelude.{ℕ, List, Option, Some, None}
use Rattle.std.specs.Map.{lookup}
use Rattle.std.specs.BTreeMap.{is_at}
use Rattle.std.specs.Ordering.{nat_cmp}
use Rattle.core_index.specs.Records.{KeyRecord}
use Rattle.core_index.specs.Slots.{Place}

abbrev pub place_at : List (ℕ × Place) → ℕ → Option Place
place_at es k = lookup (is_at (nat_cmp k)) es

abbrev pub known_in : Option Place → Option KeyRecord
known_in None = None
known_in (Some p) = p.known

abbrev pub room_in : Option Place → ℕ
room_in None = 0
room_in (Some p) = p.room

-- the key's record, where it has one
abbrev pub known_at : List (ℕ × Place) → ℕ → Option KeyRecord
known_at es k = known_in (place_at es k)

-- for how many changes of the key there is room
abbrev pub room_at : List (ℕ × Place) → ℕ → ℕ
room_at es k = room_in (place_at es k)
