-- The room of a worker at one moment, and which requests are refused for want of it.
use Rattle.std.specs.Prelude.{ℕ, ◌^◌, ◌<◌, ◌==◌, ◌||◌, nat_lt, nat_le, min, true, false, List, length, Option, Some, None, option_map, if◌then◌else◌}
use Rattle.chunk_map.specs.declared.layouts.Geometry.{Geometry}
use Rattle.chunk_map.specs.Layouts.{payload_lines, longest_value}
use Rattle.core_log.specs.Log.{room_of}
use Rattle.core_log.specs.declared.types.Room.{Room}
use Rattle.lazy_alloc.specs.Sets.{Sets, free_chunk_count, free_block_count}
use Rattle.fs_model.specs.declared.model.Request.{Request}
use Rattle.fs_model.specs.declared.model.Request.TheVariants.{Put, Get, Delete}
use Rattle.log_entry.specs.declared.entry_limits.TheConstants.{LAST_PUT_VERSION}
use Rattle.core_room.specs.declared.supply.Supply.{Supply}
use Rattle.core_room.specs.declared.types.Shortage.{Shortage}
use Rattle.core_room.specs.declared.types.Shortage.TheVariants as causes
use Rattle.core_room.specs.Lengths.{lines_needed, class_for, lines_to_copy}
use Rattle.core_room.specs.RoomRule.{KeepsRoom, KeepsRoomAtCleaning, pledged, shortage_at}
use Rattle.log_standing.specs.declared.types.Amount.{Amount}
use Rattle.log_standing.specs.NameCounts.{StandingState}
use Rattle.log_cleaner.specs.declared.types.Victim.{Victim}
use Rattle.core_worker.specs.declared.types.Cleaning.{Cleaning}
use Rattle.core_worker.specs.declared.types.Cleaning.TheVariants.{Nothing, Copying, Doomed}
use Rattle.core_worker.specs.declared.worker.Worker.{Worker}
use Rattle.core_worker.specs.OwnPlaces.{own}

-- what is left of a victim's chunk: no more than is counted of it
abbrev pub no_more_than : Option Amount → Victim → Victim
no_more_than None v = v
no_more_than (Some a) v = record v {
  entries = min v.entries a.entries;
  words = min v.words a.words;
}

abbrev pub counted_by : Option Amount → Cleaning → Cleaning
counted_by left Nothing = Nothing
counted_by left (Copying victim first) = Copying (no_more_than left victim) first
counted_by left (Doomed chunk) = Doomed chunk

-- what the names that stand in a log count of the chunk that is copied
abbrev pub left_in : StandingState → Option Amount
left_in st = option_map (λ t. t.left) st.tally

-- The cleaning that a worker goes on with, with what is still to be copied: one that has stopped or winds down leaves its cleaning as it stands.
abbrev pub under_way : Worker → Cleaning
under_way w = if w.stopped || w.winds_down then Nothing
    else counted_by (left_in w.standing) w.cleaning

-- the lines that a cleaning under way has still to copy
abbrev pub rest : Cleaning → ℕ
rest Nothing = 0
rest (Copying victim first) = lines_to_copy victim.entries victim.words
rest (Doomed chunk) = 0

-- what a cleaning counts is no more than a chunk has
abbrev pub IsSmall : Cleaning → Type 0
IsSmall Nothing = Unit {0}
IsSmall (Copying victim first) = (victim.words < 2 ^ 32) × (victim.entries < 2 ^ 32)
IsSmall (Doomed chunk) = Unit {0}

abbrev pub supply_of : Worker → Supply
supply_of w = record {
  free_chunks = free_chunk_count w.allocator;
  open_lines = room_of w.log;
  own_lines = own w.places.items;
  rest_lines = rest (under_way w);
}

-- The room rule of a worker. It is the weaker one from the beginning of a cleaning to its first copy.
abbrev pub KeepsRule : Cleaning → Supply → Type 0
KeepsRule Nothing s = KeepsRoom s
KeepsRule (Copying victim true) s = KeepsRoomAtCleaning s
KeepsRule (Copying victim false) s = KeepsRoom s
KeepsRule (Doomed chunk) s = KeepsRoom s

abbrev pub HasKeptRoom : Worker → Type 0
HasKeptRoom w = KeepsRule (under_way w) (supply_of w)

-- What a leader is told of the room.
abbrev pub room_for : Worker → Room
room_for w = record {
  open_lines = room_of w.log;
  free_chunks = free_chunk_count w.allocator;
  pledged_lines = pledged (supply_of w);
  payload_lines = payload_lines w.log.layout;
}

-- the free blocks of a class, 0 where no block is asked
abbrev pub free_blocks : Sets → ℕ → ℕ
free_blocks a class = if class == 0 then 0 else free_block_count a class

-- why an entry of so many lines, with a block of the class or none, finds no place
abbrev pub lacks : Supply → Sets → ℕ → ℕ → Option Shortage
lacks s a need class = shortage_at s need class (free_blocks a class)

-- Why a put of so many bytes is refused, to a key with this last version: the first cause counts.
abbrev pub why_put : Geometry → Supply → Sets → ℕ → ℕ → Option Shortage
why_put l s a last n =
    if nat_lt (longest_value l) n then Some (causes.Length n)
    else (if nat_le LAST_PUT_VERSION last then Some (causes.Versions last)
    else lacks s a (lines_needed n) (class_for n))

-- a delete is refused for want of room alone, and only of a key that has a value
abbrev pub why_delete : Supply → Sets → Option (List ℕ) → Option Shortage
why_delete s a None = None
why_delete s a (Some v) = lacks s a 1 0

-- Why a request is refused, of a key with this last version and this cell.
abbrev pub why : Geometry → Supply → Sets → ℕ → Option (List ℕ) → Request → Option Shortage
why l s a last cell (Put k v) = why_put l s a last (length v)
why l s a last cell (Get k) = None
why l s a last cell (Delete k) = why_delete s a cell
