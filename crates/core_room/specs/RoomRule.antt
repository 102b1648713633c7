-- Which changes are refused for want of room, by what a core has free and what it has pledged.
use Rattle.std.specs.Prelude.{ℕ, ◌+◌, ◌-◌, ◌⊎◌, ◌≤◌, ◌==◌, ◌&&◌, ◌||◌, not, nat_lt, nat_le, Bool, Option, Some, None, if◌then◌else◌}
use Rattle.core_room.specs.declared.supply.Supply.{Supply}
use Rattle.core_room.specs.declared.types.Counts.{Counts}
use Rattle.core_room.specs.declared.types.Shortage.{Shortage}
use Rattle.core_room.specs.declared.types.Shortage.TheVariants.{Room, Block}

-- the lines that are promised, to changes under way and to a cleaning's copies
abbrev pub pledged : Supply → ℕ
pledged s = s.own_lines + s.rest_lines

-- So many lines have place neither in an open chunk with `open_lines` free lines nor in a fresh one, of `free` free chunks: the last one is kept.
abbrev pub fits_nowhere : ℕ → ℕ → ℕ → Bool
fits_nowhere open_lines free lines = nat_lt open_lines lines && nat_lt free 2

-- A chunk may be cut where one is left for the log, and one more unless so many lines have place in the open chunk.
abbrev pub leaves_chunk : ℕ → ℕ → ℕ → Bool
leaves_chunk open_lines free lines = nat_le 3 free || (free == 2 && nat_le lines open_lines)

-- what is pledged, with an entry of so many lines more, has no place
abbrev pub lacks_room : Supply → ℕ → Bool
lacks_room s need = fits_nowhere s.open_lines s.free_chunks (pledged s + need)

abbrev pub may_cut : Supply → ℕ → Bool
may_cut s need = leaves_chunk s.open_lines s.free_chunks (pledged s + need)

-- a value needs a block of this class, of which so many are free, and gets none
abbrev pub lacks_block : Supply → ℕ → ℕ → ℕ → Bool
lacks_block s need class free = not (class == 0) && free == 0 && not (may_cut s need)

abbrev pub counts_at : Supply → ℕ → ℕ → ℕ → Counts
counts_at s need class free = record {
  free_chunks = s.free_chunks;
  open_lines = s.open_lines;
  pledged_lines = pledged s;
  need_lines = need;
  class = class;
  free_blocks = if class == 0 then 0
      else free;
}

-- why an entry of so many lines, with a block of the class or none, finds no place
abbrev pub shortage_at : Supply → ℕ → ℕ → ℕ → Option Shortage
shortage_at s need class free =
    if lacks_room s need then Some (Room (counts_at s need class free))
    else (if lacks_block s need class free then Some (Block (counts_at s need class free))
    else None)

-- The rule that a core keeps: what is pledged fits in the open chunk, or two chunks are free.
abbrev pub KeepsRoom : Supply → Type 0
KeepsRoom s = (pledged s ≤ s.open_lines) ⊎ (2 ≤ s.free_chunks)

-- From the beginning of a cleaning to its first copy it is enough that the changes' lines fit, and one chunk is free.
abbrev pub KeepsRoomAtCleaning : Supply → Type 0
KeepsRoomAtCleaning s = KeepsRoom s ⊎ ((s.own_lines ≤ s.open_lines) × (1 ≤ s.free_chunks))

-- so many lines more are pledged to a change
abbrev pub pledging : Supply → ℕ → Supply
pledging s need = record s { own_lines = s.own_lines + need }

-- a chunk is cut, or opened for the log
abbrev pub without_chunk : Supply → Supply
without_chunk s = record s { free_chunks = s.free_chunks - 1 }
