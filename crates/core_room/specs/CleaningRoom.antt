-- The room of a cleaning: what its copies still take, and what each of its turns does to what is free.
use Rattle.std.specs.Prelude.{◌≡◌, ◌⊎◌, ℕ, ◌+◌, ◌-◌, ◌*◌, ◌≤◌, ◌<◌, Bool, nat_lt, if◌then◌else◌}
use Rattle.pm_region.specs.Words.{lines_for}
use Rattle.log_entry.specs.declared.entry_limits.TheConstants.{MOST_ENTRIES}
use Rattle.core_room.specs.declared.supply.Supply.{Supply}
use Rattle.core_room.specs.Lengths.{lines_to_copy}
use Rattle.core_room.specs.RoomRule.{pledged}

-- the same with so many lines still to be copied
abbrev pub copying : Supply → ℕ → Supply
copying s lines = record s { rest_lines = lines }

-- A cleaning may begin whose copies take so many lines: no more than one chunk is free, and they have room beside what is promised to own changes, or one is. They take at most a third of a chunk.
pub record MayBegin (s : Supply) (payload lines : ℕ) : Type 0 where
  pub few : s.free_chunks ≤ 1
  pub third : 3 * lines ≤ payload
  pub fits : (s.own_lines + lines ≤ s.open_lines) ⊎ (1 ≤ s.free_chunks)

-- the first copy goes into a fresh chunk where what is promised doesn't fit in the open one
abbrev pub needs_fresh : Supply → Bool
needs_fresh s = nat_lt s.open_lines (pledged s)

-- what is free once the chunk of the copies is the open one
abbrev pub with_open : Supply → ℕ → Bool → Supply
with_open s payload fresh = if fresh then record s {
  free_chunks = s.free_chunks - 1;
  open_lines = payload;
} else s

-- what is still to be copied after a batch of so many: a full batch leaves the others, a smaller one leaves none
abbrev pub left_after : ℕ → ℕ → ℕ
left_after count n = if nat_lt n MOST_ENTRIES then 0 else count - n

abbrev pub left_words : ℕ → ℕ → ℕ → ℕ
left_words words n w = if nat_lt n MOST_ENTRIES then 0 else words - w

-- the lines that are still to be copied then
abbrev pub lines_after : ℕ → ℕ → ℕ → ℕ → ℕ
lines_after count words n w = lines_to_copy (left_after count n) (left_words words n w)

-- so many lines were copied into the open chunk, and so many are left
abbrev pub copied : Supply → ℕ → ℕ → Supply
copied s lines left = record s { open_lines = s.open_lines - lines; rest_lines = left }

-- a chunk came back
abbrev pub with_chunk : Supply → Supply
with_chunk s = record s { free_chunks = s.free_chunks + 1 }
