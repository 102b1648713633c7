-- The round of a leader: which slots it looks at, in order, and which entries fit.
use Rattle.std.specs.Prelude.{◌≡◌, ℕ, ◌+◌, ◌-◌, ◌*◌, ◌/◌, ◌%◌, ◌==◌, ◌&&◌, ◌||◌, not, nat_le, nat_lt, Bool, true, false, List, [], ◌∷◌, length, if◌then◌else◌}
use Rattle.pm_region.specs.Words.{lines_for}
use Rattle.log_entry.specs.declared.entry_limits.TheConstants.{LONGEST_ENTRY}
use Rattle.log_entry.specs.Spelling.{words_of}
use Rattle.core_log.specs.declared.types.Room.{Room}
use Rattle.group_laws.specs.declared.group_sizes.TheConstants.{SLOTS}
use Rattle.group_laws.specs.Places.{Place, members}
use Rattle.group_laws.specs.State.{Group, word_shown}
use Rattle.group_board.specs.Told.{state_of}
use Rattle.group_board.specs.declared.board.SlotState.{SlotState}
use Rattle.group_board.specs.declared.board.SlotState.TheVariants as slots
use Rattle.batch_leader.specs.declared.taken.Taken.{Taken}
use Rattle.batch_leader.specs.TakenChanges.{spelled}

-- Positions go over the own slots first, then over the other members by rising number; all slots of each.
unfoldable pub member_at : ℕ → ℕ → ℕ
member_at m i = if i / SLOTS == 0 then m
    else (if nat_le (i / SLOTS) m then i / SLOTS - 1 else i / SLOTS)

abbrev pub slot_at : ℕ → ℕ
slot_at i = i % SLOTS

abbrev pub round_end : Place → ℕ
round_end p = SLOTS * members p

-- how many words the entries have, and the lines that m's own entries take, each by itself
abbrev pub words_taken : List Taken → ℕ
words_taken ts = length (spelled ts)

unfoldable pub own_lines : ℕ → List Taken → ℕ
own_lines m [] = 0
own_lines m (t ∷ ts) = (if t.member == m then lines_for (length (words_of t.change.entry)) else 0)
    + own_lines m ts

abbrev pub is_first : List Taken → Bool
is_first [] = true
is_first (t ∷ ts) = false

-- whether the batch goes into a fresh chunk, once an entry of so many words is taken: the first one decides
unfoldable pub goes_fresh : Room → List Taken → Bool → ℕ → Bool
goes_fresh room ts fresh n = if is_first ts then nat_lt room.open_lines (lines_for n) else fresh

-- the lines of the batch's chunk that are free for it
abbrev pub space : Room → Bool → ℕ
space room fresh = if fresh then room.payload_lines else room.open_lines

unfoldable pub stays_in : Room → List Taken → Bool → ℕ → Bool
stays_in room ts fresh n = is_first ts || nat_le (lines_for (words_taken ts + n)) (space room fresh)

-- After the batch with so many words more: the free lines of its chunk, the free chunks, and what is pledged to others than the batch.
abbrev pub left_open : Room → List Taken → Bool → ℕ → ℕ
left_open room ts fresh n = space room fresh - lines_for (words_taken ts + n)

abbrev pub left_free : Room → Bool → ℕ
left_free room fresh = if fresh then room.free_chunks - 1 else room.free_chunks

-- there is a chunk for the batch
abbrev pub has_chunk : Room → Bool → Bool
has_chunk room fresh = not fresh || nat_lt 0 room.free_chunks

-- The batch leaves the room rule kept for what is pledged to others than its own entries.
unfoldable pub leaves_room : Room → ℕ → List Taken → Bool → ℕ → Bool
leaves_room room own ts fresh n = nat_le (room.pledged_lines - own)
    (left_open room ts fresh n) || nat_le 2 (left_free room fresh)

-- An entry of so many words (no entry is longer than the longest) fits into a batch whose own entries take `own` lines: an own one where it is the first or the chunk has room; another's where that holds and room is left. That there is a chunk for the batch is asked of an own one too; where the room rule is kept, there is.
unfoldable pub fits : Room → ℕ → List Taken → Bool → Bool → ℕ → Bool
fits room own ts fresh mine n =
    nat_le n LONGEST_ENTRY && (stays_in room ts (goes_fresh room ts fresh n) n &&
    (has_chunk room (goes_fresh room ts fresh n) &&
    (mine || leaves_room room own ts (goes_fresh room ts fresh n) n)))

-- what a look found makes the round pass the slot: it isn't Posted, or its entry doesn't fit
abbrev pub Passes : Room → ℕ → List Taken → Bool → Bool → SlotState → Type 0
Passes room own ts fresh mine slots.Empty = Unit {0}
Passes room own ts fresh mine (slots.Posted n) = fits room own ts fresh mine n ≡ false
Passes room own ts fresh mine slots.Taken = Unit {0}
Passes room own ts fresh mine slots.Done = Unit {0}
Passes room own ts fresh mine slots.Failed = Unit {0}

-- what the slot at a position of m's round shows
abbrev pub shown_at : Group → ℕ → ℕ → SlotState
shown_at w m i = state_of (word_shown (w.slot (member_at m i) (slot_at i)))
