-- A batch on its way into the own log.
use Rattle.std.specs.Prelude.{ℕ, ◌+◌, ◌<◌, ◌≤◌, Option, Some, None}
use Rattle.pm_region.specs.State.{State, IsTelling, cell_now, During}
use Rattle.pm_region.specs.Words.{Surely, KeepsOutside, lines_for}
use Rattle.chunk_map.specs.Layouts.{payload_lines, chunk_words}
use Rattle.core_log.specs.Log.{LogState, with_tail, first_of, open_first, room_of}
use Rattle.group_laws.specs.MemberViews.{View}
use Rattle.group_board.specs.Seats.{SeatAt}
use Rattle.licence.specs.Licence.{Licensed, part_at, part_end}

-- So many words have room where they go: in the open chunk, or in a fresh one of the part that is certainly Free.
abbrev pub HasRoom : State → LogState → ℕ → Option ℕ → Type 0
HasRoom s log words None = lines_for words ≤ room_of log
HasRoom s log words (Some j) =
    (lines_for words ≤ payload_lines log.layout) × (j < log.layout.chunks)
    × (IsTelling s → Surely (cell_now s (first_of log j)) 0)

-- the log with the fresh chunk as the open one, with nothing in it
abbrev pub opened_for : LogState → Option ℕ → LogState
opened_for log None = log
opened_for log (Some j) = record log { chunks = with_tail log.chunks j 0; opened = Some j }

-- at each moment each image of the member's part is licensed by the view
abbrev pub StaysLicensed : State → State → SeatAt → View → Type 0
StaysLicensed s t seat v = During s t (Licensed seat.place seat.number v)

-- each image of the part is licensed now
abbrev pub IsLicensedNow : State → SeatAt → View → Type 0
IsLicensedNow s seat v = IsTelling s → Licensed seat.place seat.number v (cell_now s)

-- no word outside the member's part is stored or flushed
abbrev pub WritesPart : State → State → SeatAt → Type 0
WritesPart s t seat = During s t (KeepsOutside (cell_now s) (part_at seat.place seat.number)
    (part_end seat.place seat.number))

-- no word outside the open chunk of the log is stored or flushed
abbrev pub WritesOpenChunk : State → State → LogState → Type 0
WritesOpenChunk s t log = During s t (KeepsOutside (cell_now s) (open_first log)
    (open_first log + chunk_words log.layout))
