-- The worker of one core as the engine sees it.
use Rattle.std.specs.Prelude.{◌≡◌, ℕ, Bool, false, not, ◌&&◌, List, Option, Some, if◌then◌else◌}
use Rattle.std.specs.List.{slice_get}
use Rattle.fs_model.specs.declared.model.Request.{Request}
use Rattle.pm_region.specs.State.{State, IsTelling}
use Rattle.group_laws.specs.Places.{Place}
use Rattle.group_laws.specs.State.{Group}
use Rattle.group_laws.specs.MemberViews.{View}
use Rattle.group_board.specs.Seats.{SeatAt}
use Rattle.chunk_map.specs.declared.layouts.Geometry.{Geometry}
use Rattle.chunk_map.specs.Layouts.{layout_of}
use Rattle.recover.specs.declared.types.CoreStart.{CoreStart}
use Rattle.group_laws.specs.Regions.{place_at}
use Rattle.engine_laws.specs.Parts.{group_of, member_of}
use Rattle.engine_laws.specs.Stands.{Origin, opening}
use Rattle.core_worker.specs.declared.worker.Worker.{Worker}
use Rattle.core_worker.specs.declared.types.Turn.{Turn}
use Rattle.core_worker.specs.declared.types.Turn.TheVariants.{Moved, Idle}
use Rattle.core_worker.specs.Accepting.{Accepts}
use Rattle.core_worker.specs.Turning.{Turned, at_entry}
use Rattle.core_worker.specs.Beginning.{answers_of}
use Rattle.core_worker.specs.Left.{fair}
use Rattle.core_worker.specs.Openings.{IsStartAt, IsCertainAt}
use Rattle.core_worker.specs.WorkerMoves.{hands_of}
use Rattle.engine_core.specs.Seated.{Seat}
use Rattle.core_worker.specs.Status.{has_room, is_leading}
use Rattle.core_worker.specs.Supplies.{HasKeptRoom}
use Rattle.core_worker.specs.Ties.{Holds, Stands}
use Rattle.core_worker.specs.Order.{InOrder}

-- It is that member's, and stands so in the region; until it stops, the room rule is kept.
pub record IsMember (p : Place) (m : ℕ) (s : State) (v : View) (w : Worker) : Type 0 where
  pub holds : Holds p m v w
  pub stands : Stands s p m v w
  pub order : InOrder p m v w
  pub rule : w.stopped ≡ false → HasKeptRoom w

-- it has room, and doesn't wind down
abbrev pub may_take : Worker → Bool
may_take w = not w.winds_down && has_room w

abbrev pub leads : Worker → Bool
leads w = is_leading w.leading

-- it accepts a request: holds it behind those of its key, or begins it
abbrev pub BeginsRequest : State → View → Worker → Worker → ℕ → Request → Type 0
BeginsRequest s v w x n r = Accepts (IsTelling s) v w x n r

abbrev pub turn_of : Bool → Turn
turn_of moved = if moved then Moved else Idle

-- A turn by the order of work. In a replay nothing holds a worker back.
abbrev pub MakesTurn : Bool → State → State → Option Group → SeatAt → View → View → Worker → Worker → Type 0
MakesTurn moved s t before seat v u w x = Turned (turn_of moved) s t false before seat (at_entry w v)
    (at_entry x u)

-- nothing but its answers differs
abbrev pub SameButAnswers : Worker → Worker → Type 0
SameButAnswers w x = x ≡ record w { answers = x.answers }

-- On each words found of which the start is that of a core, in a region that certainly has them in the core's part, the worker is seated in the first state of a run.
abbrev pub SeatsFirst : CoreStart → Geometry → Worker → Type 0
SeatsFirst start layout w = (o : Origin) (c : ℕ) → layout ≡ layout_of o.found
    → IsStartAt (place_at (layout_of o.found) (group_of (layout_of o.found) c))
    (member_of (layout_of o.found) c) o.found start
    → IsCertainAt o.region (place_at (layout_of o.found) (group_of (layout_of o.found) c))
    (member_of (layout_of o.found) c) o.found start
    → Seat hands_of answers_of IsMember fair may_take leads (opening o) c w

-- each worker is so by the start of its core
abbrev pub SeatFirst : List CoreStart → Geometry → List Worker → Type 0
SeatFirst starts layout ws = (c : ℕ) (w : Worker) (start : CoreStart) → slice_get ws c ≡ Some w
    → slice_get starts c ≡ Some start → SeatsFirst start layout w
