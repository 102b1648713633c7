-- What the cores of a run begin with, and what they give back.
use Rattle.std.specs.Prelude.{◌≡◌, ℕ, ◌*◌, ◌/◌, ◌<◌, ◌≤◌, List, [], ◌++◌, map, length, slice_index_or, Bool, true, false, Option, Some, vec_capacity}
use Rattle.std.specs.List.{slice_get, AllByRecursion}
use Rattle.fs_model.specs.declared.model.Request.{Request}
use Rattle.pm_region.specs.State.{State}
use Rattle.core_worker.specs.declared.types.Answer.{Answer}
use Rattle.core_worker.specs.declared.worker.Worker.{Worker}
use Rattle.core_worker.specs.Beginning.{answers_of}
use Rattle.answer_queue.specs.declared.window_sizes.TheConstants.{PARTS, WINDOW}
use Rattle.engine_core.specs.declared.types.Stamped.{Stamped}
use Rattle.atomic_board.specs.declared.group_table.GroupTable.{GroupTable}
use Rattle.atomic_board.specs.declared.token.SeatToken.{SeatToken}
use Rattle.atomic_board.specs.declared.token.CoreSeat.{CoreSeat}
use Rattle.atomic_board.specs.GroupTables.{id_of}
use Rattle.atomic_board.specs.Deeds.{committed_at}
use Rattle.atomic_board.specs.MemberSeats.{seat_of, view_at, trail_at, done_at}
use Rattle.batch_leader.specs.TurnSteps.{trail_with}
use Rattle.thread_engine.specs.declared.core_job.CoreJob.{CoreJob}
use Rattle.thread_engine.specs.declared.crew.Crew.{Crew}
use Rattle.thread_engine.specs.declared.crew.Returned.{Returned}
use Rattle.thread_engine.specs.WorkStates.{WorkState, IsAtWork, WorksOn, HasEnded}
use Rattle.thread_engine.specs.WindowJobs.{IsAtRest}
use Rattle.thread_engine.specs.Takings.{TakenAs}
use Rattle.thread_engine.specs.Windows.{dealt_from, dealt_by, OwnsKeys}
use Rattle.thread_engine.specs.Between.{RestsEach}

-- A token and a worker for each of so many cores; each token is of a seat at the core's table.
pub record IsCrew (tables : List GroupTable) (group count : ℕ) (x : Crew) : Type 0 where
  pub tokens : length x.tokens.items ≡ count
  pub workers : length x.workers.items ≡ count
  pub any : 0 < count
  -- each may have a part of the right to know what all put
  pub few : count < PARTS
  pub some_ : 0 < group
  pub within : (c : ℕ) → c < count → c / group < length tables
  pub seats : (c : ℕ) (t : SeatToken) (b : GroupTable) → slice_get x.tokens.items c ≡ Some t
      → slice_get tables (c / group) ≡ Some b → (seat_of t.own).table ≡ id_of b

-- nothing is in it, and there is room for what so many cores give back
pub record HasRoomOf {P : Type 0} (cores : ℕ) (x : Returned P) : Type 0 where
  pub pieces : (x.pieces.items ≡ []) × (cores ≤ vec_capacity x.pieces)
  pub tokens : (x.tokens.items ≡ []) × (cores ≤ vec_capacity x.tokens)
  pub workers : (x.workers.items ≡ []) × (cores ≤ vec_capacity x.workers)

-- the jobs are made of these, core by core, with no request
pub record AreMade {P : Type 0} (pieces : List P) (x : Crew)
    (jobs : List (CoreJob CoreSeat P)) : Type 0 where
  pub pieces_are : map (λ j. j.piece) jobs ≡ pieces
  pub workers : map (λ j. j.worker) jobs ≡ x.workers.items
  pub fresh : AllByRecursion (λ j. j.queue.items ≡ []) jobs
  pub seats : map (λ j. j.seat.own) jobs ≡ map (λ t. t.own) x.tokens.items

-- the jobs gave these back
pub record Gave {P : Type 0} (jobs : List (CoreJob CoreSeat P)) (x : Returned P) : Type 0 where
  pub pieces : x.pieces.items ≡ map (λ j. j.piece) jobs
  pub workers : x.workers.items ≡ map (λ j. j.worker) jobs
  pub seats : map (λ t. t.own) x.tokens.items ≡ map (λ j. j.seat.own) jobs

-- where a core stands, by what it has
abbrev pub core_stands : {P : Type 0} → (P → State) → P → SeatToken → Worker → List (ℕ × Request)
    → WorkState
core_stands state p t w q = record {
  region = state p;
  view = view_at t.own;
  trail = trail_with (trail_at t.own) (committed_at (done_at t.own));
  worker = w;
  queue = q;
}

-- each core is at rest, at the seat that owns its keys
abbrev pub AllAtRest : {P : Type 0} → (P → State) → List P → Crew → Type 0
AllAtRest {P} state pieces x = (c : ℕ) (p : P) (t : SeatToken) (w : Worker)
    → slice_get pieces c ≡ Some p → slice_get x.tokens.items c ≡ Some t
    → slice_get x.workers.items c ≡ Some w
    → OwnsKeys (length pieces) c (seat_of t.own)
    × IsAtRest (seat_of t.own) (core_stands state p t w [])

-- These requests joined, a core worked to its end, and it handed these answers over. Behind each of the first so many windows it rested, with what had joined by then.
pub record Went {P : Type 0} (state : P → State) (refused : Bool) (p : P) (t : SeatToken)
    (w : Worker) (more : List (ℕ × Request)) (outs : List Answer) (windows : ℕ)
    (joined : ℕ → List (ℕ × Request)) (q : P) (u : SeatToken) (x : Worker) : Type 0 where
  pub seat : seat_of u.own ≡ seat_of t.own
  pub left : List (ℕ × Request)
  pub work : IsAtWork (seat_of t.own) (core_stands state q u x left)
  pub works : WorksOn (seat_of t.own) refused more outs (core_stands state p t w [])
      (core_stands state q u x left)
  pub rests : RestsEach (seat_of t.own) refused windows joined (core_stands state p t w [])
      (core_stands state q u x left) works.works
  pub ended : HasEnded (core_stands state q u x left)
  pub none : answers_of x ≡ []

-- All did, and gave back what they have. The first of a run's requests were dealt to the owners of their keys; where there was memory, all of them, and else every worker winds down. Behind each of the first so many windows every core rested. All answers were handed over and taken, each once and no other, and are kept by number.
pub record AllWent {P : Type 0} (state : P → State) (refused : Bool) (pieces : List P) (crew : Crew)
    (given : List Request) (windows : ℕ) (all : Bool) (x : Returned P)
    (kept kept' : List (Option Stamped)) : Type 0 where
  pub dealt : List Request
  pub rest : List Request
  pub split : given ≡ dealt ++ rest
  pub whole : all ≡ true → rest ≡ []
  pub memory : all ≡ true → (c : ℕ) (y : Worker) → slice_get x.workers.items c ≡ Some y
      → y.winds_down ≡ false
  pub wound : all ≡ false → (c : ℕ) (y : Worker) → slice_get x.workers.items c ≡ Some y
      → y.winds_down ≡ true
  pub within : windows * WINDOW ≤ length dealt
  pub outs : List (List Answer)
  pub few : length outs ≤ length pieces
  pub taken : TakenAs 0 0 (length given) outs kept kept'
  pub pieces_count : length x.pieces.items ≡ length pieces
  pub tokens_count : length x.tokens.items ≡ length pieces
  pub workers_count : length x.workers.items ≡ length pieces
  pub each : (c : ℕ) (p : P) (t : SeatToken) (w : Worker) (q : P) (u : SeatToken) (y : Worker)
      → slice_get pieces c ≡ Some p → slice_get crew.tokens.items c ≡ Some t
      → slice_get crew.workers.items c ≡ Some w
      → slice_get x.pieces.items c ≡ Some q → slice_get x.tokens.items c ≡ Some u
      → slice_get x.workers.items c ≡ Some y
      → Went state refused p t w (dealt_from (length pieces) c 0 dealt) (slice_index_or outs c [])
      windows (dealt_by (length pieces) c dealt) q u y
