-- A run of the engine that has its workers: what its states have, how it begins, and what a move of a core is.
use Rattle.std.specs.Prelude.{◌≡◌, ℕ, List, [], ◌∷◌, ◌++◌, Bool, Option, Some, None, slice_set}
use Rattle.std.specs.List.{slice_get}
use Rattle.fs_model.specs.declared.model.Request.{Request}
use Rattle.pm_region.specs.State.{State}
use Rattle.chunk_map.specs.declared.layouts.Geometry.{Geometry}
use Rattle.group_laws.specs.Places.{Place}
use Rattle.group_laws.specs.State.{Group}
use Rattle.group_laws.specs.MemberViews.{View}
use Rattle.group_laws.specs.Regions.{place_at}
use Rattle.group_board.specs.Seats.{SeatAt}
use Rattle.group_board.specs.declared.local_board.LocalBoard.{LocalBoard}
use Rattle.engine_laws.specs.Parts.{group_of, member_of}
use Rattle.engine_laws.specs.WorkerMoves.{Hands}
use Rattle.engine_laws.specs.Engine.{Engine}
use Rattle.engine_laws.specs.Stands.{Origin, opening, given_to}
use Rattle.engine_laws.specs.Promises.{AnyTurn, next_in}
use Rattle.core_worker.specs.declared.types.Answer.{Answer}
use Rattle.core_worker.specs.declared.worker.Worker.{Worker}
use Rattle.core_worker.specs.Beginning.{answers_of}
use Rattle.core_worker.specs.Left.{fair}
use Rattle.core_worker.specs.WorkerMoves.{hands_of}
use Rattle.engine_core.specs.declared.types.Stamped.{Stamped}
use Rattle.engine_core.specs.declared.worker_calls.CoreWorker.{Ghosts}
use Rattle.engine_core.specs.Answers.{stored}
use Rattle.engine_core.specs.Calls.{Does}
use Rattle.engine_core.specs.Seated.{Seat}
use Rattle.group_engine.specs.Shows.{Shows}
use Rattle.engine_core.specs.Working.{IsMember, may_take, leads, BeginsRequest, MakesTurn, SameButAnswers}

-- Where a run stands: the engine's state, the workers by core, and what is kept of the answers by number: each with its stamp, and with the cause of a refusal.
pub record RunState (W : Type 0) : Type 0 where
  pub engine : Engine
  pub workers : List W
  pub answers : List (Option Stamped)

abbrev pub run_state : {W : Type 0} → Engine → List W → List (Option Stamped) → RunState W
run_state e ws ks = record { engine = e; workers = ws; answers = ks }

-- the first state with these workers: no request, and no answer
abbrev pub first_state : {W : Type 0} → Origin → List W → RunState W
first_state o ws = run_state (opening o) ws []

-- a request is given to its owner, and no answer of it is kept yet
abbrev pub with_request : {W : Type 0} → RunState W → Request → RunState W
with_request e q = run_state (given_to e.engine q) e.workers (e.answers ++ None ∷ [])

-- A move of core c: its worker accepts the first request of its backlog, where it may take one and one waits, and else makes a turn. Then all its answers are given out, and kept with the region's stamp.
pub record RunMoves {W : Type 0} (hands : View → W → Hands) (answers : W → List Answer)
    (stands : Place → ℕ → State → View → W → Type 0) (fair : Group → ℕ → W → Type 0)
    (room leads : W → Bool) (begins : State → View → W → W → ℕ → Request → Type 0)
    (turned : Bool → State → State → Option Group → SeatAt → View → View → W → W → Type 0)
    (alike : W → W → Type 0) (e : RunState W) (c : ℕ) (moved : Bool) (f : RunState W) : Type 0 where
  pub turn : AnyTurn e.engine c moved f.engine
  -- the core's worker before the move, once it has moved, and once its answers are given out, in which alone it differs then
  pub old : W
  pub mid : W
  pub new : W
  pub from : slice_get e.workers c ≡ Some old
  pub sits : Seat hands answers stands fair room leads e.engine c old
  pub does : Does begins turned (place_at e.engine.layout (group_of e.engine.layout c))
      (member_of e.engine.layout c) e.engine.region f.engine.region
      (e.engine.group (group_of e.engine.layout c))
      (f.engine.group (group_of e.engine.layout c)) old mid (next_in e.engine c) moved
  pub gives : alike mid new
  pub sits_on : Seat hands answers stands fair room leads f.engine c new
  pub workers : f.workers ≡ slice_set e.workers c new
  pub keeps : f.answers ≡ stored (answers mid) f.engine.region.stamp e.answers

-- the same, by all that a kind of worker says of itself
abbrev pub MovesOf : {W : Type 0} → Ghosts W → RunState W → ℕ → Bool → RunState W → Type 0
MovesOf says e c moved f = RunMoves says.hands says.answers says.stands says.fair says.room
    says.leads says.begins says.turned says.alike e c moved f

-- a move of a core of the program
abbrev pub CoreMoves : RunState Worker → ℕ → Bool → RunState Worker → Type 0
CoreMoves e c moved f = RunMoves hands_of answers_of IsMember fair may_take leads BeginsRequest
    MakesTurn SameButAnswers e c moved f

-- The lists of an engine show such a state: its workers and its kept answers are these.
pub record ShowsRun {W Q : Type 0} (hands : View → W → Hands) (answers : W → List Answer)
    (stands : Place → ℕ → State → View → W → Type 0) (fair : Group → ℕ → W → Type 0)
    (room leads : W → Bool) (queue : Q → List (ℕ × Request)) (s : State) (l : Geometry)
    (workers : List W) (boards : List LocalBoard) (backlogs : List Q) (kept : List (Option Stamped))
    (e : RunState W) : Type 0 where
  pub shows : Shows hands answers stands fair room leads queue s l workers boards backlogs kept
      e.engine
  pub workers_are : e.workers ≡ workers
  pub answers_are : e.answers ≡ kept
