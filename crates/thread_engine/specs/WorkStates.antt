-- One core at work in a thread of its own: where it stands between two calls of its worker, and what leads it on.
use Rattle.std.specs.Prelude.{Result, ◌≡◌, ◌⊎◌, ℕ, Bool, true, false, List, [], ◌∷◌, ◌++◌, Option}
use Rattle.std.specs.Global.{Global}
use Rattle.std.specs.declared.collections.VecDeque.{VecDeque}
use Rattle.fs_model.specs.declared.memory.Memory.{Memory}
use Rattle.fs_model.specs.declared.model.Request.{Request}
use Rattle.pm_region.specs.State.{State}
use Rattle.group_laws.specs.State.{Group}
use Rattle.group_laws.specs.MemberViews.{View}
use Rattle.group_board.specs.Seats.{SeatAt}
use Rattle.group_board.specs.Trails.{TrailStep}
use Rattle.batch_leader.specs.TurnSteps.{Trail, TurnSteps, trail_with}
use Rattle.core_worker.specs.declared.types.Answer.{Answer}
use Rattle.core_worker.specs.declared.types.Turn.{Turn}
use Rattle.core_worker.specs.declared.worker.Worker.{Worker}
use Rattle.core_worker.specs.Beginning.{answers_of}
use Rattle.core_worker.specs.PostedPlaces.{any_posted}
use Rattle.core_worker.specs.Status.{is_leading, is_pending}
use Rattle.core_worker.specs.Supplies.{HasKeptRoom}
use Rattle.core_worker.specs.Ties.{HoldsAt, StandsAt}
use Rattle.core_worker.specs.Turning.{TurnMoves, TurnedTo, at_entry}
use Rattle.core_worker.specs.Turns.{InOrderAt}
use Rattle.core_worker.specs.WorkerMoves.{hands_of}
use Rattle.engine_core.specs.Calls.{AreOwn, AcceptsAs, is_open}
use Rattle.engine_core.specs.Working.{IsMember, may_take, leads, BeginsRequest}
use Rattle.thread_engine.specs.declared.core_job.CoreJob.{CoreJob}

-- What a seat has: its member's view, and the steps that led to it.
pub record Sight : Type 0 where
  pub view : View
  pub trail : Trail

-- by what seats of a kind have
abbrev pub sight_by : {B : Type 0} → (B → View) → (B → List TrailStep) → (B → ℕ) → B → Sight
sight_by view trail at b = record { view = view b; trail = trail_with (trail b) (at b) }

-- Its piece of the region, its view and its steps so far, its worker, and the requests that the worker has not accepted yet.
pub record WorkState : Type 0 where
  pub region : State
  pub view : View
  pub trail : Trail
  pub worker : Worker
  pub queue : List (ℕ × Request)

-- where a core's job stands
abbrev pub stands_at : {B P : Type 0} → (B → Sight) → (P → State) → CoreJob B P → WorkState
stands_at sight state x = record {
  region = state x.piece;
  view = (sight x.seat).view;
  trail = (sight x.seat).trail;
  worker = x.worker;
  queue = x.queue.items;
}

-- with one more request, before those that wait
abbrev pub with_next : ℕ × Request → WorkState → WorkState
with_next x a = record a { queue = x ∷ a.queue }

-- The worker is that member's, and the requests are for its keys.
pub record IsAtWork (seat : SeatAt) (x : WorkState) : Type 0 where
  pub member : IsMember seat.place seat.number x.region x.view x.worker
  pub own : AreOwn seat.place seat.number x.queue

-- whether the worker is handed a request
abbrev pub takes : Worker → Bool
takes w = is_open may_take leads w

-- The worker is handed the next request, and accepts it or gives it back for want of memory. It makes no step.
pub record TakesNext (seat : SeatAt) (a b : WorkState) : Type 0 where
  pub next : ℕ × Request
  pub rest : List (ℕ × Request)
  pub accepted : List (ℕ × Request)
  pub ready : takes a.worker ≡ true
  pub waits : a.queue ≡ next ∷ rest
  pub either : ((accepted ≡ next ∷ []) × (b.queue ≡ rest)) ⊎ ((accepted ≡ []) × (b.queue ≡ a.queue))
  pub region : b.region ≡ a.region
  pub view : b.view ≡ a.view
  pub trail : b.trail ≡ a.trail
  pub call : AcceptsAs hands_of answers_of seat.place seat.number a.region a.view a.worker b.worker
      accepted
  -- what it accepts it begins or holds, by its own order: refused exactly for its causes, with its counts
  pub begins : accepted ≡ next ∷ []
      → BeginsRequest a.region a.view a.worker b.worker next.0 next.1

-- The worker makes a turn, since it may not be handed a request, or none waits.
pub record MakesTurn (seat : SeatAt) (refused : Bool) (a b : WorkState) : Type 0 where
  pub none : takes a.worker ≡ true → a.queue ≡ []
  pub queue : b.queue ≡ a.queue
  pub before : Option Group
  pub after : Option Group
  pub result : Result Turn Memory
  pub moves : TurnMoves seat a.region b.region before after a.view b.view a.worker b.worker
  pub turned : TurnedTo result a.region b.region refused before seat (at_entry a.worker a.view)
      (at_entry b.worker b.view)
  -- its steps: loads, and then at most one other, which stood behind the calls of the region
  pub passes : Bool
  pub steps : TurnSteps passes a.region b.region a.view b.view a.trail b.trail

-- What a turn of the worker leaves, by its seat, its piece of the region and its gate.
pub record LeavesTurn (seat : SeatAt) (passes refused : Bool) (result : Result Turn Memory)
    (s t : State) (before after : Option Group) (v u : View) (i j : Trail) (w x : Worker) : Type 0 where
  pub holds : HoldsAt seat u x
  pub stands : StandsAt t seat u x
  pub order : InOrderAt seat u x
  pub rule : x.stopped ≡ false → HasKeptRoom w → HasKeptRoom x
  pub moves : TurnMoves seat s t before after v u w x
  pub turned : TurnedTo result s t refused before seat (at_entry w v) (at_entry x u)
  pub steps : TurnSteps passes s t v u i j

-- it is told to wind down
abbrev pub wound_down : WorkState → WorkState
wound_down a = record a { worker = record a.worker { winds_down = true } }

-- more requests wait, behind those that did
abbrev pub with_more : List (ℕ × Request) → WorkState → WorkState
with_more xs a = record a { queue = a.queue ++ xs }

-- its worker has these answers to give
abbrev pub with_answers : VecDeque Answer Global → WorkState → WorkState
with_answers xs a = record a { worker = record a.worker { answers = xs } }

-- One move of the core. `refused` says whether its gate may hold it back. Between its worker's own moves requests join those that wait, and its answers are handed over.
pub data Move (seat : SeatAt) (refused : Bool) (a b : WorkState) : Type 0 where
  accepts : TakesNext seat a b → Move seat refused a b
  turns : MakesTurn seat refused a b → Move seat refused a b
  winds_down : b ≡ wound_down a → Move seat refused a b
  joins : (xs : List (ℕ × Request)) → b ≡ with_more xs a → Move seat refused a b
  hands_over : (none : VecDeque Answer Global) → none.items ≡ [] → b ≡ with_answers none a
      → Move seat refused a b

-- the requests that joined by one move, and the answers that it handed over
abbrev pub joined_by : {seat : SeatAt} {refused : Bool} {a b : WorkState} → Move seat refused a b
    → List (ℕ × Request)
joined_by (accepts A) = []
joined_by (turns T) = []
joined_by (winds_down e) = []
joined_by (joins xs e) = xs
joined_by (hands_over none empty e) = []

abbrev pub given_by : {seat : SeatAt} {refused : Bool} {a b : WorkState} → Move seat refused a b
    → List Answer
given_by {seat} {refused} {a} {b} (accepts A) = []
given_by {seat} {refused} {a} {b} (turns T) = []
given_by {seat} {refused} {a} {b} (winds_down e) = []
given_by {seat} {refused} {a} {b} (joins xs e) = []
given_by {seat} {refused} {a} {b} (hands_over none empty e) = answers_of a.worker

-- Moves lead from a state over these to another, and the core is at work in each of them.
abbrev pub Leads : SeatAt → Bool → WorkState → List WorkState → WorkState → Type 0
Leads seat refused a [] b = b ≡ a
Leads seat refused a (x ∷ xs) b = Move seat refused a x × IsAtWork seat x
    × Leads seat refused x xs b

-- a chain of moves
pub record Works (seat : SeatAt) (refused : Bool) (a b : WorkState) : Type 0 where
  pub path : List WorkState
  pub leads : Leads seat refused a path b

-- the requests that joined in a chain, and the answers that were handed over, in order
abbrev pub joined_along : (seat : SeatAt) (refused : Bool) (a : WorkState) (path : List WorkState)
    (b : WorkState) → Leads seat refused a path b → List (ℕ × Request)
joined_along seat refused a [] b l = []
joined_along seat refused a (x ∷ xs) b l = joined_by l.0 ++ joined_along seat refused x xs b l.2

abbrev pub joined_in : (seat : SeatAt) (refused : Bool) (a b : WorkState) → Works seat refused a b
    → List (ℕ × Request)
joined_in seat refused a b w = joined_along seat refused a w.path b w.leads

abbrev pub given_along : (seat : SeatAt) (refused : Bool) (a : WorkState) (path : List WorkState)
    (b : WorkState) → Leads seat refused a path b → List Answer
given_along seat refused a [] b l = []
given_along seat refused a (x ∷ xs) b l = given_by l.0 ++ given_along seat refused x xs b l.2

abbrev pub given_in : (seat : SeatAt) (refused : Bool) (a b : WorkState) → Works seat refused a b
    → List Answer
given_in seat refused a b w = given_along seat refused a w.path b w.leads

-- one of the worker's own moves
pub record OwnMove (seat : SeatAt) (refused : Bool) (a b : WorkState) : Type 0 where
  pub move : Move seat refused a b
  pub joins : joined_by move ≡ []
  pub gives : given_by move ≡ []

-- A chain in which these requests joined, and these answers were handed over.
pub record WorksOn (seat : SeatAt) (refused : Bool) (more : List (ℕ × Request))
    (outs : List Answer) (a b : WorkState) : Type 0 where
  pub works : Works seat refused a b
  pub joins : joined_in seat refused a b works ≡ more
  pub gives : given_in seat refused a b works ≡ outs

-- It leads nothing, and nothing of it is posted. Until it winds down each request that it was given is answered.
pub record HasEnded (x : WorkState) : Type 0 where
  pub leads : is_leading x.worker.leading ≡ false
  pub posted : any_posted x.worker.places.items ≡ false
  pub pending : x.worker.winds_down ≡ false → is_pending x.worker ≡ false
  pub queue : x.worker.winds_down ≡ false → x.queue ≡ []

-- A job so far: its seat is where it was, its core is at work, and a chain of its worker's own moves led it here.
pub record GoesOn {B P : Type 0} (seat : B → SeatAt) (sight : B → Sight) (state : P → State)
    (refused : Bool) (old new : CoreJob B P) : Type 0 where
  pub seat_is : seat new.seat ≡ seat old.seat
  pub work : IsAtWork (seat old.seat) (stands_at sight state new)
  pub pass_is : new.pass ≡ old.pass
  pub works : WorksOn (seat old.seat) refused [] [] (stands_at sight state old)
      (stands_at sight state new)
