-- A run on threads, core by core: each core's chain of moves, and the state in which all of them end.
use Rattle.std.specs.Prelude.{◌≡◌, ℕ, ◌<◌, ◌==◌, List, [], ◌∷◌, ◌++◌, filter, Bool, true, false, Some}
use Rattle.std.specs.List.{slice_get, enumerate_from}
use Rattle.fs_model.specs.declared.model.Request.{Request}
use Rattle.fs_model.specs.Cells.{key_of}
use Rattle.pm_region.specs.Split.{TakesPiece}
use Rattle.chunk_map.specs.declared.layouts.Geometry.{Geometry}
use Rattle.chunk_map.specs.Layouts.{layout_of, owner}
use Rattle.store_image.specs.Facts.{In}
use Rattle.recover.specs.declared.types.CoreStart.{CoreStart}
use Rattle.recover.specs.declared.types.Recovered.{Recovered}
use Rattle.group_laws.specs.Regions.{groups_in, place_at}
use Rattle.group_laws.specs.Places as places
use Rattle.group_laws.specs.State.{Group}
use Rattle.group_laws.specs.MemberViews.{View}
use Rattle.group_laws.specs.OpeningImages.{opened}
use Rattle.group_laws.specs.Runs.{Kind, Runs}
use Rattle.group_board.specs.Seats.{SeatAt}
use Rattle.group_board.specs.Trails.{TrailStep}
use Rattle.batch_leader.specs.TurnSteps.{is_load}
use Rattle.engine_laws.specs.Parts.{Groups, group_of, member_of}
use Rattle.engine_laws.specs.WorkerMoves.{Fixed}
use Rattle.engine_laws.specs.Engine.{Engine, Answer}
use Rattle.engine_laws.specs.Origins.{Origin}
use Rattle.engine_laws.specs.Stands.{opening}
use Rattle.engine_laws.specs.Workers.{Sits}
use Rattle.core_worker.specs.declared.types.Answer.{Answer as Answered}
use Rattle.core_worker.specs.Beginning.{answers_of}
use Rattle.core_worker.specs.Openings.{IsNew, IsStartAt}
use Rattle.thread_engine.specs.Pieces.{IsPieceOf}
use Rattle.thread_engine.specs.WorkStates.{WorkState, IsAtWork, Move, Leads, Works, HasEnded, joined_in, given_in}
use Rattle.thread_engine.specs.WorkStates.Move.{accepts, turns, winds_down, joins, hands_over}
use Rattle.thread_engine.specs.WorkLaws.{hands_at}

-- the requests of a core's keys, in the order of the trace, with their numbers in it
abbrev pub requests_to : Geometry → ℕ → List Request → List (ℕ × Request)
requests_to l c trace = filter (λ x. owner l (key_of x.1) == c) (enumerate_from 0 trace)

-- what one move fixed
abbrev pub fixed_by : {seat : SeatAt} {refused : Bool} {a b : WorkState} → Move seat refused a b
    → List Fixed
fixed_by (accepts A) = A.call.fixed
fixed_by (turns T) = T.moves.fixed
fixed_by (winds_down e) = []
fixed_by (joins xs e) = []
fixed_by (hands_over none empty e) = []

-- what the moves of a chain fixed, in order
abbrev pub fixed_along : (seat : SeatAt) (refused : Bool) (a : WorkState) (path : List WorkState)
    (b : WorkState) → Leads seat refused a path b → List Fixed
fixed_along seat refused a [] b l = []
fixed_along seat refused a (x ∷ xs) b l = fixed_by l.0 ++ fixed_along seat refused x xs b l.2

abbrev pub fixed_in : (seat : SeatAt) (refused : Bool) (a b : WorkState) → Works seat refused a b
    → List Fixed
fixed_in seat refused a b w = fixed_along seat refused a w.path b w.leads

-- The state of a group has what member m has by this view: of what is a key's or a name's, that of its own keys, and all else of its own.
pub record HasView (w : Group) (m : ℕ) (v : View) : Type 0 where
  pub kept : w.kept m ≡ v.kept
  pub flying : w.flying m ≡ v.flying
  pub taken : w.taken m ≡ v.taken
  pub looked : w.looked m ≡ v.looked
  pub dead : w.dead m ≡ v.dead
  pub doomed : w.doomed m ≡ v.doomed
  pub leaving : w.leaving m ≡ v.leaving
  pub mailed : w.mailed m ≡ v.mailed
  pub broken : w.broken m ≡ v.broken
  pub holds : w.holds m ≡ v.holds
  pub posted : w.posted m ≡ v.posted
  pub took : w.took m ≡ v.took
  pub blocks : w.blocks m ≡ v.blocks
  pub last : (k : ℕ) → places.owner w.place k ≡ m → w.last k ≡ v.last k
  pub cell : (k : ℕ) → places.owner w.place k ≡ m → w.cell k ≡ v.cell k
  pub pending : (k : ℕ) → places.owner w.place k ≡ m → w.pending k ≡ v.pending k
  pub present : (k n : ℕ) → places.owner w.place k ≡ m → w.present k n ≡ v.present k n
  pub told : (k n : ℕ) → places.owner w.place k ≡ m → w.told k n ≡ v.told k n

-- what a member has after its steps: the view after the newest, or that with which it began
abbrev pub view_after : View → List TrailStep → View
view_after v [] = v
view_after v (x ∷ xs) = x.view

-- a load changes nothing of the view but what was looked at
abbrev pub LoadsLook : View → List TrailStep → Type 0
LoadsLook v [] = Unit {0}
LoadsLook v (x ∷ xs) = (is_load x.kind ≡ true
    → x.view ≡ record (view_after v xs) { looked = x.view.looked })
    × LoadsLook v xs

-- Core c's run: its worker is the one that opens on what recovery gave for it, in the core's piece of the region, with no request before it; a chain of moves leads to its end, in which the requests of its keys join in their order, all of them unless its worker winds down; and the run's last state has what the core has then.
pub record CoreRun (o : Origin) (r : Recovered) (refused : Bool) (e : Engine) (c : ℕ) : Type 0 where
  pub seat : SeatAt
  pub place : seat.place ≡ place_at e.layout (group_of e.layout c)
  pub number : seat.number ≡ member_of e.layout c
  -- the first state
  pub first : WorkState
  pub start : CoreStart
  pub recovered : slice_get r.starts.items c ≡ Some start
  pub found : IsStartAt seat.place seat.number o.found start
  pub new : IsNew start r.layout first.worker
  pub sits : Sits (opening o) c first.view (hands_at first)
  pub piece : IsPieceOf seat.place seat.number o.region first.region
  pub queue : first.queue ≡ []
  pub at_work : IsAtWork seat first
  pub idle : first.trail.steps ≡ []
  -- the chain
  pub last : WorkState
  pub works : Works seat refused first last
  pub ended : HasEnded last
  pub later : List (ℕ × Request)
  pub dealt : joined_in seat refused first last works ++ later ≡ requests_to e.layout c e.given
  pub whole : last.worker.winds_down ≡ false → later ≡ []
  pub loads : LoadsLook first.view last.trail.steps
  -- the last state
  pub shown : HasView (e.group (group_of e.layout c)) (member_of e.layout c) last.view
  pub places : (k : ℕ) → owner e.layout k ≡ c → e.place k ≡ (hands_at last).place k
  pub waits : (k : ℕ) → owner e.layout k ≡ c → e.waits k ≡ (hands_at last).waits k
  pub stopped : e.stopped c ≡ last.worker.stopped
  pub stock : e.stock c ≡ (hands_at last).stock
  pub backlog : e.backlog c ≡ last.queue ++ later
  pub joined : TakesPiece e.region last.region
  pub answers : (y : Fixed) → In y (fixed_in seat refused first last works)
      → e.answer y.number ≡ Some (record { reply = y.reply; stamp = e.region.stamp })

-- what the core fixed in its run
abbrev pub fixed_at : {o : Origin} {r : Recovered} {refused : Bool} {e : Engine} {c : ℕ}
    → CoreRun o r refused e c → List Fixed
fixed_at {o} {r} {refused} x = fixed_in x.seat refused x.first x.last x.works

-- the answers that its worker gave: those that were handed over, and those that it has
abbrev pub gave_at : {o : Origin} {r : Recovered} {refused : Bool} {e : Engine} {c : ℕ}
    → CoreRun o r refused e c → List Answered
gave_at {o} {r} {refused} x = given_in x.seat refused x.first x.last x.works
    ++ answers_of x.last.worker

-- All cores ran to their ends. Each group's state is lawful, and steps of the group machine lead to it from the one that it opened on; each answer is one that a core fixed.
pub record AllRan (o : Origin) (r : Recovered) (refused : Bool) (e : Engine) : Type 0 where
  pub layout : e.layout ≡ layout_of o.found
  pub groups : Groups e.layout e.group
  pub reached : (g : ℕ) → g < groups_in e.layout → (steps : List (ℕ × Kind))
      × Runs (opened (place_at e.layout g) o.found) steps (e.group g)
  pub cores : (c : ℕ) → c < e.layout.cores → CoreRun o r refused e c
  pub fixed : (n : ℕ) (a : Answer) → e.answer n ≡ Some a → (c : ℕ) × (low : c < e.layout.cores)
      × (y : Fixed) × In y (fixed_at (cores c low)) × (y.number ≡ n) × (y.reply ≡ a.reply)
