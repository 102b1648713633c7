-- What every part of a turn keeps, and what a whole turn did.
use Rattle.fs_model.specs.declared.memory.Memory.{Memory}
use Rattle.std.specs.Prelude.{Result, Ok, Err, OnOk, OnErr, ◌≡◌, ℕ, ◌<◌, Bool, true, false, List, [], Option}
use Rattle.group_laws.specs.declared.group_sizes.TheConstants.{SLOTS}
use Rattle.pm_region.specs.State.{State, IsTelling}
use Rattle.group_laws.specs.State.{Group}
use Rattle.group_laws.specs.MemberViews.{View}
use Rattle.group_board.specs.Seats.{SeatAt}
use Rattle.batch_leader.specs.Persisting.{StaysLicensed, WritesPart}
use Rattle.batch_leader.specs.TurnSteps.{Trail, TurnSteps}
use Rattle.core_worker.specs.declared.types.Leading.{Leading}
use Rattle.core_worker.specs.declared.types.Leading.TheVariants as leads
use Rattle.core_worker.specs.declared.worker.Worker.{Worker}
use Rattle.core_worker.specs.Answering.{AddsAnswers}
use Rattle.core_worker.specs.Beginning.{answers_of}
use Rattle.core_worker.specs.Finishing.{IsServed}
use Rattle.core_worker.specs.Left.{Lowers, StartsFirst}
use Rattle.core_worker.specs.Mails.{PassesMail}
use Rattle.core_worker.specs.Readying.{PassesSending}
use Rattle.core_worker.specs.Supplies.{HasKeptRoom}
use Rattle.core_worker.specs.Ties.{HoldsAt, StandsAt, LeadsNothing}
use Rattle.batch_leader.specs.TakenChanges.{MatchBool}
use Rattle.core_worker.specs.declared.types.Turn.{Turn}
use Rattle.core_worker.specs.declared.types.Turn.TheVariants.{Moved, Idle}
use Rattle.core_worker.specs.declared.choose_item.Choice.{Choice}
use Rattle.core_worker.specs.declared.choose_item.Choice.TheVariants.{Pass, Drop, Post}
use Rattle.core_worker.specs.OwnPlaces.{is_staged, IsLowest}
use Rattle.core_worker.specs.Turns.{BeginsToClean, Moment, InOrderAt, GoesRound, PersistsOrLoses, Marks, Fails, Finishes, Posts, LosesBlock, Receives, Sends, WindsDown, Locks, Idles, PassesItems, PassesPost, FindsPosted, Dooms, Copies, LosesBatchOfCopies, Clears, LosesClearing}
use Rattle.core_worker.specs.Posting.{PointsNowhere}
use Rattle.core_worker.specs.Stopping.{DropsStaged, WithdrawsOrUnlocks}
use Rattle.core_worker.specs.WorkerMoves.{Fixed, hands_of, WorkerMoves}

-- the worker is tied to its view at a seat and to the region, and in order
abbrev pub TiedAt : State → SeatAt → View → Worker → Type 0
TiedAt s seat v w = IsServed s w (record { place = seat.place; number = seat.number; view = v })

-- The worker may serve its own: it is tied there, and leads nothing.
pub record MayServe (s : State) (seat : SeatAt) (v : View) (w : Worker) : Type 0 where
  pub tied : TiedAt s seat v w
  pub nothing : LeadsNothing w

-- What a turn fixed is what the worker answers besides, and the turn is a whole move to whoever runs several workers.
pub record TurnMoves (seat : SeatAt) (s t : State) (before after : Option Group) (v u : View)
    (w x : Worker) : Type 0 where
  pub fixed : List Fixed
  pub answers : AddsAnswers (IsTelling t) (answers_of w) (answers_of x) fixed
  pub moves : WorkerMoves seat.place seat.number s t before after v u (hands_of v w)
      (hands_of u x) [] fixed

-- What a part of a turn keeps, whatever it did.
pub record KeepsTurn (seat : SeatAt) (s t : State) (before after : Option Group) (v u : View)
    (w x : Worker) : Type 0 where
  pub moments : StaysLicensed s t seat v
  pub outside : WritesPart s t seat
  pub holds : HoldsAt seat u x
  pub stands : StandsAt t seat u x
  pub order : InOrderAt seat u x
  pub rule : x.stopped ≡ false → HasKeptRoom w → HasKeptRoom x
  pub moves : TurnMoves seat s t before after v u w x

-- What a part of a turn leaves, whatever it did and answers: what every part keeps, and the steps that it made by a gate that lets a change pass or holds it. It begins to wind down just where there was no memory.
pub record ServesTurn {A : Type 0} (passes : Bool) (result : Result A Memory) (here there : SeatAt)
    (s t : State) (before after : Option Group) (v u : View) (w x : Worker)
    (old new : Trail) : Type 0 where
  pub seat : there ≡ here
  pub keeps : KeepsTurn here s t before after v u w x
  pub memory : OnErr result (x.winds_down ≡ true)
  pub awake : OnErr result (w.winds_down ≡ false)
  pub starts : StartsFirst x
  pub works : OnOk result (x.winds_down ≡ w.winds_down)
  pub steps : TurnSteps passes s t v u old new

-- a batch is in hand, or changes that are to be given back
abbrev pub HasBatch : Leading → Type 0
HasBatch (leads.Nothing buffer) = ⊥
HasBatch (leads.Collecting c) = ⊥
HasBatch (leads.Batch b) = Unit {0}
HasBatch (leads.Persisted x) = Unit {0}
HasBatch (leads.Failed x) = Unit {0}
HasBatch leads.Between = ⊥

-- Item 5 of a stopped core: the lowest staged change is answered Stopped; `all` where there was memory for what waited of its key.
pub record DropsLowest (s : State) (m : ℕ) (a b : Moment) (all : Bool) : Type 0 where
  pub slot : ℕ
  pub mid : View
  pub before : PassesItems m a SLOTS mid
  pub stopped : a.worker.stopped ≡ true
  pub works : a.worker.winds_down ≡ false
  pub lowest : IsLowest is_staged a.worker.places.items slot
  pub drops : DropsStaged s slot a.worker b.worker all
  pub view : b.view ≡ mid

-- The item of the order of work that a turn did. Where there was no memory for what waited of a key, `all` is false. All but those that write, which lose a write, which post behind a block that was written, which copy, or which end a cleaning, leave the region as it was. A change is posted only where no fault of the region was counted in the turn.
pub data Did (s t : State) (refused : Bool) (before : Option Group) (seat : SeatAt)
    (a b : Moment) : Type 0 where
  goes_round : t ≡ s → GoesRound before seat a b → Did s t refused before seat a b
  withdraws : t ≡ s → (after : Option Group) (all : Bool) → WithdrawsOrUnlocks s seat before after
      a.view b.view a.worker b.worker all → Did s t refused before seat a b
  writes : PersistsOrLoses b.worker.stopped seat.number a b → Did s t refused before seat a b
  marks : t ≡ s → Marks a b → Did s t refused before seat a b
  fails : t ≡ s → Fails a b → Did s t refused before seat a b
  finishes : t ≡ s → (all : Bool) → Finishes s seat.place seat.number a b all
      → Did s t refused before seat a b
  posts : (x : Posts seat.number a b) → (PointsNowhere x.entry.body → t ≡ s)
      → t.faults ≡ s.faults → Did s t refused before seat a b
  loses_block : LosesBlock seat.number a b → Did s t refused before seat a b
  drops : t ≡ s → (all : Bool) → DropsLowest s seat.number a b all
      → Did s t refused before seat a b
  receives : t ≡ s → Receives refused seat.place seat.number a b
      → Did s t refused before seat a b
  sends : t ≡ s → Sends refused seat.place seat.number a b → Did s t refused before seat a b
  winds : t ≡ s → WindsDown refused seat.place seat.number a b → Did s t refused before seat a b
  dooms : t ≡ s → Dooms s refused seat.place seat.number a b
      → Did s t refused before seat a b
  copies : Copies t refused seat.place seat.number a b → Did s t refused before seat a b
  loses_copies : LosesBatchOfCopies refused seat.place seat.number a b
      → Did s t refused before seat a b
  clears : Clears refused seat.place seat.number a b → Did s t refused before seat a b
  loses_clearing : LosesClearing refused seat.place seat.number a b → Did s t refused before seat a b
  begins : t ≡ s → BeginsToClean s refused seat.place seat.number a b
      → Did s t refused before seat a b
  locks : t ≡ s → Locks s refused seat.place seat.number a b → Did s t refused before seat a b

-- By what a turn answers, it did one of these, or nothing applied.
abbrev pub Turned : Turn → State → State → Bool → Option Group → SeatAt → Moment → Moment → Type 0
Turned Moved s t refused before seat a b = Did s t refused before seat a b
Turned Idle s t refused before seat a b = (t ≡ s)
    × Idles s refused seat.place seat.number a b

-- the same where it may find no memory
abbrev pub TurnedTo : Result Turn Memory → State → State → Bool → Option Group → SeatAt → Moment
    → Moment → Type 0
TurnedTo (Ok turn) s t refused before seat a b = Turned turn s t refused before seat a b
TurnedTo (Err memory) s t refused before seat a b = Did s t refused before seat a b

-- the core at entry, where some loads of the turn led to a view
abbrev pub at_entry : Worker → View → Moment
at_entry w v = record { worker = w; view = v }

-- whether a posted slot was found that nobody had taken
abbrev pub Tells : Bool → ℕ → Worker → View → View → Type 0
Tells posted m w v mid = (before : PassesItems m (at_entry w v) SLOTS mid)
    × MatchBool posted (FindsPosted w.places.items before.looked.found SLOTS)
    (FindsPosted w.places.items before.looked.found SLOTS → ⊥)

-- What a turn leaves that goes on with a cleaning and made one step of it, where the items before were passed.
pub record CleansOn (here there : SeatAt) (s t : State) (before after : Option Group) (v u : View)
    (w x : Worker) (old new : Trail) : Type 0 where
  pub seat : there ≡ here
  pub keeps : KeepsTurn here s t before after v u w x
  pub did : (refused : Bool) (told : Option Group) (start : View) (entry : Worker)
      → PassesPost refused entry
      → (passes : PassesItems here.number (at_entry entry start) SLOTS v)
      → PassesMail here.place here.number entry passes.looked.looks
      → PassesSending here.place here.number entry w passes.looked.looks
      → Did s t refused told here (at_entry entry start) (at_entry x u)
  pub less : Lowers before after w x
  pub starts : StartsFirst x
  pub works : x.winds_down ≡ w.winds_down
  pub steps : (passes : Bool) → TurnSteps passes s t v u old new

-- what there is to do with the staged changes
abbrev pub Chooses : Choice → Bool → Bool → Worker → Type 0
Chooses Pass refused passes w = PassesPost refused w
Chooses (Drop slot) refused passes w = IsLowest is_staged w.places.items slot × (slot < SLOTS)
    × (w.stopped ≡ true) × (w.winds_down ≡ false)
Chooses (Post slot) refused passes w = IsLowest is_staged w.places.items slot × (slot < SLOTS)
    × (w.stopped ≡ false) × (w.winds_down ≡ false) × (passes ≡ true)
