-- What a worker says of one call, by whatever it holds, answers and stands on.
use Rattle.std.specs.Prelude.{◌≡◌, ◌⊎◌, ℕ, ◌≤◌, ◌<◌, List, [], ◌∷◌, ◌++◌, map, Bool, true, false, not, ◌&&◌, Option, Some, None, IfSome, IsSomeAnd, Result, Ok, Err, take, if◌then◌else◌}
use Rattle.std.specs.List.{AllByRecursion, slice_get}
use Rattle.fs_model.specs.declared.model.Request.{Request}
use Rattle.fs_model.specs.Cells.{key_of}
use Rattle.fs_model.specs.declared.memory.Memory.{Memory}
use Rattle.pm_region.specs.State.{State, IsTelling}
use Rattle.pm_region.specs.Cell.{Cell}
use Rattle.pm_region.specs.Words.{Kept}
use Rattle.log_entry.specs.declared.entry.Entry.{Entry}
use Rattle.group_laws.specs.declared.types.Pending.{Pending}
use Rattle.group_laws.specs.declared.types.Slot.TheVariants.{Posted, Taken}
use Rattle.group_laws.specs.Places.{Place, owner}
use Rattle.group_laws.specs.State.{Group}
use Rattle.group_laws.specs.MemberViews.{View, view_of}
use Rattle.group_laws.specs.Runs.{Kind}
use Rattle.group_board.specs.Seats.{SeatAt}
use Rattle.licence.specs.Licence.{part_at, part_end}
use Rattle.engine_laws.specs.WorkerMoves.{Placed, Hands, Fixed, WorkerMoves}
use Rattle.engine_laws.specs.Workers.{IsLoad}
use Rattle.core_worker.specs.declared.types.Answer.{Answer}
use Rattle.core_worker.specs.declared.types.Turn.{Turn}
use Rattle.core_worker.specs.declared.types.Turn.TheVariants.{Moved, Idle}
use Rattle.engine_core.specs.Answers.{AddsAnswers}

-- each of these requests is member m's
abbrev pub AreOwn : Place → ℕ → List (ℕ × Request) → Type 0
AreOwn p m xs = AllByRecursion (λ x. owner p (key_of x.1) ≡ m) xs

abbrev pub steps_of : ℕ → List Kind → List (ℕ × Kind)
steps_of m kinds = map (λ x. (m, x)) kinds

-- each word of the member's part is as it was, or fenced
abbrev pub KeepsPart : Place → ℕ → (ℕ → Cell) → (ℕ → Cell) → Type 0
KeepsPart p m old new = (w : ℕ) → part_at p m ≤ w → w < part_end p m → Kept (old w) (new w)

-- whether a move did something
abbrev pub has_moved : Turn → Bool
has_moved Moved = true
has_moved Idle = false

-- nothing moved
abbrev pub is_idle : Result Turn Memory → Bool
is_idle (Ok turn) = not (has_moved turn)
is_idle (Err e) = false

-- whether a worker is handed a request: it leads nothing, and has room
abbrev pub is_open : {W : Type 0} → (W → Bool) → (W → Bool) → W → Bool
is_open room leads w = not (leads w) && room w

-- what it is handed of a backlog
abbrev pub next_of : Bool → List (ℕ × Request) → List (ℕ × Request)
next_of takes queue = if takes then take 1 queue else []

-- One call of member m with this view that takes requests in, and makes no step, whatever state its group is in.
pub record AcceptsAs {W : Type 0} (hands : View → W → Hands) (answers : W → List Answer) (p : Place)
    (m : ℕ) (s : State) (v : View) (w x : W) (accepted : List (ℕ × Request)) : Type 0 where
  pub fixed : List Fixed
  pub adds : AddsAnswers (IsTelling s) (answers w) (answers x) fixed
  pub moves : (a : Option Group) → WorkerMoves p m s s a a v v (hands v w)
      (hands v x) accepted fixed

-- The same whatever member it is.
pub record AcceptsForAny {W : Type 0} (hands : View → W → Hands) (answers : W → List Answer)
    (stands : Place → ℕ → State → View → W → Type 0) (fair : Group → ℕ → W → Type 0) (s : State)
    (w x : W) (accepted : List (ℕ × Request)) : Type 0 where
  pub tied : (p : Place) (m : ℕ) (v : View) → stands p m s v w → AreOwn p m accepted
      → stands p m s v x
  pub moves : (p : Place) (m : ℕ) (v : View) → stands p m s v w → AreOwn p m accepted
      → AcceptsAs hands answers p m s v w x accepted
  pub fairly : (a : Group) (m : ℕ) → fair a m w → fair a m x

-- It began a request so by each view that it may be tied to.
abbrev pub BeginsByEachView : {W : Type 0} → (Place → ℕ → State → View → W → Type 0)
    → (State → View → W → W → ℕ → Request → Type 0) → State → W → W → ℕ → Request → Type 0
BeginsByEachView stands begins s w x n q = (p : Place) (m : ℕ) (v : View) → stands p m s v w
    → owner p (key_of q) ≡ m → begins s v w x n q

-- Where nothing moved member m leads nothing, and each of its posted changes is in a leader's hands, or waits for the lock that another has.
pub record Rests (p : Place) (m : ℕ) (before after : Option Group) (u : View)
    (x : Hands) : Type 0 where
  pub holds : u.holds ≡ false
  pub taken : (a s : ℕ) → u.taken a s ≡ None
  pub posted : (k : ℕ) (y : Placed) → owner p k ≡ m → x.place k ≡ Some y → y.posted ≡ true
      → (d : Pending) (s : ℕ) → u.pending k ≡ Some d → d.slot ≡ Some s
      → IfSome before (λ a. IfSome after (λ b. (b.slot m s ≡ Taken)
      ⊎ ((e : Entry) × (h : ℕ) × (b.slot m s ≡ Posted e) × (b.holder ≡ Some h))))

-- And it has nothing to begin, as `IsIdle` says it of a state of the engine.
pub record HasNoMore (p : Place) (m : ℕ) (x : Hands) : Type 0 where
  pub placed : (k : ℕ) (y : Placed) → owner p k ≡ m → x.place k ≡ Some y → y.posted ≡ true
  pub waits : (k : ℕ) → owner p k ≡ m → x.place k ≡ None → x.waits k ≡ []

-- One turn of member m, from view v to u; `down` where its worker winds down.
pub record Turns {W : Type 0} (hands : View → W → Hands) (answers : W → List Answer)
    (stands : Place → ℕ → State → View → W → Type 0) (fair : Group → ℕ → W → Type 0)
    (room leads : W → Bool) (p : Place) (m : ℕ) (s t : State) (before after : Option Group)
    (v u : View) (w x : W) (idle down : Bool) : Type 0 where
  pub fixed : List Fixed
  pub adds : AddsAnswers (IsTelling t) (answers w) (answers x) fixed
  pub moves : WorkerMoves p m s t before after v u (hands v w) (hands u x) [] fixed
  pub tied : stands p m t u x
  pub fairly : IfSome before (λ a. IsSomeAnd after (λ b. fair b m x))
  -- Where nothing moved, it made loads alone, holds what it held, and rests; one that goes on has nothing to begin, and if nothing of it is in a place, it could have been handed a request.
  pub loads : idle ≡ true → AllByRecursion IsLoad moves.steps
  pub same : idle ≡ true → (k : ℕ) → owner p k ≡ m → ((hands u x).place k ≡ (hands v w).place k)
      × ((hands u x).waits k ≡ (hands v w).waits k)
  pub rests : idle ≡ true → Rests p m before after u (hands u x)
  pub no_more : idle ≡ true → down ≡ false → HasNoMore p m (hands u x)
  pub open_for : idle ≡ true → down ≡ false → ((k : ℕ) → owner p k ≡ m → (hands u x).place k ≡ None)
      → is_open room leads w ≡ true

-- A step of the engine: member m accepts the next request, or makes a turn. `rest` is what its backlog still has.
pub record Steps {W : Type 0} (hands : View → W → Hands) (answers : W → List Answer)
    (stands : Place → ℕ → State → View → W → Type 0) (fair : Group → ℕ → W → Type 0) (p : Place)
    (m : ℕ) (s t : State) (a b : Group) (v u : View) (w x : W)
    (queue accepted rest : List (ℕ × Request)) (idle down : Bool) : Type 0 where
  pub fixed : List Fixed
  pub split : queue ≡ accepted ++ rest
  pub adds : AddsAnswers (IsTelling t) (answers w) (answers x) fixed
  pub moves : WorkerMoves p m s t (Some a) (Some b) v u (hands v w) (hands u x) accepted fixed
  pub tied : stands p m t u x
  pub fairly : fair b m x
  pub loads : idle ≡ true → AllByRecursion IsLoad moves.steps
  pub same : idle ≡ true → (k : ℕ) → owner p k ≡ m → ((hands u x).place k ≡ (hands v w).place k)
      × ((hands u x).waits k ≡ (hands v w).waits k)
  pub rests : idle ≡ true → Rests p m (Some a) (Some b) u (hands u x)
  pub no_more : idle ≡ true → down ≡ false → HasNoMore p m (hands u x)
  pub none : idle ≡ true → accepted ≡ []
  pub empty : idle ≡ true → down ≡ false → ((k : ℕ) → owner p k ≡ m → (hands u x).place k ≡ None)
      → queue ≡ []

-- The worker of member m accepts a request that it is handed: it makes no step, and the region is as it was.
pub record TakesIn {W : Type 0} (begins : State → View → W → W → ℕ → Request → Type 0) (m : ℕ)
    (s t : State) (a b : Group) (w x : W) (y : ℕ × Request) (moved : Bool) : Type 0 where
  pub begun : begins s (view_of a m) w x y.0 y.1
  pub moves : moved ≡ true
  pub region : t ≡ s
  pub group : b ≡ a

-- It makes a turn, at a seat of that member.
pub record TakesTurn {W : Type 0} (turned : Bool → State → State → Option Group → SeatAt → View
    → View → W → W → Type 0) (p : Place) (m : ℕ) (s t : State) (a b : Group) (w x : W)
    (moved : Bool) : Type 0 where
  pub seat : SeatAt
  pub place : seat.place ≡ p
  pub number : seat.number ≡ m
  pub turn : turned moved s t (Some a) seat (view_of a m) (view_of b m) w x

-- what a worker does in a move, by the requests that it is handed: one, or none
abbrev pub Does : {W : Type 0} → (State → View → W → W → ℕ → Request → Type 0)
    → (Bool → State → State → Option Group → SeatAt → View → View → W → W → Type 0) → Place → ℕ → State
    → State → Group → Group → W → W → List (ℕ × Request) → Bool → Type 0
Does begins turned p m s t a b w x [] moved = TakesTurn turned p m s t a b w x moved
Does begins turned p m s t a b w x (y ∷ ys) moved = TakesIn begins m s t a b w x y moved

-- It winds down: it accepts nothing more, and holds, answers and stands on what it did.
pub record WindsDown {W : Type 0} (hands : View → W → Hands) (answers : W → List Answer)
    (stands : Place → ℕ → State → View → W → Type 0) (fair : Group → ℕ → W → Type 0)
    (room leads winds : W → Bool) (w x : W) : Type 0 where
  pub is : winds x ≡ true
  pub closed : is_open room leads x ≡ false
  pub given : answers x ≡ answers w
  pub held : (v : View) → hands v x ≡ hands v w
  pub tied : (p : Place) (m : ℕ) (s : State) (v : View) → stands p m s v w → stands p m s v x
  pub fairly : (a : Group) (m : ℕ) → fair a m w → fair a m x

-- each worker winds down, or none does
abbrev pub AllWind : {W : Type 0} → (W → Bool) → List W → Type 0
AllWind {W} winds ws = (c : ℕ) (w : W) → slice_get ws c ≡ Some w → winds w ≡ true

abbrev pub NoneWinds : {W : Type 0} → (W → Bool) → List W → Type 0
NoneWinds {W} winds ws = (c : ℕ) (w : W) → slice_get ws c ≡ Some w → winds w ≡ false

-- The workers below a number wind down, each as above, and the others are as they were.
pub record EachWinds {W : Type 0} (hands : View → W → Hands) (answers : W → List Answer)
    (stands : Place → ℕ → State → View → W → Type 0) (fair : Group → ℕ → W → Type 0)
    (room leads winds : W → Bool) (upto : ℕ) (old new : List W) : Type 0 where
  pub below : (c : ℕ) (x : W) → c < upto → slice_get new c ≡ Some x → (w : W)
      × (slice_get old c ≡ Some w) × WindsDown hands answers stands fair room leads winds w x
  pub above : (c : ℕ) → upto ≤ c → slice_get new c ≡ slice_get old c
