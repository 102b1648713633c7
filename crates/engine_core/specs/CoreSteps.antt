-- What a step of one core does, whoever gives its worker a turn.
use Rattle.std.specs.Prelude.{◌≡◌, ℕ, ◌+◌, ◌≤◌, List, [], ◌∷◌, Bool, Result, IfOk, OnOk, OnErr}
use Rattle.std.specs.Borrow.{MutBor}
use Rattle.std.specs.Fn.{Once}
use Rattle.fs_model.specs.declared.model.Request.{Request}
use Rattle.fs_model.specs.declared.memory.Memory.{Memory}
use Rattle.pm_region.specs.State.{State}
use Rattle.group_laws.specs.Places.{Place}
use Rattle.group_laws.specs.State.{Group}
use Rattle.group_laws.specs.MemberViews.{View}
use Rattle.engine_laws.specs.WorkerMoves.{Hands}
use Rattle.core_worker.specs.declared.types.Answer.{Answer}
use Rattle.core_worker.specs.declared.types.Turn.{Turn}
use Rattle.core_worker.specs.declared.types.Turn.TheVariants.{Moved}
use Rattle.engine_core.specs.Calls.{AreOwn, AcceptsForAny, BeginsByEachView}

-- The worker is tied to some member, and the requests of its backlog are that member's.
pub record HasOwn {W : Type 0} (stands : Place → ℕ → State → View → W → Type 0) (s : State) (w : W)
    (queue : List (ℕ × Request)) : Type 0 where
  pub place : Place
  pub number : ℕ
  pub view : View
  pub tied : stands place number s view w
  pub own : AreOwn place number queue

-- The worker was handed the first request of its backlog, and took it in or gave it back.
pub record HandsFirst {W : Type 0} (hands : View → W → Hands) (answers : W → List Answer)
    (stands : Place → ℕ → State → View → W → Type 0) (fair : Group → ℕ → W → Type 0)
    (begins : State → View → W → W → ℕ → Request → Type 0) (winds : W → Bool) (left : W → ℕ)
    (most : ℕ) (s : State) (w x : W) (queue now : List (ℕ × Request))
    (result : Result Turn Memory) : Type 0 where
  pub next : ℕ × Request
  pub rest : List (ℕ × Request)
  pub first : queue ≡ next ∷ rest
  pub moved : IfOk result (λ turn. (turn ≡ Moved)
      × AcceptsForAny hands answers stands fair s w x (next ∷ []))
  pub begun : OnOk result (BeginsByEachView stands begins s w x next.0 next.1)
  pub failed : OnErr result (AcceptsForAny hands answers stands fair s w x [])
  pub taken : OnOk result (now ≡ rest)
  pub back : OnErr result (now ≡ next ∷ rest)
  pub winds_as : OnOk result (winds x ≡ winds w)
  pub less : OnOk result (left x ≤ left w + most)

-- What a call says that gives a worker a turn at a board, in a region.
abbrev pub TurnCall : Type 0 → Type 0 → Type 0 → Type 0 → Type 1
TurnCall F W B R = Once F (MutBor W × (MutBor B × (MutBor R × Unit {0})))
    (Result Turn Memory × (MutBor W × (MutBor B × (MutBor R × Unit {0}))))

-- it may be made for this worker at this board, in this region
abbrev pub MayTurn : {F W B R : Type 0} → TurnCall F W B R → F → W → B → R → Type 0
MayTurn {F} {W} {B} {R} call f w b r = (x : MutBor W) (y : MutBor B) (z : MutBor R)
    → x.now ≡ w → y.now ≡ b → z.now ≡ r → call.pre f (x, (y, (z, tt)))

-- It was made, gave the worker its turn, and left these behind.
pub record GivesTurn {F W B R : Type 0} (call : TurnCall F W B R) (f : F) (w : W) (b : B) (r : R)
    (result : Result Turn Memory) (x : W) (c : B) (t : R) : Type 0 where
  pub worker : MutBor W
  pub board : MutBor B
  pub region : MutBor R
  pub from : (worker.now ≡ w) × (board.now ≡ b) × (region.now ≡ r)
  pub worker_left : MutBor W
  pub board_left : MutBor B
  pub region_left : MutBor R
  pub made : call.post f (worker, (board, (region, tt)))
      (result, (worker_left, (board_left, (region_left, tt))))
  pub to : (worker_left.now ≡ x) × (board_left.now ≡ c) × (region_left.now ≡ t)
