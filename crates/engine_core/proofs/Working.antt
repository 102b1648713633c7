-- The worker of one core keeps the clauses that the engine asks for.
use Rattle.std.proofs.Common.{◌≡◌, ℕ, ◌+◌, ◌<◌, ◌≤◌, Bool, true, false, not, ◌&&◌, List, [], ◌∷◌, map, Option, Some, None, Result, Ok, Err, IfOk, OnOk, OnErr, refl, sym, ◌∙◌, ap, subst, arith}
use Rattle.std.specs.Prelude.{IfSome, IsSomeAnd, IfErr}
use Rattle.std.proofs.lemmas.Bool.{and_parts}
use Rattle.fs_model.specs.declared.memory.Memory.{Memory}
use Rattle.fs_model.specs.declared.model.Request.{Request}
use Rattle.fs_model.specs.Cells.{key_of}
use Rattle.pm_region.specs.State.{State}
use Rattle.chunk_map.specs.declared.layouts.Geometry.{Geometry}
use Rattle.chunk_map.specs.Layouts as layouts
use Rattle.group_laws.specs.Places.{Place, core_of, owner}
use Rattle.group_laws.specs.State.{Group}
use Rattle.group_laws.specs.Runs.{Kind, Runs}
use Rattle.group_laws.specs.MemberViews.{View}
use Rattle.group_laws.proofs.Clients.{own_core}
use Rattle.group_board.specs.Seats.{SeatAt}
use Rattle.core_worker.specs.declared.worker.Worker.{Worker}
use Rattle.core_worker.specs.declared.types.NotAccepted.{NotAccepted}
use Rattle.core_worker.specs.declared.types.Turn.{Turn}
use Rattle.core_worker.specs.declared.types.Turn.TheVariants.{Moved, Idle}
use Rattle.core_worker.specs.Accepting.{IsTied, HasTie, StaysTied, AcceptMoves, AcceptsByEachView}
use Rattle.core_worker.specs.Beginning.{answers_of}
use Rattle.core_worker.specs.Left.{left, group_left, fair, StartsFirst, Measures}
use Rattle.core_worker.specs.Order.{InOrder}
use Rattle.core_worker.specs.Resting.{AtRest, IfIdle}
use Rattle.core_worker.specs.Status.{has_room, is_leading}
use Rattle.core_worker.specs.Supplies.{HasKeptRoom}
use Rattle.core_worker.specs.Ties.{Holds, Stands}
use Rattle.core_worker.specs.Turning.{TurnMoves, Turned, TurnedTo}
use Rattle.core_worker.specs.Turns.{Moment}
use Rattle.core_worker.specs.WorkerMoves.{hands_of}
use Rattle.core_worker.proofs.Clients.{own_of, room_wound}
use Rattle.engine_core.specs.Calls.{AreOwn, AcceptsForAny, BeginsByEachView, Turns, WindsDown, has_moved, is_idle, is_open}
use Rattle.engine_core.specs.Working.{IsMember, BeginsRequest, may_take, leads, turn_of}

-- the answers alone are other ones
pub given_member : (p : Place) (m : ℕ) (s : State) (v : View) (w x : Worker) → x ≡ record w { answers = x.answers } → (Holds p m v w → Holds p m v x) → (Stands s p m v w → Stands s p m v x) → (InOrder p m v w → InOrder p m v x) → IsMember p m s v w → IsMember p m s v x
given_member p m s v w x same holds stands order M = record {
  holds = holds M.holds;
  stands = stands M.stands;
  order = order M.order;
  rule = λ runs. subst HasKeptRoom (sym same) (M.rule (sym (ap (λ (y : Worker). y.stopped) same) ∙ runs));
}

-- where it may be handed a request
pub open_parts : (w : Worker) → is_open may_take leads w ≡ true → (is_leading w.leading ≡ false) × ((w.winds_down ≡ false) × (has_room w ≡ true))
open_parts w e =
    let one = and_parts (not (leads w)) (may_take w) e in
    let two = and_parts (not w.winds_down) (has_room w) one.1 in
    (off (leads w) one.0, (off w.winds_down two.0, two.1))
  where
    off : (b : Bool) → not b ≡ true → b ≡ false
    off true e = absurd (cc e)
    off false e = refl

pub tie_of : (p : Place) (m : ℕ) (s : State) (v : View) (w : Worker) (k : ℕ) → IsMember p m s v w → owner p k ≡ m → IsTied s w k (record { place = p; number = m; view = v })
tie_of p m s v w k M own = record { holds = M.holds; stands = M.stands; own = own; order = M.order }

pub has_tie : (s : State) (w : Worker) (k : ℕ) → (p : Place) × (m : ℕ) × (v : View) × IsMember p m s v w × (owner p k ≡ m) → HasTie s w k
has_tie s w k h = (record { place = h.0; number = h.1; view = h.2 }, tie_of h.0 h.1 s h.2 w k h.3 h.4)

-- a worker is one member's
own_too : (p q : Place) (m n : ℕ) (v u : View) (w : Worker) (k : ℕ) → Holds p m v w → owner p k ≡ m → Holds q n u w → owner q k ≡ n
own_too p q m n v u w k H own J =
    let low : owner p k < p.layout.group = (let lt = H.member in omega (arith, lt, own)) in
    let some : 0 < p.layout.group = (let lt = H.member in omega (arith, lt)) in
    let some' : 0 < q.layout.group = (let lt = J.member in omega (arith, lt)) in
    own_of q n k some' J.member
    (ap (λ (l : Geometry). layouts.owner l k) (sym J.layout ∙ H.layout) ∙ sym (own_core p k some low).0 ∙ ap (core_of p) own ∙ sym H.core ∙ J.core)

-- a request was accepted, or given back
module _ (s : State) (w x : Worker) (k : ℕ) (stays_tied : StaysTied s w x k) (rule : HasKeptRoom w → HasKeptRoom x) (stopped : x.stopped ≡ w.stopped) (starts : StartsFirst w → StartsFirst x) where
  takes : (accepted : List (ℕ × Request)) → ((p : Place) (m : ℕ) (v : View) → IsMember p m s v w → AreOwn p m accepted → owner p k ≡ m) → AcceptMoves s w x k accepted → AcceptsForAny hands_of answers_of IsMember fair s w x accepted
  takes accepted own moves = record {
    tied = λ p m v M is. (let T = stays_tied (record { place = p; number = m; view = v }) (tie_of p m s v w k M (own p m v M is)) in record { holds = T.holds; stands = T.stands; order = T.order; rule = λ runs. rule (M.rule (sym stopped ∙ runs)) });
    moves = λ p m v M is. (let A = moves (record { place = p; number = m; view = v }) (tie_of p m s v w k M (own p m v M is)) in record { fixed = A.fixed; adds = A.answers; moves = A.moves });
    fairly = λ a m even. starts even;
  }

  pub ok_takes : {X Y : Type 0} (r : Result X Y) (n : ℕ) (q : Request) → key_of q ≡ k → OnOk r (AcceptMoves s w x k ((n, q) ∷ [])) → OnOk r (AcceptsForAny hands_of answers_of IsMember fair s w x ((n, q) ∷ []))
  ok_takes (Ok y) n q at moves = takes ((n, q) ∷ []) (λ p m v M own. ap (owner p) (sym at) ∙ own.0) moves
  ok_takes (Err y) n q at moves = moves

  -- begun by each view that it may be tied to
  pub ok_begins : {X Y : Type 0} (r : Result X Y) (n : ℕ) (q : Request) → OnOk r (AcceptsByEachView s w x n q) → OnOk r (BeginsByEachView IsMember BeginsRequest s w x n q)
  ok_begins (Ok y) n q begun = λ p m v M own. begun (record { place = p; number = m; view = v }) (tie_of p m s v w (key_of q) M own)
  ok_begins (Err y) n q begun = begun

  pub err_takes : {X : Type 0} (r : Result X NotAccepted) (q : Request) → HasTie s w k → IfErr r (λ back. back.request ≡ q) → OnErr r (AcceptMoves s w x k []) → IfErr r (λ back. (back.request ≡ q) × AcceptsForAny hands_of answers_of IsMember fair s w x [])
  err_takes (Ok y) q tied back moves = tt
  err_takes (Err y) q tied back moves = (back, takes [] (λ p m v M own. own_too tied.0.place p tied.0.number m tied.0.view v w k tied.1.holds tied.1.own M.holds) moves)

-- it winds down: nothing else differs
pub wound : (w x : Worker) → x ≡ record w { winds_down = true } → ((p : Place) (m : ℕ) (v : View) → Holds p m v w → Holds p m v x) → ((s : State) (p : Place) (m : ℕ) (v : View) → Stands s p m v w → Stands s p m v x) → ((p : Place) (m : ℕ) (v : View) → InOrder p m v w → InOrder p m v x)
    → WindsDown hands_of answers_of IsMember fair may_take leads (λ (y : Worker). y.winds_down) w x
wound w x same holds stands order = record {
  is = ap (λ (y : Worker). y.winds_down) same;
  closed = ap (is_open may_take leads) same ∙ shut (leads w);
  given = ap answers_of same;
  held = λ v. ap (hands_of v) same;
  tied = λ p m s v M. record {
    holds = holds p m v M.holds;
    stands = stands s p m v M.stands;
    order = order p m v M.order;
    rule = λ runs. subst HasKeptRoom (sym same) (room_wound w (M.rule (sym (ap (λ (y : Worker). y.stopped) same) ∙ runs)));
  };
  fairly = λ a m starts. subst StartsFirst (sym same) starts;
} where
  shut : (b : Bool) → (not b && false) ≡ false
  shut true = refl
  shut false = refl

some_after : (before after : Option Group) (P : Group → Group → Type 0) (Q : Type 0) → IfSome before (λ a. IsSomeAnd after (λ b. P a b)) → Q → IfSome before (λ a. IsSomeAnd after (λ b. Q))
some_after None after P Q h q = tt
some_after (Some a) None P Q h q = h
some_after (Some a) (Some b) P Q h q = q

module _ (seat : SeatAt) (s t : State) (before after : Option Group) (v u : View) (w x : Worker) (M : IsMember seat.place seat.number s v w)
    (holds : Holds seat.place seat.number u x) (stands : Stands t seat.place seat.number u x) (order : InOrder seat.place seat.number u x) (rule : x.stopped ≡ false → HasKeptRoom w → HasKeptRoom x) (T : TurnMoves seat s t before after v u w x) (starts : StartsFirst x) where
  member_now : IsMember seat.place seat.number t u x
  member_now = record { holds = holds; stands = stands; order = order; rule = λ runs. rule runs (M.rule (by w.stopped refl runs)) } where
    by : (b : Bool) → w.stopped ≡ b → x.stopped ≡ false → w.stopped ≡ false
    by false e runs = e
    by true e runs = absurd (let both : true ≡ false = sym (T.moves.stays_stopped e) ∙ runs in cc both)

  even_now : IfSome before (λ a. IsSomeAnd after (λ b. fair b seat.number x))
  even_now = some_after before after (λ a b. Runs a (map {B = ℕ × Kind} (λ y. (seat.number, y)) T.moves.steps) b) (StartsFirst x) T.moves.whole starts

  -- it moved, or found no memory for all of it
  moved : Turns hands_of answers_of IsMember fair may_take leads seat.place seat.number s t before after v u w x false w.winds_down
  moved = record {
    fixed = T.fixed;
    adds = T.answers;
    moves = T.moves;
    tied = member_now;
    fairly = even_now;
    loads = λ e. absurd (cc e);
    same = λ e. absurd (cc e);
    rests = λ e. absurd (cc e);
    no_more = λ e. absurd (cc e);
    open_for = λ e. absurd (cc e);
  }

  -- it found nothing to do
  idled : (refused : Bool) → refused ≡ false → AtRest refused seat before after v u w x → Turns hands_of answers_of IsMember fair may_take leads seat.place seat.number s t before after v u w x true w.winds_down
  idled refused asks R = record {
    fixed = T.fixed;
    adds = T.answers;
    moves = record {
      outside = T.moves.outside;
      moments = T.moves.moments;
      exit = T.moves.exit;
      steps = R.loads.steps;
      whole = R.loads.whole;
      own = T.moves.own;
      keys = T.moves.keys;
      holds = T.moves.holds;
      refuses = T.moves.refuses;
      spends = T.moves.spends;
      stops = T.moves.stops;
      breaks = T.moves.breaks;
      stays_stopped = T.moves.stays_stopped;
    };
    tied = member_now;
    fairly = even_now;
    loads = λ e. R.loads.loads;
    same = λ e k own. R.same k own;
    rests = λ e. record { holds = R.rests.holds; taken = R.rests.taken; posted = R.rests.posted };
    no_more = λ e works. (let N = R.no_more asks works in record { placed = N.placed; waits = N.waits });
    open_for = λ e works none. ap (λ b. not (leads w) && (not b && has_room w)) works ∙ (R.no_more asks works).open_for none;
  }

  -- by what the turn answered
  pub turns_by : (refused : Bool) → refused ≡ false → (r : Result Turn Memory) → IfIdle r (AtRest refused seat before after v u w x) → Turns hands_of answers_of IsMember fair may_take leads seat.place seat.number s t before after v u w x (is_idle r) w.winds_down
  turns_by refused asks (Ok Moved) rest = moved
  turns_by refused asks (Ok Idle) rest = idled refused asks rest
  turns_by refused asks (Err e) rest = moved

-- where the state is told, it is fair
if_fair : (before : Option Group) (S : Type 0) (P : Group → Type 0) → IfSome before (λ a. S) → (S → IfSome before (λ a. P a)) → IfSome before (λ a. P a)
if_fair None S P h f = tt
if_fair (Some a) S P h f = f h

-- by what a turn answered
pub did_by : (r : Result Turn Memory) (s t : State) (refused : Bool) (before : Option Group) (seat : SeatAt) (a b : Moment) → TurnedTo r s t refused before seat a b → IfOk r (λ turn. Turned (turn_of (has_moved turn)) s t refused before seat a b)
did_by (Ok Moved) s t refused before seat a b h = h
did_by (Ok Idle) s t refused before seat a b h = h
did_by (Err e) s t refused before seat a b h = tt

module _ (before after : Option Group) (w x : Worker) (S : Type 0) (fair_now : IfSome before (λ a. S)) where
  pub lowers_by : (r : Result Turn Memory) → (S → Measures r before after w x) → IfOk r (λ turn. turn ≡ Moved → IfSome before (λ a. IsSomeAnd after (λ e. left x + group_left e < left w + group_left a)))
  lowers_by (Ok Moved) h = λ on. if_fair before S (λ a. IsSomeAnd after (λ e. left x + group_left e < left w + group_left a)) fair_now h
  lowers_by (Ok Idle) h = λ on. absurd (cc on)
  lowers_by (Err e) h = tt

  pub not_more_by : (r : Result Turn Memory) → (S → Measures r before after w x) → IfOk r (λ turn. turn ≡ Idle → IfSome before (λ a. IsSomeAnd after (λ e. left x + group_left e ≤ left w + group_left a)))
  not_more_by (Ok Moved) h = λ off. absurd (cc off)
  not_more_by (Ok Idle) h = λ off. if_fair before S (λ a. IsSomeAnd after (λ e. left x + group_left e ≤ left w + group_left a)) fair_now h
  not_more_by (Err e) h = tt
