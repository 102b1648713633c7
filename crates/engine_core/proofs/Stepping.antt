-- A turn, or a request taken in, is a step of the engine.
use Rattle.std.proofs.Common.{rules, ◌≡◌, ℕ, List, [], ◌∷◌, ◌++◌, take, Bool, true, false, not, Option, Some, refl, sym, ap, subst, ◌∙◌, ◌+◌, ◌*◌, ◌<◌, ◌≤◌, length, IfOk, OnErr, OnOk, Result, Ok, Err, arith}
use Rattle.fs_model.specs.declared.memory.Memory.{Memory}
use Rattle.fs_model.specs.declared.model.Request.{Request}
use Rattle.pm_region.specs.State.{State}
use Rattle.group_laws.specs.Places.{Place}
use Rattle.group_laws.specs.State.{Group}
use Rattle.group_laws.specs.MemberViews.{View, view_of}
use Rattle.group_board.specs.Seats.{SeatAt}
use Rattle.engine_laws.specs.WorkerMoves.{Hands}
use Rattle.core_worker.specs.declared.types.Answer.{Answer}
use Rattle.core_worker.specs.declared.types.Turn.{Turn}
use Rattle.core_worker.specs.declared.types.Turn.TheVariants.{Moved}
use Rattle.std.specs.Borrow.{MutBor}
use Rattle.engine_core.specs.Calls.{AreOwn, AcceptsForAny, BeginsByEachView, Turns, Steps, TakesTurn, Does, has_moved, is_idle, is_open, next_of}
use Rattle.engine_core.specs.CoreSteps.{TurnCall, GivesTurn}

module _ {W : Type 0} (hands : View → W → Hands) (answers : W → List Answer) (stands : Place → ℕ → State → View → W → Type 0) (fair : Group → ℕ → W → Type 0) (room leads : W → Bool) (p : Place) (m : ℕ) where
  of_turn : (s t : State) (a b : Group) (v u : View) (w x : W) (queue : List (ℕ × Request)) (idle down : Bool) → (is_open room leads w ≡ true → queue ≡ [])
      → Turns hands answers stands fair room leads p m s t (Some a) (Some b) v u w x idle down → Steps hands answers stands fair p m s t a b v u w x queue [] queue idle down
  of_turn s t a b v u w x queue idle down left T = record {
    fixed = T.fixed;
    split = refl;
    adds = T.adds;
    moves = T.moves;
    tied = T.tied;
    fairly = T.fairly;
    loads = T.loads;
    same = T.same;
    rests = T.rests;
    no_more = T.no_more;
    none = λ on. refl;
    empty = λ on goes none. left (T.open_for on goes none);
  }

  of_accept : (s : State) (a : Group) (v : View) (w x : W) (queue accepted rest : List (ℕ × Request)) (down : Bool) → queue ≡ accepted ++ rest → fair a m w → stands p m s v w → AreOwn p m accepted
      → AcceptsForAny hands answers stands fair s w x accepted → Steps hands answers stands fair p m s s a a v v w x queue accepted rest false down
  of_accept s a v w x queue accepted rest down split fairly tied own A = record {
    fixed = (A.moves p m v tied own).fixed;
    split = split;
    adds = (A.moves p m v tied own).adds;
    moves = (A.moves p m v tied own).moves (Some a);
    tied = A.tied p m v tied own;
    fairly = A.fairly a m fairly;
    loads = λ q. absurd (cc q);
    same = λ q. absurd (cc q);
    rests = λ q. absurd (cc q);
    no_more = λ q. absurd (cc q);
    none = λ q. absurd (cc q);
    empty = λ q. absurd (cc q);
  }

  -- what a step says, by its outcome
  abbrev pub Stepped : State → State → Group → Group → View → View → W → W → List (ℕ × Request) → List (ℕ × Request) → Bool → Result Turn Memory → Type 0
  Stepped s t a b v u w x queue now down r =
      (accepted : List (ℕ × Request)) × (rest : List (ℕ × Request)) × Steps hands answers stands fair p m s t a b v u w x queue accepted rest (is_idle r) down
      × (now ≡ rest) × OnOk r (accepted ≡ next_of (is_open room leads w) queue)

  pub taken_in : (s : State) (a : Group) (v : View) (w x : W) (queue popped now : List (ℕ × Request)) (y : ℕ × Request) (down : Bool) (r : Result Turn Memory) → queue ≡ y ∷ popped → is_open room leads w ≡ true → fair a m w → stands p m s v w → AreOwn p m queue
      → IfOk r (λ b. (b ≡ Moved) × AcceptsForAny hands answers stands fair s w x (y ∷ [])) → OnErr r (AcceptsForAny hands answers stands fair s w x []) → OnOk r (now ≡ popped) → OnErr r (now ≡ y ∷ popped) → Stepped s s a a v v w x queue now down r
  taken_in s a v w x queue popped now y down (Ok b) split ready fairly tied own ok err taken back = (
    y ∷ [],
    popped,
    subst (λ i. Steps hands answers stands fair p m s s a a v v w x queue (y ∷ []) popped i down) (ap (λ turn. not (has_moved turn)) (sym ok.0)) (of_accept s a v w x queue (y ∷ []) popped down split fairly tied ((subst (AreOwn p m) split own).0, tt) ok.1),
    taken,
    sym (ap (λ c. next_of c queue) ready ∙ ap (take 1) split),
  )
  taken_in s a v w x queue popped now y down (Err e) split ready fairly tied own ok err taken back = ([], queue, of_accept s a v w x queue [] queue down refl fairly tied tt err, back ∙ sym split, tt)

  pub turned : (s t : State) (a b : Group) (v u : View) (w x : W) (queue now : List (ℕ × Request)) (down : Bool) (r : Result Turn Memory) → now ≡ queue → (is_open room leads w ≡ true → queue ≡ [])
      → Turns hands answers stands fair room leads p m s t (Some a) (Some b) v u w x (is_idle r) down → Stepped s t a b v u w x queue now down r
  turned s t a b v u w x queue now down (Ok y) same left T = ([], queue, of_turn s t a b v u w x queue (not (has_moved y)) down left T, same, none (is_open room leads w) left) where
    none : (c : Bool) → (c ≡ true → queue ≡ []) → [] ≡ next_of c queue
    none true h = sym (ap (take 1) (h refl))
    none false h = refl
  turned s t a b v u w x queue now down (Err e) same left T = ([], queue, of_turn s t a b v u w x queue false down left T, same, tt)

-- A request that is taken in counts more in the backlog than in the worker.
less_in : (queue popped : List (ℕ × Request)) (y : ℕ × Request) (old new under most : ℕ) → queue ≡ y ∷ popped → new ≤ old + most → new + under + (most + 1) * length popped < old + under + (most + 1) * length queue
less_in queue popped y old new under most split le =
    let n : length queue ≡ length popped + 1 = ap length split ∙ (omega arith) in
    let grown : (most + 1) * length queue ≡ (most + 1) * length popped + (most + 1) = ap (λ k. (most + 1) * k) n ∙ (nonlinear (most + 1) (length popped)) in
    omega (arith, le, grown) where
      nonlinear : (a b : ℕ) → a * (b + 1) ≡ a * b + a
      nonlinear a b = search rules

pub less_taken : (queue popped now : List (ℕ × Request)) (y : ℕ × Request) (old new under most : ℕ) (r : Result Turn Memory) → queue ≡ y ∷ popped → OnOk r (now ≡ popped) → OnOk r (new ≤ old + most) → IfOk r (λ b. b ≡ Moved → new + under + (most + 1) * length now < old + under + (most + 1) * length queue)
less_taken queue popped now y old new under most (Ok b) split taken le = λ q. less_in queue now y old new under most (split ∙ ap (λ ys. y ∷ ys) (sym taken)) le
less_taken queue popped now y old new under most (Err e) split taken le = tt

pub none_left : {X : Type 0} (xs : List X) → length xs ≡ 0 → xs ≡ []
none_left [] e = refl
none_left (x ∷ xs) e = absurd (omega (arith, e))

-- What was done in a step, by the requests that were handed out.
module _ {W : Type 0} (stands : Place → ℕ → State → View → W → Type 0) (begins : State → View → W → W → ℕ → Request → Type 0) (turned : Bool → State → State → Option Group → SeatAt → View → View → W → W → Type 0) (p : Place) (m : ℕ) where
  pub did_turn : (s t : State) (a b : Group) (w x : W) (open_now : Bool) (queue : List (ℕ × Request)) (r : Result Turn Memory) → (open_now ≡ true → queue ≡ []) → IfOk r (λ turn. TakesTurn turned p m s t a b w x (has_moved turn)) → IfOk r (λ turn. Does begins turned p m s t a b w x (next_of open_now queue) (has_moved turn))
  did_turn s t a b w x open_now queue (Ok moved) left turn = subst (λ ys. Does begins turned p m s t a b w x ys (has_moved moved)) (none open_now left) turn where
    none : (c : Bool) → (c ≡ true → queue ≡ []) → [] ≡ next_of c queue
    none true h = sym (ap (take 1) (h refl))
    none false h = refl
  did_turn s t a b w x open_now queue (Err e) left turn = tt

  pub did_take : (s : State) (a : Group) (w x : W) (open_now : Bool) (queue popped : List (ℕ × Request)) (y : ℕ × Request) (r : Result Turn Memory) → queue ≡ y ∷ popped → open_now ≡ true → stands p m s (view_of a m) w → AreOwn p m queue → IfOk r (λ turn. turn ≡ Moved) → OnOk r (BeginsByEachView stands begins s w x y.0 y.1)
      → IfOk r (λ turn. Does begins turned p m s s a a w x (next_of open_now queue) (has_moved turn))
  did_take s a w x open_now queue popped y (Ok moved) split ready tied own on begun = subst (λ ys. Does begins turned p m s s a a w x ys (has_moved moved)) (sym (ap (λ c. next_of c queue) ready ∙ ap (take 1) split)) (record {
    begun = begun p m (view_of a m) tied (subst (AreOwn p m) split own).0;
    moves = ap has_moved on;
    region = refl;
    group = refl;
  })
  did_take s a w x open_now queue popped y (Err e) split ready tied own on begun = tt

-- What each call says at the values behind its borrows, a turn that was made says of these.
pub turned_as : {F W B R : Type 0} {call : TurnCall F W B R} {f : F} {w : W} {b : B} {r : R} {result : Result Turn Memory} {x : W} {c : B} {t : R} → GivesTurn call f w b r result x c t → (P : W → B → R → W → B → R → Type 0)
    → ((i : MutBor W) (j : MutBor B) (k : MutBor R) (l : MutBor W) (m : MutBor B) (n : MutBor R) → call.post f (i, (j, (k, tt))) (result, (l, (m, (n, tt)))) → P i.now j.now k.now l.now m.now n.now) → P w b r x c t
turned_as {W = W} {B = B} {R = R} {w = w} {b = b} {r = r} {x = x} {c = c} {t = t} T P says =
    subst (λ (i : W). P i b r x c t) T.from.0 (subst (λ (j : B). P T.worker.now j r x c t) T.from.1 (subst (λ (k : R). P T.worker.now T.board.now k x c t) T.from.2
    (subst (λ (l : W). P T.worker.now T.board.now T.region.now l c t) T.to.0 (subst (λ (m : B). P T.worker.now T.board.now T.region.now T.worker_left.now m t) T.to.1
    (subst (λ (n : R). P T.worker.now T.board.now T.region.now T.worker_left.now T.board_left.now n) T.to.2
    (says T.worker T.board T.region T.worker_left T.board_left T.region_left T.made))))))
