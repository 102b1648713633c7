-- What a worker says of a call, a type around it says too.
use Rattle.std.proofs.Common.{◌≡◌, ℕ, Bool, List, [], ◌∷◌, ◌++◌, map, Option, Result, Ok, Err, OnOk, sym, subst}
use Rattle.std.specs.Prelude.{IfErr}
use Rattle.fs_model.specs.declared.model.Request.{Request}
use Rattle.pm_region.specs.State.{State}
use Rattle.group_laws.specs.Places.{Place}
use Rattle.group_laws.specs.State.{Group}
use Rattle.group_laws.specs.Runs.{Kind}
use Rattle.group_laws.proofs.Clients.{run_place}
use Rattle.group_laws.specs.MemberViews.{View, view_of}
use Rattle.engine_laws.specs.WorkerMoves.{Hands}
use Rattle.core_worker.specs.declared.types.Answer.{Answer}
use Rattle.core_worker.specs.declared.types.NotAccepted.{NotAccepted}
use Rattle.engine_core.specs.Calls.{AcceptsForAny, AreOwn, Steps, Turns, WindsDown}

module _ {W X : Type 0} (inner : X → W) (hands : View → W → Hands) (answers : W → List Answer) (stands : Place → ℕ → State → View → W → Type 0) (fair : Group → ℕ → W → Type 0) where
  pub accepts_around : (s : State) (w x : X) (accepted : List (ℕ × Request)) → AcceptsForAny hands answers stands fair s (inner w) (inner x) accepted
      → AcceptsForAny (λ v z. hands v (inner z)) (λ z. answers (inner z)) (λ p m t v z. stands p m t v (inner z)) (λ a m z. fair a m (inner z)) s w x accepted
  accepts_around s w x accepted A = record {
    tied = A.tied;
    moves = λ p m v at own. (let M = A.moves p m v at own in record { fixed = M.fixed; adds = M.adds; moves = M.moves });
    fairly = A.fairly;
  }

  -- by what it answered
  abbrev Around : State → X → X → List (ℕ × Request) → Type 0
  Around s w x accepted = AcceptsForAny (λ v z. hands v (inner z)) (λ z. answers (inner z)) (λ p m t v z. stands p m t v (inner z)) (λ a m z. fair a m (inner z)) s w x accepted

  pub accepted_around : {Y Z : Type 0} (r : Result Y Z) (s : State) (w x : X) (y : ℕ × Request) → OnOk r (AcceptsForAny hands answers stands fair s (inner w) (inner x) (y ∷ [])) → OnOk r (Around s w x (y ∷ []))
  accepted_around (Ok a) s w x y A = accepts_around s w x (y ∷ []) A
  accepted_around (Err e) s w x y A = A

  pub refused_around : {Y : Type 0} (r : Result Y NotAccepted) (s : State) (w x : X) (q : Request) → IfErr r (λ back. (back.request ≡ q) × AcceptsForAny hands answers stands fair s (inner w) (inner x) []) → IfErr r (λ back. (back.request ≡ q) × Around s w x [])
  refused_around (Ok a) s w x q A = A
  refused_around (Err e) s w x q A = (A.0, accepts_around s w x [] A.1)

  pub turns_around : (room leads : W → Bool) (p : Place) (m : ℕ) (s t : State) (before after : Option Group) (v u : View) (w x : X) (idle down : Bool) → Turns hands answers stands fair room leads p m s t before after v u (inner w) (inner x) idle down
      → Turns (λ v z. hands v (inner z)) (λ z. answers (inner z)) (λ p m t v z. stands p m t v (inner z)) (λ a m z. fair a m (inner z)) (λ z. room (inner z)) (λ z. leads (inner z)) p m s t before after v u w x idle down
  turns_around room leads p m s t before after v u w x idle down T = record {
    fixed = T.fixed;
    adds = T.adds;
    moves = T.moves;
    tied = T.tied;
    fairly = T.fairly;
    loads = T.loads;
    same = T.same;
    rests = T.rests;
    no_more = T.no_more;
    open_for = T.open_for;
  }

  pub winds_around : (room leads winds : W → Bool) (w x : X) → WindsDown hands answers stands fair room leads winds (inner w) (inner x)
      → WindsDown (λ v z. hands v (inner z)) (λ z. answers (inner z)) (λ p m t v z. stands p m t v (inner z)) (λ a m z. fair a m (inner z)) (λ z. room (inner z)) (λ z. leads (inner z)) (λ z. winds (inner z)) w x
  winds_around room leads winds w x D = record {
    is = D.is;
    closed = D.closed;
    given = D.given;
    held = D.held;
    tied = D.tied;
    fairly = D.fairly;
  }

-- what is left of a queue whose requests are all a member's
all_left : (p : Place) (m : ℕ) (xs ys : List (ℕ × Request)) → AreOwn p m (xs ++ ys) → AreOwn p m ys
all_left p m [] ys own = own
all_left p m (x ∷ xs) ys own = all_left p m xs ys own.1

-- A step of member 1 leaves its worker standing in the group as it is then.
module _ {W : Type 0} (hands : View → W → Hands) (answers : W → List Answer) (stands : Place → ℕ → State → View → W → Type 0) (fair : Group → ℕ → W → Type 0)
    (s t : State) (a b : Group) (w x : W) (queue accepted rest : List (ℕ × Request)) (idle down : Bool) (T : Steps hands answers stands fair a.place 1 s t a b (view_of a 1) (view_of b 1) w x queue accepted rest idle down) where
  same_place : b.place ≡ a.place
  same_place = run_place a (map {B = ℕ × Kind} (λ y. (1, y)) T.moves.steps) b T.moves.whole

  pub place_kept : stands b.place 1 t (view_of b 1) x
  place_kept = subst (λ (p : Place). stands p 1 t (view_of b 1) x) (sym same_place) T.tied

  pub own_left : AreOwn a.place 1 queue → (now : List (ℕ × Request)) → now ≡ rest → AreOwn b.place 1 now
  own_left own now is =
      let whole = subst (AreOwn a.place 1) T.split own in
      let left = all_left a.place 1 accepted rest whole in
      subst (λ (p : Place). AreOwn p 1 now) (sym same_place) (subst (AreOwn a.place 1) (sym is) left)
