-- What waits of a key is begun: the worker is tied again.
use Rattle.std.proofs.Common.{◌≡◌, inr, ℕ, true, false, Result, Ok, Err, OnOk, OnErr, sym, ◌∙◌, subst}
use Rattle.std.specs.Prelude.{is_ok}
use Rattle.pm_region.specs.State.{State, IsTelling}
use Rattle.group_laws.specs.Places.{Place}
use Rattle.group_laws.specs.MemberViews.{View}
use Rattle.conflict_queue.specs.Waiting.{waiting}
use Rattle.core_worker.specs.declared.worker.Worker.{Worker}
use Rattle.core_worker.specs.Ties.{Tie, StandsBy}
use Rattle.core_worker.specs.Beginning.{IsHeldAside, KeepsTies, ByEachView, BeginsAll, BeginsShort}
use Rattle.core_worker.specs.Serving.{AllWait, KeepsOrders, OnlyServes}
use Rattle.core_worker.specs.Finishing.{MayBeginWaiting, IsFreed, IsToServe, IsServed, Serves, ServesByEachView, ServesShort, ShortOf, TakesBackKey, FinishesSlot}
use Rattle.core_worker.proofs.Beginnings.{of_aside}
use Rattle.core_worker.proofs.Serving.{all_wait}

pub held_aside : (s : State) (w : Worker) (k : ℕ) (t : Tie) → IsToServe s w k t → IsHeldAside w k t
held_aside s w k t T = record { holds = T.holds; own = T.own }

-- a core that winds down begins none
pub served_none : (s : State) (w : Worker) (k : ℕ) (t : Tie) → w.winds_down ≡ true → MayBeginWaiting w k → IsToServe s w k t → IsServed s w t
served_none s w k t winds R T =
    let W = all_wait w k R.others (λ busy. absurd (let both : true ≡ false = sym busy ∙ R.idle in cc both)) (λ on idle. absurd (let both : true ≡ false = sym winds ∙ on in cc both)) in
    record { holds = of_aside t.place t.number t.view w T.holds W.admitted W.waits; stands = T.stands; order = T.order }

pub served_all : (s : State) (w x : Worker) (k : ℕ) (t : Tie) → KeepsTies w x k → AllWait x → KeepsOrders w x k → IsToServe s w k t → IsServed s x t
served_all s w x k t keeps W order T =
    let a = held_aside s w k t T in
    let K = keeps t a in
    record { holds = of_aside t.place t.number t.view x K.holds W.admitted W.waits; stands = K.stands s T.stands; order = order t a T.order }

pub serves_all : {X Y : Type 0} (r : Result X Y) (s : State) (w x : Worker) (k : ℕ) → w.winds_down ≡ false → OnOk r (ByEachView s w k (λ v. BeginsAll (IsTelling s) (waiting w.queue k) w x (v.cell k) k)) → OnOk r (ServesByEachView s w x k)
serves_all (Ok y) s w x k on begins = λ t T. inr (on, begins t (held_aside s w k t T) T.stands)
serves_all (Err y) s w x k on begins = begins

pub serves_short : {X Y : Type 0} (r : Result X Y) (s : State) (w x : Worker) (k : ℕ) → w.winds_down ≡ false → OnErr r (ByEachView s w k (λ v. BeginsShort (IsTelling s) (waiting w.queue k) w x (v.cell k) k)) → OnErr r (ServesShort s w x k)
serves_short (Ok y) s w x k on short = short
serves_short (Err y) s w x k on short = λ t T. (on, short t (held_aside s w k t T) T.stands)

-- a change that was taken back, and what waits of its key, as one
module _ (s : State) (p : Place) (m slot k : ℕ) (v u : View) (w x y : Worker) (S : StandsBy s (record { place = p; number = m; view = v }) w) (F : IsFreed p m v u w x k) where
  abbrev tie : Tie
  tie = record { place = p; number = m; view = u }

  pub to_serve : IsToServe s x k tie
  to_serve = record { holds = F.holds; stands = F.stands s S; order = F.order; own = F.own }

  pub finishes_slot : {X Y : Type 0} (r : Result X Y) → TakesBackKey p m slot v u w x k → OnlyServes x y → OnOk r (ServesByEachView s x y k) → OnErr r (ServesShort s x y k) → FinishesSlot s p m slot v u w y (is_ok r)
  finishes_slot (Ok z) T rest begins short = record { freed = x; takes = T.0; rest = rest; begins = λ all. subst (λ (n : ℕ). Serves (IsTelling s) x y (u.cell n) n) (sym T.1) (begins tie to_serve); short = λ none. absurd (cc none) }
  finishes_slot (Err z) T rest begins short = record { freed = x; takes = T.0; rest = rest; begins = λ all. absurd (cc all); short = λ none. subst (λ (n : ℕ). ShortOf (IsTelling s) x y (u.cell n) n) (sym T.1) (short tie to_serve) }
