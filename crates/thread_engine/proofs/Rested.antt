-- A core that has ended is at rest.
use Rattle.std.proofs.Common.{◌≡◌, inl, inr, ℕ, zero, suc, ◌==◌, ◌||◌, Bool, true, false, not, List, [], ◌∷◌, ◌++◌, map, length, Option, Some, None, refl, arith}
use Rattle.std.specs.Prelude.{is_some, option_to_list, nat_lt}
use Rattle.std.proofs.lemmas.Bool.{lt-ltb}
use Rattle.std.specs.List.{filter}
use Rattle.fs_model.specs.Cells.{key_of}
use Rattle.conflict_queue.specs.Waiting.{waiting}
use Rattle.group_laws.specs.MemberViews.{View}
use Rattle.group_board.specs.Seats.{SeatAt}
use Rattle.core_worker.specs.declared.types.Leading.{Leading}
use Rattle.core_worker.specs.declared.types.Leading.TheVariants as leads
use Rattle.core_worker.specs.declared.types.Place.{Place}
use Rattle.core_worker.specs.declared.types.Place.TheVariants.{Free, Staged, Posted}
use Rattle.core_worker.specs.OwnPlaces.{place_at}
use Rattle.core_worker.specs.PostedPlaces.{any_posted}
use Rattle.core_worker.specs.Status.{all_free, is_leading}
use Rattle.core_worker.specs.Ties.{LeadsAt}
use Rattle.core_worker.specs.WorkerMoves.{placed_for, asked_by}
use Rattle.thread_engine.specs.WorkStates.{WorkState, IsAtWork, HasEnded}
use Rattle.thread_engine.specs.WorkLaws.{HasRested}
use Rattle.thread_engine.proofs.Doubts.{none_some, clash}

-- who leads nothing
leads_nothing : (seat : SeatAt) (v : View) (l : Leading) → is_leading l ≡ false → LeadsAt seat v l → (v.holds ≡ false) × ((a s : ℕ) → v.taken a s ≡ None) × (v.broken ≡ false → v.flying ≡ [])
leads_nothing seat v (leads.Nothing buffer) e h = h
leads_nothing seat v (leads.Collecting c) e h = absurd (cc e)
leads_nothing seat v (leads.Batch b) e h = absurd (cc e)
leads_nothing seat v (leads.Persisted x) e h = absurd (cc e)
leads_nothing seat v (leads.Failed x) e h = absurd (cc e)
leads_nothing seat v leads.Between e h = absurd h

-- where no place is posted
none_posted : (ps : List Place) (t number key lines : ℕ) → any_posted ps ≡ false → place_at ps t ≡ Posted number key lines → ⊥
none_posted [] t number key lines e at = absurd (cc at)
none_posted (Posted n k l ∷ ps) t number key lines e at = absurd (cc e)
none_posted (Free ∷ ps) zero number key lines e at = absurd (cc at)
none_posted (Free ∷ ps) (suc t) number key lines e at = none_posted ps t number key lines e at
none_posted (Staged n d v ∷ ps) zero number key lines e at = absurd (cc at)
none_posted (Staged n d v ∷ ps) (suc t) number key lines e at = none_posted ps t number key lines e at

three : (a b c : Bool) → (a || b || c) ≡ false → (a ≡ false) × (b ≡ false) × (c ≡ false)
three true b c e = absurd (cc e)
three false true c e = absurd (cc e)
three false false true e = absurd (cc e)
three false false false e = (refl, refl, refl)

nothing_placed : (v : View) (ps : List Place) (k : ℕ) → not (all_free ps) ≡ false → placed_for v ps k ≡ None
nothing_placed v [] k e = refl
nothing_placed v (Free ∷ ps) k e = nothing_placed v ps k e
nothing_placed v (Staged n d y ∷ ps) k e = absurd (cc e)
nothing_placed v (Posted n j l ∷ ps) k e = absurd (cc e)

none_in : {X : Type 0} (o : Option X) → is_some o ≡ false → o ≡ None
none_in None e = refl
none_in (Some x) e = absurd (cc e)

empty : {X : Type 0} (xs : List X) → nat_lt 0 (length xs) ≡ false → xs ≡ []
empty [] e = refl
empty (x ∷ xs) e = absurd (clash (nat_lt 0 (length (x ∷ xs))) (lt-ltb 0 (length (x ∷ xs)) (omega arith)) e)

module _ (seat : SeatAt) (x : WorkState) (at : IsAtWork seat x) (E : HasEnded x) where
  abbrev free : (x.view.holds ≡ false) × ((a s : ℕ) → x.view.taken a s ≡ None) × (x.view.broken ≡ false → x.view.flying ≡ [])
  free = (let L = at.member.holds.leads in leads_nothing L.seat x.view x.worker.leading E.leads L.at)

  idle : x.worker.winds_down ≡ false → (not (all_free x.worker.places.items) ≡ false) × (is_some x.worker.in_hand ≡ false) × (nat_lt 0 (length x.worker.queue) ≡ false)
  idle works = three (not (all_free x.worker.places.items)) (is_some x.worker.in_hand) (nat_lt 0 (length x.worker.queue)) (E.pending works)

  pub has_rested : HasRested seat x
  has_rested = record {
    holds = free.0;
    taken = free.1;
    flying = free.2;
    licensed = at.member.stands.licensed;
    broken = at.member.holds.broken;
    slots = λ k s e is. elim (at.member.holds.pending k (record { entry = e; slot = Some s }) is) [
      | inl there ↦ none_posted x.worker.places.items there.0 there.1 k there.2 E.posted there.4
      | inr doubt ↦ none_some s doubt.0
    ];
    places = λ works k. nothing_placed x.view x.worker.places.items k (idle works).0;
    waits = λ works k. (let i = idle works in let hand = none_in x.worker.in_hand i.1 in let queue = empty x.worker.queue i.2 in λ j. map asked_by (filter (λ h. key_of h.request == k) (option_to_list (hand j)) ++ waiting (queue j) k));
    queue = E.queue;
  }
