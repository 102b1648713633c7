-- Why a core has stopped: a call of its piece failed, or an own change is in doubt and it has nothing in flight.
use Rattle.std.proofs.Common.{⊎_elim, ◌≡◌, ◌≢◌, ◌⊎◌, inl, inr, ℕ, ◌≤◌, ◌<◌, Bool, true, false, cond, List, [], ◌∷◌, Option, Some, None, Result, Ok, Err, refl, sym, ◌∙◌, ap, subst, arith}
use Rattle.std.specs.Prelude.{MatchOption}
use Rattle.std.proofs.lemmas.Bool.{cases_lt}
use Rattle.fs_model.specs.declared.memory.Memory.{Memory}
use Rattle.pm_region.specs.Cell.{Cell}
use Rattle.pm_region.specs.State.{State, Frame, IsTold, During, Rose}
use Rattle.log_entry.specs.declared.entry.Entry.{Entry}
use Rattle.group_laws.specs.declared.types.Pending.{Pending}
use Rattle.group_laws.specs.Places.{Place}
use Rattle.group_laws.specs.Updates.{put}
use Rattle.group_laws.specs.State.{Group}
use Rattle.group_laws.specs.MemberViews.{View}
use Rattle.group_board.specs.Seats.{SeatAt}
use Rattle.group_board.specs.Views.{after_finish, after_give_up, TidiedIn}
use Rattle.engine_laws.specs.WorkerMoves.{HasDoubt}
use Rattle.core_worker.specs.declared.types.Leading.{Leading}
use Rattle.core_worker.specs.declared.types.Leading.TheVariants as leads
use Rattle.core_worker.specs.declared.types.Turn.{Turn}
use Rattle.core_worker.specs.declared.types.Turn.TheVariants.{Moved, Idle}
use Rattle.core_worker.specs.declared.worker.Worker.{Worker}
use Rattle.core_worker.specs.Order.{InOrder, MayLeadStopped}
use Rattle.core_worker.specs.Ties.{Holds, LeadsAt, LeadsNothing}
use Rattle.core_worker.specs.Turning.{Did, TurnedTo, at_entry}
use Rattle.core_worker.proofs.Clients.{passes_is}
use Rattle.core_worker.specs.Turning.Did.{begins, goes_round, withdraws, writes, marks, fails, finishes, posts, loses_block, drops, receives, sends, winds, locks, dooms, copies, loses_copies, clears, loses_clearing}
use Rattle.core_worker.specs.Turns.{PersistsOrLoses}
use Rattle.thread_engine.specs.WorkStates.{WorkState, IsAtWork, TakesNext, MakesTurn, Move, Leads, Works, HasEnded}
use Rattle.thread_engine.specs.WorkStates.Move.{accepts, turns, winds_down, joins, hands_over}
use Rattle.thread_engine.specs.WorkLaws.{in_doubt, HasRested}
use Rattle.thread_engine.proofs.Doubts.{none_some, clash, doubt_stops, slot_is, neq}
use Rattle.thread_engine.proofs.Rested.{has_rested}

-- a view in which the key's pending change was put
put_else : (f : ℕ → Option Pending) (j k : ℕ) (x : Option Pending) → k ≢ j → put f j x k ≡ f k
put_else f j k x ne = ap (λ b. cond b x (f k)) (neq k j ne)

module _ (p : Place) (m : ℕ) (v u : View) (w x : Worker) (H : Holds p m v w) (O : InOrder p m v w) where
  -- nothing is in flight, and an own change is in doubt
  abbrev Rests : View → Type 0
  Rests y = HasDoubt p m y × (y.flying ≡ [])

  -- a change that is in doubt stays so, and nothing was taken
  abbrev Stays : Type 0
  Stays = ((k : ℕ) (d : Entry) → v.pending k ≡ Some (in_doubt d) → u.pending k ≡ Some (in_doubt d)) × (u.flying ≡ v.flying)

  stays_as : (y : View) → u ≡ y → y.pending ≡ v.pending → y.flying ≡ v.flying → Stays
  stays_as y e pending flying = (
    λ k d is. ap (λ (z : View). z.pending k) e ∙ ap (λ f. f k) pending ∙ is,
    ap (λ (z : View). z.flying) e ∙ flying,
  )

  -- the key of a change in a slot is another one
  apart : (j k s : ℕ) (e d : Entry) → v.pending j ≡ Some (record { entry = e; slot = Some s }) → v.pending k ≡ Some (in_doubt d) → k ≢ j
  apart j k s e d there here same = none_some s (slot_is (record { entry = e; slot = Some s }) (in_doubt d) (sym there ∙ ap v.pending (sym same) ∙ here))

  -- who leads nothing and runs has nothing in flight
  idle_flies : LeadsNothing w → w.stopped ≡ false → v.flying ≡ []
  idle_flies free runs = (let L = H.leads in at L.seat w.leading free.1 L.at) not_broken where
    at : (seat : SeatAt) (l : Leading) → l ≡ leads.Nothing free.0 → LeadsAt seat v l → v.broken ≡ false → v.flying ≡ []
    at seat l e h = (subst (LeadsAt seat v) e h).2

    not_broken : v.broken ≡ false
    not_broken = by v.broken refl where
      by : (b : Bool) → v.broken ≡ b → v.broken ≡ false
      by false e = e
      by true e = absurd (clash w.stopped (H.broken e) runs)

  module _ (s t : State) (refused : Bool) (before : Option Group) (seat : SeatAt) (place : seat.place ≡ p) (number : seat.number ≡ m) where
    taken_back : (slot : ℕ) (mid : View) (home : Option ℕ) (e : Entry) → mid.pending ≡ v.pending → mid.flying ≡ v.flying → mid.pending e.key ≡ Some (record { entry = e; slot = Some slot })
        → MatchOption home (TidiedIn seat.place seat.number (after_give_up e mid) u) (λ h. TidiedIn seat.place seat.number (after_finish e h mid) u) → Stays
    taken_back slot mid None e pending flying there T = (
      λ k d is. ap (λ (z : View). z.pending k) T.4 ∙ put_else mid.pending e.key k (Some (in_doubt e)) (apart e.key k slot e d (ap (λ f. f e.key) (sym pending) ∙ there) is) ∙ ap (λ f. f k) pending ∙ is,
      ap (λ (z : View). z.flying) T.4 ∙ flying,
    )
    taken_back slot mid (Some h) e pending flying there T = (
      λ k d is. ap (λ (z : View). z.pending k) T.4 ∙ put_else mid.pending e.key k None (apart e.key k slot e d (ap (λ f. f e.key) (sym pending) ∙ there) is) ∙ ap (λ f. f k) pending ∙ is,
      ap (λ (z : View). z.flying) T.4 ∙ flying,
    )

    -- a core that has stopped
    stopped_stays : w.stopped ≡ true → Did s t refused before seat (at_entry w v) (at_entry x u) → Stays
    stopped_stays stop (goes_round quiet (inl C)) = absurd (clash w.stopped stop C.runs)
    stopped_stays stop (goes_round quiet (inr R)) = absurd (clash w.stopped stop R.runs)
    stopped_stays stop (withdraws quiet after all (inl W)) =
        let back = W.retracts.back in
        let e = W.change.entry in (
          λ k d is. ap (λ (z : View). z.pending k) back.view ∙ put_else v.pending e.key k None (apart e.key k back.slot e d back.pending is) ∙ is,
          ap (λ (z : View). z.flying) back.view,
        )
    stopped_stays stop (withdraws quiet after all (inr U)) = (
      λ k d is. ap (λ (z : View). z.pending k) U.1.view ∙ ap (λ (z : View). z.pending k) U.1.found.view.1 ∙ is,
      ap (λ (z : View). z.flying) U.1.view ∙ ap (λ (z : View). z.flying) U.1.found.view.1,
    )
    stopped_stays stop (writes P) = by x.stopped P where
      by : (b : Bool) → PersistsOrLoses b seat.number (at_entry w v) (at_entry x u) → Stays
      by false P = absurd (subst MayLeadStopped P.led (O.stops stop))
      by true P = absurd (subst MayLeadStopped P.led (O.stops stop))
    stopped_stays stop (marks quiet M) = stays_as _ M.view refl refl
    stopped_stays stop (fails quiet F) = stays_as _ F.view refl refl
    stopped_stays stop (finishes quiet all F) = taken_back F.slot F.mid F.finishes.takes.home F.finishes.takes.entry (ap (λ (z : View). z.pending) F.before.looked.view) (ap (λ (z : View). z.flying) F.before.looked.view) F.finishes.takes.pending F.finishes.takes.view
    stopped_stays stop (posts P plain calm) = absurd (clash w.stopped stop P.runs.0)
    stopped_stays stop (loses_block L) = absurd (clash w.stopped stop L.runs.0)
    stopped_stays stop (drops quiet all D) = stays_as _ (D.view ∙ D.before.looked.view) refl refl
    stopped_stays stop (receives quiet R) = absurd (clash w.stopped stop R.runs.0)
    stopped_stays stop (sends quiet S) = absurd (clash w.stopped stop S.runs.0)
    stopped_stays stop (winds quiet W) = absurd (clash w.stopped stop W.runs.0)
    stopped_stays stop (dooms quiet D) = absurd (clash w.stopped stop (sym (ap (λ (z : Worker). z.stopped) (passes_is seat.place seat.number w D.ready D.before.looked.looks D.sending)) ∙ D.dooms.runs))
    stopped_stays stop (copies C) = absurd (clash w.stopped stop (sym (ap (λ (z : Worker). z.stopped) (passes_is seat.place seat.number w C.ready C.before.looked.looks C.sending)) ∙ C.runs))
    stopped_stays stop (loses_copies L) = absurd (clash w.stopped stop (sym (ap (λ (z : Worker). z.stopped) (passes_is seat.place seat.number w L.ready L.before.looked.looks L.sending)) ∙ L.runs))
    stopped_stays stop (clears C) = absurd (clash w.stopped stop (sym (ap (λ (z : Worker). z.stopped) (passes_is seat.place seat.number w C.ready C.before.looked.looks C.sending)) ∙ C.ends.runs))
    stopped_stays stop (loses_clearing L) = absurd (clash w.stopped stop (sym (ap (λ (z : Worker). z.stopped) (passes_is seat.place seat.number w L.ready L.before.looked.looks L.sending)) ∙ L.runs))
    stopped_stays stop (begins quiet B) = absurd (clash w.stopped stop (sym (ap (λ (z : Worker). z.stopped) (passes_is seat.place seat.number w B.ready B.before.looked.looks B.sending)) ∙ B.begins.runs.0))
    stopped_stays stop (locks quiet L) = (
      λ k d is. ap (λ (z : View). z.pending k) L.view ∙ ap (λ (z : View). z.pending k) L.before.looked.view ∙ is,
      ap (λ (z : View). z.flying) L.view ∙ ap (λ (z : View). z.flying) L.before.looked.view,
    )

    -- a core that runs has nothing in doubt
    no_doubt : w.stopped ≡ false → HasDoubt p m v → ⊥
    no_doubt runs D = clash w.stopped (doubt_stops p m v w H D.0 D.1 D.3) runs

    doubted_in : (y : View) → u ≡ y → y.pending ≡ v.pending → HasDoubt p m u → HasDoubt p m v
    doubted_in y e pending D = (D.0, D.1, D.2, ap (λ f. f D.0) (sym pending) ∙ ap (λ (z : View). z.pending D.0) (sym e) ∙ D.3)

    still : x.stopped ≡ w.stopped → w.stopped ≡ false → x.stopped ≡ true → ⊥
    still same runs stop = clash w.stopped (sym same ∙ stop) runs

    -- one that runs, and then has an own change in doubt
    now_rests : w.stopped ≡ false → x.stopped ≡ true → HasDoubt p m u → Did s t refused before seat (at_entry w v) (at_entry x u) → u.flying ≡ []
    now_rests runs stop D (goes_round quiet (inl C)) = absurd (still (ap (λ (z : Worker). z.stopped) C.same) runs stop)
    now_rests runs stop D (goes_round quiet (inr R)) = absurd (still (ap (λ (z : Worker). z.stopped) R.same) runs stop)
    now_rests runs stop D (withdraws quiet after all (inl W)) =
        absurd (still (ap (λ (z : Worker). z.stopped) W.rest ∙ ap (λ (z : Worker). z.stopped) W.puts.2.lets.rest ∙ ap (λ (z : Worker). z.stopped) W.retracts.leads_now) runs stop)
    now_rests runs stop D (withdraws quiet after all (inr U)) = absurd (still (ap (λ (z : Worker). z.stopped) U.1.same) runs stop)
    now_rests runs stop D (writes P) = by x.stopped P where
      by : (b : Bool) → PersistsOrLoses b seat.number (at_entry w v) (at_entry x u) → u.flying ≡ []
      by false P = absurd (still (ap (λ (z : Worker). z.stopped) P.same) runs stop)
      by true P = absurd (no_doubt runs (doubted_in v P.view refl D))
    now_rests runs stop D (marks quiet M) = absurd (still (ap (λ (z : Worker). z.stopped) M.same) runs stop)
    now_rests runs stop D (fails quiet F) = absurd (still (ap (λ (z : Worker). z.stopped) F.same) runs stop)
    now_rests runs stop D (finishes quiet all F) = (taken_back F.slot F.mid F.finishes.takes.home F.finishes.takes.entry (ap (λ (z : View). z.pending) F.before.looked.view) (ap (λ (z : View). z.flying) F.before.looked.view) F.finishes.takes.pending F.finishes.takes.view).1 ∙ idle_flies F.before.free runs
    now_rests runs stop D (posts P plain calm) = absurd (still (ap (λ (z : Worker). z.stopped) P.same) runs stop)
    now_rests runs stop D (loses_block L) = absurd (no_doubt runs (doubted_in _ (L.view ∙ L.before.looked.view) refl D))
    now_rests runs stop D (drops quiet all E) = absurd (clash w.stopped E.stopped runs)
    now_rests runs stop D (receives quiet R) = absurd (still (ap (λ (z : Worker). z.stopped) R.hears.same) runs stop)
    now_rests runs stop D (sends quiet S) = absurd (still (ap (λ (z : Worker). z.stopped) S.box.same ∙ ap (λ (z : Worker). z.stopped) S.readies.takes.same) runs stop)
    now_rests runs stop D (winds quiet W) = absurd (still (ap (λ (z : Worker). z.stopped) W.same ∙ ap (λ (z : Worker). z.stopped) W.takes.same) runs stop)
    now_rests runs stop D (dooms quiet E) = absurd (still (ap (λ (z : Worker). z.stopped) E.dooms.same ∙ ap (λ (z : Worker). z.stopped) (passes_is seat.place seat.number w E.ready E.before.looked.looks E.sending)) runs stop)
    now_rests runs stop D (copies C) = absurd (still (⊎_elim (λ K. ap (λ (z : Worker). z.stopped) K.0.same) (λ rest. ⊎_elim (λ L. ap (λ (z : Worker). z.stopped) L.0.same) (λ M. ap (λ (z : Worker). z.stopped) M.0.same ∙ ap (λ (z : Worker). z.stopped) M.0.copies.same) rest) C.copies ∙ ap (λ (z : Worker). z.stopped) (passes_is seat.place seat.number w C.ready C.before.looked.looks C.sending)) runs stop)
    now_rests runs stop D (loses_copies L) = absurd (no_doubt runs (doubted_in _ (L.view ∙ L.before.looked.view) refl D))
    now_rests runs stop D (clears C) = absurd (still (ap (λ (z : Worker). z.stopped) C.ends.same ∙ ap (λ (z : Worker). z.stopped) (passes_is seat.place seat.number w C.ready C.before.looked.looks C.sending)) runs stop)
    now_rests runs stop D (loses_clearing L) = absurd (no_doubt runs (doubted_in _ (L.view ∙ L.before.looked.view) refl D))
    now_rests runs stop D (begins quiet B) = absurd (still (ap (λ (z : Worker). z.stopped) B.begins.same ∙ ap (λ (z : Worker). z.stopped) (passes_is seat.place seat.number w B.ready B.before.looked.looks B.sending)) runs stop)
    now_rests runs stop D (locks quiet L) = absurd (still (ap (λ (z : Worker). z.stopped) L.same ∙ ap (λ (z : Worker). z.stopped) L.begins.looks.same ∙ ap (λ (z : Worker). z.stopped) (passes_is seat.place seat.number w L.ready L.before.looked.looks L.sending)) runs stop)

    turn_stays : (r : Result Turn Memory) → w.stopped ≡ true → TurnedTo r s t refused before seat (at_entry w v) (at_entry x u) → Stays
    turn_stays (Ok Moved) stop T = stopped_stays stop T
    turn_stays (Err e) stop T = stopped_stays stop T
    turn_stays (Ok Idle) stop T = elim T.1.lock [
      | inl none ↦ stays_as _ (none.1 ∙ T.1.before.looked.view) refl refl
      | inr found ↦ (
        λ k d is. ap (λ (z : View). z.pending k) found.1.2 ∙ ap (λ (z : View). z.pending k) T.1.before.looked.view ∙ is,
        ap (λ (z : View). z.flying) found.1.2 ∙ ap (λ (z : View). z.flying) T.1.before.looked.view,
      )
    ]

    turn_rests : (r : Result Turn Memory) → w.stopped ≡ false → x.stopped ≡ true → HasDoubt p m u → TurnedTo r s t refused before seat (at_entry w v) (at_entry x u) → u.flying ≡ []
    turn_rests (Ok Moved) runs stop D T = now_rests runs stop D T
    turn_rests (Err e) runs stop D T = now_rests runs stop D T
    turn_rests (Ok Idle) runs stop D T = absurd (still (ap (λ (z : Worker). z.stopped) T.1.same ∙ ap (λ (z : Worker). z.stopped) T.1.begins.looks.same ∙ ap (λ (z : Worker). z.stopped) (passes_is seat.place seat.number w T.1.ready T.1.before.looked.looks T.1.sending)) runs stop)

module _ (seat : SeatAt) (refused : Bool) where
  -- a core that has stopped for no call of its own
  abbrev pub Rested : WorkState → Type 0
  Rested a = a.worker.stopped ≡ true → HasDoubt seat.place seat.number a.view × (a.view.flying ≡ [])

  abbrev pub Because : WorkState → WorkState → Type 0
  Because a b = Rose a.region.faults b.region.faults ⊎ Rested b

  turn_because : (a b : WorkState) → IsAtWork seat a → Rested a → MakesTurn seat refused a b → Because a b
  turn_because a b at R T = by b.worker.stopped refl where
    was : (c : Bool) → a.worker.stopped ≡ c → b.worker.stopped ≡ true → Because a b
    was true stop now =
        let S = turn_stays seat.place seat.number a.view b.view a.worker b.worker at.member.holds at.member.order a.region b.region refused T.before seat refl refl T.result stop T.turned in
        let old = R stop in
        inr (λ q. ((old.0.0, old.0.1, old.0.2, S.0 old.0.0 old.0.1 old.0.3), S.1 ∙ old.1))
    was false runs now = elim (T.moves.moves.stops now) [
      | inl stop ↦ absurd (clash a.worker.stopped stop runs)
      | inr (inl rose) ↦ inl rose
      | inr (inr doubt) ↦ inr (λ q. (doubt.0, turn_rests seat.place seat.number a.view b.view a.worker b.worker at.member.holds at.member.order a.region b.region refused T.before seat refl refl T.result runs now doubt.0 T.turned))
    ]

    by : (c : Bool) → b.worker.stopped ≡ c → Because a b
    by true now = was a.worker.stopped refl now
    by false now = inr (λ q. absurd (clash b.worker.stopped q now))

  accept_because : (a b : WorkState) → IsAtWork seat a → Rested a → TakesNext seat a b → Because a b
  accept_because a b at R A = by b.worker.stopped refl where
    view_of_b : Rested a → a.worker.stopped ≡ true → HasDoubt seat.place seat.number b.view × (b.view.flying ≡ [])
    view_of_b R stop = subst (λ (v : View). HasDoubt seat.place seat.number v × (v.flying ≡ [])) (sym A.view) (R stop)

    from : b.worker.stopped ≡ true → Because a b
    from now = elim ((A.call.moves None).stops now) [
      | inl stop ↦ inr (λ q. view_of_b R stop)
      | inr (inl rose) ↦ inl (subst (λ (s : State). Rose a.region.faults s.faults) (sym A.region) rose)
      | inr (inr doubt) ↦ inr (λ q. view_of_b R (doubt_stops seat.place seat.number a.view a.worker at.member.holds doubt.0.0 doubt.0.1 doubt.0.3))
    ]

    by : (c : Bool) → b.worker.stopped ≡ c → Because a b
    by true now = from now
    by false now = inr (λ q. absurd (clash b.worker.stopped q now))

  move_because : (a b : WorkState) → IsAtWork seat a → Rested a → Move seat refused a b → Because a b
  move_because a b at R (accepts A) = accept_because a b at R A
  move_because a b at R (turns T) = turn_because a b at R T
  move_because a b at R (winds_down e) = inr (subst Rested (sym e) R)
  move_because a b at R (joins more e) = inr (subst Rested (sym e) R)
  move_because a b at R (hands_over none empty e) = inr (subst Rested (sym e) R)

  -- the count of faults doesn't fall
  move_faults : (a b : WorkState) → Move seat refused a b → a.region.faults ≤ b.region.faults
  move_faults a b (accepts A) = let same = ap (λ (s : State). s.faults) A.region in omega (arith, same)
  move_faults a b (turns T) = T.moves.moves.outside.faults
  move_faults a b (winds_down e) = let same = ap (λ (z : WorkState). z.region.faults) e in omega (arith, same)
  move_faults a b (joins more e) = let same = ap (λ (z : WorkState). z.region.faults) e in omega (arith, same)
  move_faults a b (hands_over none empty e) = let same = ap (λ (z : WorkState). z.region.faults) e in omega (arith, same)

  pub chain_faults : (a : WorkState) (xs : List WorkState) (b : WorkState) → Leads seat refused a xs b → a.region.faults ≤ b.region.faults
  chain_faults a [] b e = let same = ap (λ (z : WorkState). z.region.faults) e in omega (arith, same)
  chain_faults a (x ∷ xs) b l = (let one = move_faults a x l.0 in let rest = chain_faults x xs b l.2 in omega (arith, one, rest))

  -- no call changes the frame
  move_frame : (a b : WorkState) → Move seat refused a b → b.region.frame ≡ a.region.frame
  move_frame a b (accepts A) = ap (λ (s : State). s.frame) A.region
  move_frame a b (turns T) = T.moves.moves.outside.frame
  move_frame a b (winds_down e) = ap (λ (z : WorkState). z.region.frame) e
  move_frame a b (joins more e) = ap (λ (z : WorkState). z.region.frame) e
  move_frame a b (hands_over none empty e) = ap (λ (z : WorkState). z.region.frame) e

  pub chain_frame : (a : WorkState) (xs : List WorkState) (b : WorkState) → Leads seat refused a xs b → b.region.frame ≡ a.region.frame
  chain_frame a [] b e = ap (λ (z : WorkState). z.region.frame) e
  chain_frame a (x ∷ xs) b l = chain_frame x xs b l.2 ∙ move_frame a x l.0

  pub chain_because : (a : WorkState) (xs : List WorkState) (b : WorkState) → IsAtWork seat a → Rested a → Leads seat refused a xs b → Because a b
  chain_because a [] b at R e = inr (subst Rested (sym e) R)
  chain_because a (x ∷ xs) b at R l = elim (move_because a x at R l.0) [
    | inl rose ↦ inl (let rest = chain_faults x xs b l.2 in omega (arith, rose, rest))
    | inr S ↦ elim (chain_because x xs b l.1 S l.2) [
      | inl rose ↦ inl (let one = move_faults a x l.0 in omega (arith, one, rose))
      | inr T ↦ inr T
    ]
  ]

  -- At the end of a chain of a core that ran: a call of its piece failed, or nothing is in flight, and if it has stopped an own change is in doubt.
  pub ended_because : (a b : WorkState) → IsAtWork seat a → a.worker.stopped ≡ false → (W : Works seat refused a b) → IsAtWork seat b → HasEnded b
      → Rose a.region.faults b.region.faults ⊎ ((b.view.flying ≡ []) × (b.worker.stopped ≡ true → HasDoubt seat.place seat.number b.view))
  ended_because a b at runs W bt E = elim (chain_because a W.path b at (λ stop. absurd (clash a.worker.stopped stop runs)) W.leads) [
    | inl rose ↦ inl rose
    | inr R ↦ inr (by b.worker.stopped refl R, λ stop. (R stop).0)
  ] where
    X : HasRested seat b
    X = has_rested seat b bt E

    by : (c : Bool) → b.worker.stopped ≡ c → Rested b → b.view.flying ≡ []
    by true stop R = (R stop).1
    by false going R = X.flying (broken b.view.broken refl) where
      broken : (c : Bool) → b.view.broken ≡ c → b.view.broken ≡ false
      broken false e = e
      broken true e = absurd (clash b.worker.stopped (X.broken e) going)

-- what a chain's last state tells of its first moment is what it had then
module _ (seat : SeatAt) (refused : Bool) where
  abbrev Tells : State → State → Type 0
  Tells a b = a.stamp ≤ b.stamp × ((t : ℕ) → t ≤ a.stamp → IsTold b t → a.frame.since ≤ t → IsTold a t × ((w : ℕ) → b.cells t w ≡ a.cells t w))

  during_tells : (a b : State) (Q : (ℕ → Cell) → Type 0) → During a b Q → Tells a b
  during_tells a b Q D = (D.later, λ t low told since. by t low told (cases_lt t a.stamp)) where
    by : (t : ℕ) → t ≤ a.stamp → IsTold b t → (t < a.stamp) ⊎ (a.stamp ≤ t) → IsTold a t × ((w : ℕ) → b.cells t w ≡ a.cells t w)
    by t low told (inl less) = (let was = D.only t told less in (was, λ w. D.same t w was))
    by t low told (inr more) =
        let is : a.stamp ≡ t = omega (arith, low, more) in
        let was : IsTold a t = subst (IsTold a) is (D.was t told more) in
        (was, λ w. D.same t w was)

  same_tells : (a b : State) → b ≡ a → Tells a b
  same_tells a b e = subst (Tells a) (sym e) (omega arith, λ t low told since. (told, λ w. refl))

  move_tells : (a b : WorkState) → Move seat refused a b → Tells a.region b.region
  move_tells a b (accepts A) = same_tells a.region b.region A.region
  move_tells a b (turns T) = during_tells a.region b.region _ T.moves.moves.outside
  move_tells a b (winds_down e) = same_tells a.region b.region (ap (λ (z : WorkState). z.region) e)
  move_tells a b (joins more e) = same_tells a.region b.region (ap (λ (z : WorkState). z.region) e)
  move_tells a b (hands_over none empty e) = same_tells a.region b.region (ap (λ (z : WorkState). z.region) e)

  pub chain_tells : (a : WorkState) (xs : List WorkState) (b : WorkState) → Leads seat refused a xs b → Tells a.region b.region
  chain_tells a [] b e = same_tells a.region b.region (ap (λ (z : WorkState). z.region) e)
  chain_tells a (x ∷ xs) b l =
      let one = move_tells a x l.0 in
      let rest = chain_tells x xs b l.2 in
      let first = one.0 in
      let second = rest.0 in (
        omega (arith, first, second),
        λ t low told since. (let frame = ap (λ (f : Frame). f.since) (move_frame seat refused a x l.0) in let mid = rest.1 t (omega (arith, low, first)) told (omega (arith, since, frame)) in let old = one.1 t low mid.0 since in (old.0, λ w. mid.1 w ∙ old.1 w)),
      )
