-- A withdrawn change of a stopped core is put away, and what waits of its key is begun.
use Rattle.std.proofs.Common.{◌≡◌, inl, ◌+◌, true, [], ◌∷◌, ◌++◌, Result, Ok, Err, OnOk, OnErr, Option, Some, refl, sym, ◌∙◌, ap, subst}
use Rattle.std.specs.Prelude.{is_ok, IfSome}
use Rattle.pm_region.specs.State.{State}
use Rattle.group_board.specs.declared.change.Change.{Change}
use Rattle.core_index.specs.Records.{pointer_of}
use Rattle.lazy_alloc.specs.Sets.{block_is_used}
use Rattle.group_laws.specs.State.{Group}
use Rattle.group_laws.specs.Runs as runs
use Rattle.group_laws.specs.MemberViews.{View}
use Rattle.group_board.specs.Seats.{SeatAt}
use Rattle.batch_leader.specs.Leading.{looks_upto}
use Rattle.batch_leader.specs.declared.states.Collecting.{Collecting}
use Rattle.core_worker.specs.declared.types.Leading.TheVariants as leads
use Rattle.core_worker.specs.declared.worker.Worker.{Worker}
use Rattle.core_worker.specs.OwnPlaces.{place_at, key_in, is_busy}
use Rattle.core_worker.specs.Refusals.{HasAnswerRoom}
use Rattle.core_worker.specs.Ties.{HoldsAt, StandsAt, Tie, is_lost}
use Rattle.core_worker.specs.Turns.{InOrderAt, Steps}
use Rattle.core_worker.specs.Serving.{OnlyServes}
use Rattle.core_worker.specs.Finishing.{IsFreed, IsToServe, ServesByEachView, ServesShort}
use Rattle.core_worker.specs.Stopping.{PutsAwayKey, Retracts, WithdrawsOrUnlocks}
use Rattle.core_worker.proofs.Posts.{busy_by}
use Rattle.core_worker.proofs.LeadTies.{leads_of}
use Rattle.core_worker.proofs.Made.{and_then, looks_of, steps_made}
use Rattle.core_worker.proofs.Served.{to_serve}
use Rattle.core_worker.proofs.TakingBack.{stood, one_room}
use Rattle.core_worker.proofs.Withdrawing.{pending_used, withdrawn_away}

module _ (seat : SeatAt) (before after : Option Group) (v u : View) (w mid : Worker) (change : Change) (H : HoldsAt seat v w) (O : InOrderAt seat v w) (stopped : w.stopped ≡ true) (led : (c : Collecting) × (w.leading ≡ leads.Collecting c)) (R : Retracts seat before after v u w mid change) where
  key_there : key_in (place_at w.places.items R.back.slot) ≡ Some change.entry.key
  key_there = ap key_in (stood seat.place seat.number v w H R.back.slot change.entry R.back.pending).place

  pub retracted_busy : is_busy mid.places.items change.entry.key ≡ true
  retracted_busy = ap (λ (z : Worker). is_busy z.places.items change.entry.key) R.leads_now ∙ busy_by w.places.items change.entry.key R.back.slot key_there

  pub retracted_room : HasAnswerRoom 1 mid
  retracted_room = subst (λ (z : Worker). HasAnswerRoom 1 z) (sym R.leads_now) (one_room seat.place seat.number v w R.back.slot change.entry.key O key_there)

  pub retracted_used : IfSome (pointer_of change.entry.body) (λ q. block_is_used mid.allocator q ≡ true)
  retracted_used = subst (λ (z : Worker). IfSome (pointer_of change.entry.body) (λ q. block_is_used z.allocator q ≡ true)) (sym R.leads_now) (pending_used seat.place seat.number v w H O stopped R.back.slot change.entry R.back.pending)

  pub retracted_freed : (x : Worker) → PutsAwayKey mid x change.entry.key (pointer_of change.entry.body) → IsFreed seat.place seat.number v u w x change.entry.key
  retracted_freed x P =
      let Q = subst (λ (z : Worker). PutsAwayKey z x change.entry.key (pointer_of change.entry.body)) R.leads_now P in
      withdrawn_away seat.place seat.number v u w x R.back.slot Q.0 change.entry (leads.Collecting R.collecting) H O stopped R.back.pending R.back.view (leads_of seat u (leads.Collecting R.collecting) R.collects) refl (ap is_lost led.1) R.idle Q.1 Q.2

  pub retracted_made : Steps before after seat.number u
  retracted_made =
      let m = seat.number in
      let xs = looks_upto m 0 (R.back.slot + 1) in
      steps_made before after m u (xs ++ (m, runs.Kind.Withdraw R.back.slot) ∷ []) (and_then m xs (runs.Kind.Withdraw R.back.slot) (looks_of m 0 (R.back.slot + 1))) R.back.made

  module _ (s : State) (S : StandsAt s seat v w) (x : Worker) (P : PutsAwayKey mid x change.entry.key (pointer_of change.entry.body)) where
    abbrev sight : Tie
    sight = record { place = seat.place; number = seat.number; view = u }

    pub retracted_serves : IsToServe s x change.entry.key (record { place = seat.place; number = seat.number; view = u })
    retracted_serves = to_serve s seat.place seat.number 0 change.entry.key v u w x x S (retracted_freed x P)

    pub withdraws_slot : {X Y : Type 0} (r : Result X Y) (y : Worker) → OnlyServes x y → OnOk r (ServesByEachView s x y change.entry.key) → OnErr r (ServesShort s x y change.entry.key) → WithdrawsOrUnlocks s seat before after v u w y (is_ok r)
    withdraws_slot (Ok z) y rest begins short = inl (record { stopped = stopped; change = change; mid = mid; retracts = R; freed = x; puts = P; rest = rest; begins = λ all. begins (record { place = seat.place; number = seat.number; view = u }) retracted_serves; short = λ none. absurd (cc none) })
    withdraws_slot (Err z) y rest begins short = inl (record { stopped = stopped; change = change; mid = mid; retracts = R; freed = x; puts = P; rest = rest; begins = λ all. absurd (cc all); short = λ none. short (record { place = seat.place; number = seat.number; view = u }) retracted_serves })
