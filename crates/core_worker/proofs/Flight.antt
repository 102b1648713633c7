-- What is in flight of a core: laws of the ties on it.
use Rattle.std.proofs.Common.{◌≡◌, ◌⊎◌, ⊎_elim, inl, Bool, true, false, List, [], refl, sym, ◌∙◌, ap}
use Rattle.log_entry.specs.declared.entry.Entry.{Entry}
use Rattle.group_laws.specs.MemberViews.{View}
use Rattle.group_board.specs.Seats.{SeatAt}
use Rattle.batch_leader.specs.TakenChanges.{entries_taken}
use Rattle.core_worker.specs.declared.types.Leading.{Leading}
use Rattle.core_worker.specs.declared.types.Leading.TheVariants as leads
use Rattle.core_worker.specs.Order.{MayLeadStopped}
use Rattle.core_worker.specs.Ties.{KeepsFlight, LeadsAt, in_flight, is_lost}

clash : (b : Bool) → b ≡ true → b ≡ false → (X : Type 0) → X
clash b is off X = absurd (let both : true ≡ false = sym is ∙ off in cc both)

module _ (flying : List Entry) (broken : Bool) (l : Leading) (lost stopped : Bool) (F : KeepsFlight flying broken l lost stopped) where
  -- a core that runs lost no batch
  pub runs_unlost : stopped ≡ false → lost ≡ false
  runs_unlost runs = by lost refl where
    by : (b : Bool) → lost ≡ b → lost ≡ false
    by false e = e
    by true e = clash stopped (F.stops e) runs (lost ≡ false)

  -- what is led goes on, with nothing more in flight
  pub led_on : (next : Leading) → in_flight next ≡ in_flight l → is_lost l ≡ false → KeepsFlight flying broken next lost stopped
  led_on next same held = record {
    led = λ off. F.led off ∙ sym same;
    stops = F.stops;
    fails = λ on. ⊎_elim (λ b. inl b) (λ is. clash (is_lost l) is held ((broken ≡ true) ⊎ (is_lost next ≡ true))) (F.fails on);
  }

  -- a change of a lost batch was given back as failed
  pub failed_on : (next : Leading) → in_flight next ≡ in_flight l → stopped ≡ true → KeepsFlight flying true next lost stopped
  failed_on next same stop = record { led = λ off. F.led off ∙ sym same; stops = λ on. stop; fails = λ on. inl refl }

  -- it stops
  pub stops_here : KeepsFlight flying broken l lost true
  stops_here = record { led = F.led; stops = λ on. refl; fails = F.fails }

-- a core that lost no batch has in flight what it leads
pub unlost_keeps : (flying : List Entry) (broken : Bool) (l : Leading) (lost stopped : Bool) → lost ≡ false → flying ≡ in_flight l → KeepsFlight flying broken l lost stopped
unlost_keeps flying broken l lost stopped off is = record {
  led = λ same. is;
  stops = λ on. clash lost on off (stopped ≡ true);
  fails = λ on. clash lost on off ((broken ≡ true) ⊎ (is_lost l ≡ true));
}

-- what a whole core leads is in flight, unless it is lost
pub led_flies : (seat : SeatAt) (u : View) (l : Leading) → LeadsAt seat u l → u.broken ≡ false → is_lost l ≡ false → u.flying ≡ in_flight l
led_flies seat u (leads.Nothing b) L whole held = L.2 whole
led_flies seat u (leads.Collecting c) L whole held = L.flying whole
led_flies seat u (leads.Batch b) L whole held = L.0.flying
led_flies seat u (leads.Persisted x) L whole held = L.2 whole
led_flies seat u (leads.Failed x) L whole held = absurd (cc held)
led_flies seat u leads.Between L whole held = absurd L

-- a stopped core has nothing in flight of what it leads
pub stopped_flies : (l : Leading) → MayLeadStopped l → in_flight l ≡ []
stopped_flies (leads.Nothing b) may = refl
stopped_flies (leads.Collecting c) may = ap entries_taken may
stopped_flies (leads.Batch b) may = absurd may
stopped_flies (leads.Persisted x) may = absurd may
stopped_flies (leads.Failed x) may = refl
stopped_flies leads.Between may = absurd may
