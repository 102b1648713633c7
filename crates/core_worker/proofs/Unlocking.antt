-- The leader of a stopped core gives the lock back: it leads nothing.
use Rattle.std.proofs.Common.{◌≡◌, inl, ℕ, true, false, [], ◌∷◌, ◌++◌, Option, None, refl, sym, ◌∙◌, ap, subst}
use Rattle.group_laws.specs.State.{Group}
use Rattle.group_laws.specs.Runs as runs
use Rattle.group_laws.specs.Places.{Place}
use Rattle.group_laws.specs.MemberViews.{View}
use Rattle.group_board.specs.Seats.{SeatAt}
use Rattle.group_board.specs.Views.{after_unlock}
use Rattle.group_board.specs.Told.{Makes}
use Rattle.batch_leader.specs.Leading.{FindsNone, SawNonePosted, IsReleased, taken_by, looks_upto}
use Rattle.batch_leader.specs.declared.states.Collecting.{Collecting}
use Rattle.batch_leader.specs.declared.states.Released.{Released}
use Rattle.batch_leader.specs.declared.states.Released.TheVariants as released
use Rattle.batch_leader.specs.declared.changes.Changes.{Changes}
use Rattle.batch_leader.specs.declared.batch_buffer.BatchBuffer.{BatchBuffer}
use Rattle.batch_leader.proofs.Clients.{makes_then}
use Rattle.core_worker.specs.declared.types.Leading.{Leading}
use Rattle.core_worker.specs.declared.types.Leading.TheVariants as leads
use Rattle.core_worker.specs.declared.worker.Worker.{Worker}
use Rattle.core_worker.specs.Order.{InOrder, MayLeadStopped}
use Rattle.core_worker.specs.Ties.{HoldsAt, LeadsAt, KeepsFlight, in_flight, is_lost}
use Rattle.core_worker.specs.Turns.{InOrderAt, led_by}
use Rattle.core_worker.specs.Stopping.{Unlocks}
use Rattle.core_worker.proofs.CleaningKept.{stopped_none}
use Rattle.core_worker.proofs.Flight.{led_on, stopped_flies}
use Rattle.core_worker.proofs.LeadTies.{leads_of}
use Rattle.core_worker.proofs.Led.{holds_by, stands_by}
use Rattle.core_worker.proofs.Made.{one_step, and_then, looks_of, steps_made}

-- a lead with nothing taken becomes no batch
led_none : (seat : SeatAt) (u : View) (c : Collecting) (r : Released) → IsReleased seat u c r → taken_by c ≡ [] → (b : BatchBuffer) × (led_by r ≡ leads.Nothing b) × (((a s : ℕ) → u.taken a s ≡ None) × (u.broken ≡ false → u.flying ≡ []))
led_none seat u c (released.Batch b) is idle = absurd (b.some (ap (λ (x : Changes). x.taken.items) is.1 ∙ idle))
led_none seat u c (released.Nothing b) is idle = (b, refl, (is.2, is.1))

-- only the lock is given back
order_unlocked : (p : Place) (m : ℕ) (v : View) (w : Worker) (l : Leading) → InOrder p m v w → MayLeadStopped l → InOrder p m (record v { holds = false; looked = [] }) (record w { leading = l })
order_unlocked p m v w l O may = record {
  owned = O.owned;
  single = O.single;
  distinct = O.distinct;
  heard = O.heard;
  told = O.told;
  versions = O.versions;
  mine = O.mine;
  next = O.next;
  spelled = O.spelled;
  recalls = O.recalls;
  agrees = O.agrees;
  log = O.log;
  names = O.names;
  answers = O.answers;
  hand = O.hand;
  stops = λ s. may;
}

pub unlocks : (seat : SeatAt) (before middle after : Option Group) (v mid u : View) (w : Worker) (old new : Collecting) (r : Released) (l : Leading) → HoldsAt seat v w → InOrderAt seat v w → w.stopped ≡ true → w.leading ≡ leads.Collecting old → FindsNone before middle seat.number v mid → SawNonePosted seat.number v mid 8 → taken_by new ≡ []
    → u ≡ after_unlock mid → IsReleased seat u new r → l ≡ led_by r → Makes middle seat.number runs.Kind.Unlock after u → Unlocks seat before after v u w (record w { leading = l })
unlocks seat before middle after v mid u w old new r l H O stopped led found seen idle view released led_is made =
    let p = seat.place in
    let m = seat.number in
    let none = led_none seat u new r released idle in
    let nothing : l ≡ leads.Nothing none.0 = led_is ∙ none.1 in
    let sees : u ≡ record v { holds = false; looked = [] } = view ∙ ap after_unlock found.view.1 in
    let free : u.holds ≡ false = ap (λ (x : View). x.holds) sees in
    let leading : LeadsAt seat u l = subst (LeadsAt seat u) (sym nothing) (free, none.2.0, none.2.1) in
    let xs = looks_upto m 0 8 in
    record {
      holds = holds_by p m v u w v.flying v.taken false [] v.took l sees H (leads_of seat u l leading) (inl (stopped_none w stopped)) (λ runs. absurd (let both : true ≡ false = sym stopped ∙ runs in cc both)) (λ lost. absurd (let both : true ≡ false = sym lost ∙ ap is_lost nothing in cc both))
          (subst (λ (x : View). KeepsFlight x.flying x.broken l w.lost_batch w.stopped) (sym sees) (led_on v.flying v.broken w.leading w.lost_batch w.stopped H.flight l (ap in_flight nothing ∙ sym (stopped_flies w.leading (O.stops stopped))) (ap is_lost led)));
      stands = λ s S. stands_by s p m v u w v.taken false [] v.took l sees S;
      order = subst (λ (x : View). InOrder p m x (record w { leading = l })) (sym sees) (order_unlocked p m v w l O (subst MayLeadStopped (sym nothing) tt));
      mid = mid;
      middle = middle;
      found = found;
      seen = seen;
      view = view;
      made = steps_made before after m u (xs ++ (m, runs.Kind.Unlock) ∷ []) (and_then m xs runs.Kind.Unlock (looks_of m 0 8)) (makes_then before middle after xs ((m, runs.Kind.Unlock) ∷ []) m mid u found.made (one_step middle after m runs.Kind.Unlock u made));
      leads_now = (none.0, nothing);
      same = refl;
    }
