-- The turn that dooms names: what it finds, what it keeps, and that less is left to do.
use Rattle.std.proofs.Common.{◌≡◌, inl, inr, ⊎_elim, ℕ, ◌≤◌, ◌<◌, Bool, true, false, List, [], length, Option, Some, sym, ◌∙◌, ap, subst, arith}
use Rattle.std.specs.Prelude.{is_some, vec_capacity}
use Rattle.pm_region.specs.State.{State, IsTelling}
use Rattle.pm_region.proofs.Clients.{all_kept, started}
use Rattle.log_entry.specs.declared.entry.EntryName.{EntryName}
use Rattle.core_log.specs.Log.{StandsIn, tail_of, room_of}
use Rattle.core_log.specs.Walking.{entries_in}
use Rattle.core_room.specs.RoomRule.{KeepsRoom}
use Rattle.log_standing.specs.NameCounts.{is_told}
use Rattle.lazy_alloc.specs.Sets.{free_chunk_count, free_block_count}
use Rattle.log_cleaner.specs.Clearing.{ClearingState, IsFresh, AreLone, AreNoted, IsGathered}
use Rattle.log_cleaner.specs.declared.types.Victim.{Victim}
use Rattle.group_laws.specs.State.{Group}
use Rattle.group_laws.specs.Runs.{Kind}
use Rattle.group_laws.specs.Places.{Place}
use Rattle.group_laws.specs.MemberViews.{View}
use Rattle.group_board.specs.Seats.{SeatAt}
use Rattle.group_board.specs.Told.{Makes}
use Rattle.group_board.specs.Views.{after_doom}
use Rattle.licence.specs.Licence.{Licensed, part_at, part_end}
use Rattle.core_worker.specs.declared.types.Cleaning.{Cleaning}
use Rattle.core_worker.specs.declared.types.Cleaning.TheVariants.{Copying, Doomed}
use Rattle.core_worker.specs.declared.types.Leading.TheVariants as leads
use Rattle.core_worker.specs.declared.worker.Worker.{Worker}
use Rattle.core_worker.specs.CleaningLeft.{clears_left}
use Rattle.core_worker.specs.DoomsNames.{DoomsIn}
use Rattle.core_worker.specs.Left.{serves_left, left, Lowers}
use Rattle.core_worker.specs.KeepsCleaning.{IsBegun, Cleans}
use Rattle.core_worker.specs.LogNames.{AreOwnOf, CopiesIn}
use Rattle.core_worker.specs.Order.{InOrder}
use Rattle.core_worker.specs.OwnPlaces.{own}
use Rattle.core_worker.specs.Supplies.{supply_of, under_way, rest, KeepsRule, HasKeptRoom, counted_by, left_in}
use Rattle.core_worker.specs.Ties.{LeadsAt, Holds, Stands, HoldsAt, StandsAt}
use Rattle.core_worker.specs.Turning.{KeepsTurn}
use Rattle.core_worker.specs.Turns.{InOrderAt, Steps}
use Rattle.core_worker.specs.WorkerMoves.{lines_in, lines_free, placed_for, stock_of}
use Rattle.core_worker.proofs.ClearsLeft as clears
use Rattle.core_worker.proofs.CleaningKept.{runs_way}
use Rattle.core_worker.proofs.DoomedHolds as doomed
use Rattle.core_worker.proofs.Led.{runs_whole}
use Rattle.core_worker.proofs.LeftItems.{IsLawful, lowers_step}
use Rattle.core_worker.proofs.LeftSteps.{dooms_way}
use Rattle.core_worker.proofs.QuietMoves.{quiet_moves}
use Rattle.core_worker.proofs.StockFacts.{still_spend, stock_small}
use Rattle.core_worker.proofs.TurnLaws.{nothing_fixed}

-- what a turn finds that dooms
module _ (s : State) (p : Place) (m : ℕ) (v : View) (w : Worker) (H : Holds p m v w) (S : Stands s p m v w) (O : InOrder p m v w) (victim : Victim) (d : (first : Bool) × (under_way w ≡ Copying victim first) × (victim.entries ≡ 0)) where
  pub cleans : Cleans p m v.doomed v.dead w.stopped w.winds_down w.leading w.log w.allocator w.standing w.clearing w.own_gone w.notices.items w.cleaning
  cleans = doomed.cleans p m v w H victim d.0 d.1

  begun : IsBegun w.log cleans.now victim d.0
  unfolding cleans
  begun = doomed.begun p m v w H victim d.0 d.1

  pub stands : StandsIn s w.log
  stands = S.log cleans.runs

  pub told : (k n : ℕ) → is_told w.standing k n ≡ true → v.dead k n ≡ true
  told = (O.log cleans.runs cleans.works).deaths

  pub flying : v.flying ≡ []
  flying = (let had : LeadsAt H.leads.seat v (leads.Nothing cleans.idle.0) = subst (LeadsAt H.leads.seat v) cleans.idle.1 H.leads.at in had.2 (runs_whole p m v w H cleans.runs))

  -- of the clearing in hand
  module _ (c : ClearingState) (is : w.clearing ≡ Some c) where
    now_is : cleans.now ≡ c
    now_is = let both : Some cleans.now ≡ Some c = sym cleans.is ∙ is in cc both

    begun_now : IsBegun w.log c victim d.0
    begun_now = subst (λ (y : ClearingState). IsBegun w.log y victim d.0) now_is begun

    pub has_chunk : is_some (tail_of w.log.chunks c.chunk) ≡ true
    has_chunk = subst (λ (y : ClearingState). is_some (tail_of w.log.chunks y.chunk) ≡ true) now_is cleans.chunk

    pub fresh : IsFresh c
    fresh = begun_now.fresh

    pub places : c.room ≤ vec_capacity w.own_gone
    unfolding cleans
    places = subst (λ (y : ClearingState). y.room ≤ vec_capacity w.own_gone) now_is (doomed.room_here p m v w H victim d.0 d.1)

    pub room : IsTelling s → length (entries_in s w.log c.chunk) ≤ c.room
    room telling = subst (λ (j : ℕ). length (entries_in s w.log j) ≤ c.room) (sym begun_now.chunk) (had.room c is) where
      had : CopiesIn s w.log w.standing victim w.clearing
      had = doomed.copies_in p m v w H victim d.0 d.1 s (S.names cleans.runs cleans.works telling).cleaned

    pub dooms_in : (u : View) (x : Worker) (now : ClearingState) → x.clearing ≡ Some now → now.chunk ≡ c.chunk → AreLone w.standing now.doomed → AreNoted now → length now.doomed ≤ c.room → vec_capacity w.own_gone ≤ vec_capacity x.own_gone → (IsTelling s → IsGathered w.standing (entries_in s w.log c.chunk) now)
        → AreOwnOf p m now.doomed x.own_gone.items → u ≡ after_doom now.doomed v → x ≡ record w { cleaning = Doomed victim.chunk; clearing = x.clearing; own_gone = x.own_gone } → DoomsIn s p m v u w x
    dooms_in u x now has chunk lone noted few capacity gathered own view same = record {
      runs = cleans.runs;
      works = cleans.works;
      idle = cleans.idle;
      victim = victim;
      first = d.0;
      way = d.1;
      copied = d.2;
      old = c;
      was = is;
      now = now;
      is = has;
      chunk = chunk ∙ begun_now.chunk;
      lone = lone;
      noted = noted;
      few = few;
      gathered = λ telling. subst (λ (j : ℕ). IsGathered w.standing (entries_in s w.log j) now) (sym chunk) (gathered telling);
      own = own;
      places = capacity;
      view = view;
      same = same;
    }

module _ (s : State) (p : Place) (m : ℕ) (v u : View) (w x : Worker) (H : Holds p m v w) (O : InOrder p m v w) (D : DoomsIn s p m v u w x) where
  way_now : under_way x ≡ Doomed D.victim.chunk
  way_now = runs_way x (ap (λ (y : Worker). y.stopped) D.same ∙ D.runs) (ap (λ (y : Worker). y.winds_down) D.same ∙ D.works) ∙ ap (counted_by (left_in x.standing)) (ap (λ (y : Worker). y.cleaning) D.same)

  pub doomed_room : HasKeptRoom w → HasKeptRoom x
  doomed_room had = subst (λ (c : Cleaning). KeepsRule c (supply_of x)) (sym way_now) (by D.first (subst (λ (c : Cleaning). KeepsRule c (supply_of w)) D.way had)) where
    pledges : own x.places.items ≡ own w.places.items
    pledges = ap (λ (y : Worker). own y.places.items) D.same

    lines : room_of x.log ≡ room_of w.log
    lines = ap (λ (y : Worker). room_of y.log) D.same

    chunks : free_chunk_count x.allocator ≡ free_chunk_count w.allocator
    chunks = ap (λ (y : Worker). free_chunk_count y.allocator) D.same

    rests : rest (under_way x) ≡ 0
    rests = ap rest way_now

    fits : KeepsRoom (supply_of w) → KeepsRoom (supply_of x)
    fits k = ⊎_elim (λ a. inl (omega (arith, a, pledges, rests, lines))) (λ two. inr (omega (arith, two, chunks))) k

    by : (b : Bool) → KeepsRule (Copying D.victim b) (supply_of w) → KeepsRoom (supply_of x)
    by true k = ⊎_elim fits (λ r. inl (let low = r.0 in omega (arith, low, pledges, rests, lines))) k
    by false k = fits k

  pub doomed_less : left x < left w
  doomed_less =
      let same = ap serves_left D.same in
      let kept = ap (λ (y : Worker). clears_left y.accepted y.cleaning y.standing y.index y.notices.items) D.same in
      let raw = doomed.raw p m v w H D.victim D.first D.way in
      let was = ap (λ (c : Cleaning). clears_left w.accepted c w.standing w.index w.notices.items) raw.is in
      let less = clears.dooms w.accepted D.first w.standing w.index w.notices.items raw.victim D.victim.chunk in
      omega (arith, same, kept, was, less)

pub doomed_lower : (before after : Option Group) (m : ℕ) (ns : List EntryName) (u : View) (w x : Worker) → Makes before m (Kind.Doom ns) after u → IsLawful before → left x < left w → Lowers before after w x
doomed_lower before after m ns u w x made lawful less = lowers_step before after m (Kind.Doom ns) u w x made lawful (λ a b L step. let way = dooms_way a b m ns step.1 in omega (arith, way, less))

-- The doom keeps what a turn keeps.
pub keeps_doomed : (seat : SeatAt) (s : State) (before after : Option Group) (v u : View) (w x : Worker) → HoldsAt seat v w → StandsAt s seat v w → InOrderAt seat v w → DoomsIn s seat.place seat.number v u w x → Steps before after seat.number u → KeepsTurn seat s s before after v u w x
keeps_doomed seat s before after v u w x H S O D made =
    let N = doomed.doomed_holds s seat.place seat.number v u w x H O D in
    let R = doomed.doomed_stands s seat.place seat.number v u w x H O D S in
    let view = D.view in
    record {
      moments = started s (Licensed seat.place seat.number v) S.licensed;
      outside = all_kept s (part_at seat.place seat.number) (part_end seat.place seat.number);
      holds = N;
      stands = R;
      order = doomed.doomed_order s seat.place seat.number v u w x H O D;
      rule = λ r had. doomed_room s seat.place seat.number v u w x H O D had;
      moves = nothing_fixed seat s s before after v u w x (ap (λ (y : Worker). y.answers) D.same)
          (quiet_moves seat.place seat.number s s before after v u w x N (all_kept s (part_at seat.place seat.number) (part_end seat.place seat.number)) (started s (Licensed seat.place seat.number v) S.licensed) R.licensed made
          (ap (λ (y : View). y.cell) view) (ap (λ (y : View). y.pending) view) (ap (λ (y : View). y.blocks) view) (ap (λ (y : View). y.last) view) (ap (λ (y : View). y.posted) view)
          (λ on. still_spend seat.place.layout v.took v.flying u.took u.flying (stock_of w) (stock_of x) (record { chunks = (let e = ap (λ (y : Worker). free_chunk_count y.allocator) D.same in omega (arith, e)); lines = omega arith; blocks = λ c. (let e = ap (λ (y : Worker). free_block_count y.allocator c) D.same in omega (arith, e)) }) (stock_small seat.place seat.number u x N)
          (let lines = ap (λ (y : Worker). lines_free y) D.same in let took = ap (λ (y : View). lines_in y.took) view in let flying = ap (λ (y : View). lines_in y.flying) view in omega (arith, lines, took, flying)))
          (λ k. ap (λ (y : Worker). placed_for v y.places.items k) D.same) (ap (λ (y : Worker). y.queue) D.same) (ap (λ (y : Worker). y.in_hand) D.same)
          (λ e. inl (sym (ap (λ (y : Worker). y.stopped) D.same) ∙ e)) (λ e. ap (λ (y : Worker). y.stopped) D.same ∙ e));
    }
