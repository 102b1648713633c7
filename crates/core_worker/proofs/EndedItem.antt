-- The turn that ends a cleaning: what it finds, what it keeps, and that less is left to do.
use Rattle.std.proofs.Common.{◌≡◌, ◌≢◌, inl, ⊎_elim, ℕ, suc, ◌≤◌, ◌<◌, ◌==◌, Bool, true, false, cond, List, [], ◌∷◌, length, Option, Some, None, refl, sym, ◌∙◌, ap, subst, arith}
use Rattle.std.specs.Prelude.{is_some}
use Rattle.pm_region.specs.State.{State, IsTelling, cell_now, Rose}
use Rattle.log_entry.specs.declared.entry.EntryName.{EntryName}
use Rattle.core_log.specs.Log.{tail_of}
use Rattle.core_index.specs.Index.{all_untold}
use Rattle.lazy_alloc.specs.Sets.{chunk_is_free, chunk_class}
use Rattle.lazy_alloc.specs.Written.{PartLies}
use Rattle.log_cleaner.specs.Clearing.{ClearingState, IsReady}
use Rattle.log_cleaner.specs.Copying.{IsUpToDate}
use Rattle.log_cleaner.specs.Dropping.{lone_in}
use Rattle.log_standing.specs.NameCounts.{count_of}
use Rattle.std.proofs.lemmas.Bool.{eq-eqb}
use Rattle.log_cleaner.specs.ImagesBeside.{AgreesIn}
use Rattle.log_cleaner.specs.Vanishing.{MayGo, NoneElse}
use Rattle.group_laws.specs.State.{Group}
use Rattle.group_laws.specs.Runs.{Kind}
use Rattle.group_laws.specs.Places.{Place}
use Rattle.group_laws.specs.MemberViews.{View}
use Rattle.group_board.specs.Seats.{SeatAt}
use Rattle.group_board.specs.Told.{Makes}
use Rattle.group_board.specs.Views.{after_retire, TidiedIn}
use Rattle.batch_leader.specs.Persisting.{StaysLicensed, WritesPart}
use Rattle.licence.specs.Licence.{Licensed}
use Rattle.licence.specs.Writes.{Begins}
use Rattle.core_worker.specs.declared.types.Cleaning.{Cleaning}
use Rattle.core_worker.specs.declared.types.Cleaning.TheVariants.{Copying, Doomed, Nothing}
use Rattle.core_worker.specs.declared.types.Leading.TheVariants as leads
use Rattle.core_worker.specs.declared.types.Place as places
use Rattle.core_worker.specs.declared.types.Place.TheVariants.{Free, Staged, Posted}
use Rattle.core_worker.specs.declared.worker.Worker.{Worker}
use Rattle.core_worker.specs.CleaningLeft.{clears_left}
use Rattle.core_worker.specs.EndsCleaning.{EndsCleaning, EndsIn, EndsInRegion}
use Rattle.core_worker.specs.GoneMail.{HasPlacesFor, FilesGone}
use Rattle.core_worker.specs.GoneNames.{first_of, restarted_by, is_forgotten}
use Rattle.core_worker.specs.KeepsCleaning.{HasPhase, may_go as may_go_with, Cleans}
use Rattle.core_worker.specs.Left.{place_left, places_left, serves_left, left, Lowers}
use Rattle.core_worker.specs.LogNames.{AreOwnOf, ClearsIn, IsCleanedBy, KnowsBy}
use Rattle.core_worker.specs.Order.{InOrder, MayLeadStopped}
use Rattle.core_worker.specs.OwnPlaces.{place_at}
use Rattle.core_worker.specs.Supplies.{under_way}
use Rattle.core_worker.specs.Ties.{LeadsAt, Holds, Stands, HoldsAt, StandsAt}
use Rattle.core_worker.specs.Turning.{KeepsTurn}
use Rattle.core_worker.specs.Turns.{InOrderAt, Steps}
use Rattle.core_worker.proofs.BlockStands.{holds_stopped}
use Rattle.core_worker.proofs.ClearsLeft as clears
use Rattle.log_standing.specs.declared.types.Amount.{Amount}
use Rattle.core_worker.specs.Supplies.{counted_by, left_in}
use Rattle.core_worker.proofs.CleaningKept.{runs_way}
use Rattle.core_worker.proofs.EndedHolds.{ended_holds}
use Rattle.core_worker.proofs.EndedMoves.{ended_moves, ended_room}
use Rattle.core_worker.proofs.EndedOrder.{ended_order, names_now}
use Rattle.core_worker.proofs.EndedStands.{ended_stands}
use Rattle.core_worker.proofs.FiledLeft.{few_that, times_named}
use Rattle.core_worker.proofs.FiledMail.{few_more}
use Rattle.core_worker.proofs.Led.{runs_whole}
use Rattle.core_worker.proofs.LeftItems.{IsLawful, lowers_step}
use Rattle.core_worker.proofs.LeftSteps.{retires_way}
use Rattle.core_worker.proofs.LogEnds.{others_none, names_agree}
use Rattle.core_worker.proofs.PostMoves.{fault_moves}
use Rattle.core_worker.proofs.TurnLaws.{nothing_fixed}

-- a cleaning that dooms, whatever is counted
doomed_raw : (o : Option Amount) (c : Cleaning) (j : ℕ) → counted_by o c ≡ Doomed j → c ≡ Doomed j
doomed_raw o Nothing j e = absurd (cc e)
doomed_raw o (Copying v first) j e = absurd (cc e)
doomed_raw o (Doomed i) j e = e

module _ (s : State) (p : Place) (m : ℕ) (v : View) (w : Worker) (H : Holds p m v w) (S : Stands s p m v w) (O : InOrder p m v w) (d : (j : ℕ) × (under_way w ≡ Doomed j)) where
  pub cleans : Cleans p m v.doomed v.dead w.stopped w.winds_down w.leading w.log w.allocator w.standing w.clearing w.own_gone w.notices.items w.cleaning
  cleans = ⊎_elim (λ none. absurd (let both : Nothing ≡ Doomed d.0 = sym none ∙ d.1 in cc both)) (λ C. C) H.cleaning

  pub runs : w.stopped ≡ false
  runs = cleans.runs

  pub way_is : w.cleaning ≡ Doomed d.0
  way_is = doomed_raw (left_in w.standing) w.cleaning d.0 (sym (runs_way w cleans.runs cleans.works) ∙ d.1)

  pub begins : Begins s p m v w.log
  begins = record { own = record { layout = H.log_layout; part = H.log_part }; stands = S.log runs; licensed = S.licensed }

  pub others : NoneElse s w.log
  others = others_none s p m v w H S runs

  pub agrees : IsTelling s → AgreesIn s w.log
  agrees = names_agree s p m v w H S runs O.agrees.bodies

  pub counted : IsTelling s → IsUpToDate s w.log w.standing
  counted telling = (S.names runs cleans.works telling).counted

  flying : v.flying ≡ []
  flying = (let had : LeadsAt H.leads.seat v (leads.Nothing cleans.idle.0) = subst (LeadsAt H.leads.seat v) cleans.idle.1 H.leads.at in had.2 (runs_whole p m v w H runs))

  -- of the clearing in hand
  module _ (c : ClearingState) (is : w.clearing ≡ Some c) where
    now_is : cleans.now ≡ c
    now_is = let both : Some cleans.now ≡ Some c = sym cleans.is ∙ is in cc both

    phase : HasPhase p m v.doomed v.dead w.log w.standing c w.own_gone.items (Doomed d.0)
    phase = subst (λ (x : ClearingState). HasPhase p m v.doomed v.dead w.log w.standing x w.own_gone.items (Doomed d.0)) now_is (subst (HasPhase p m v.doomed v.dead w.log w.standing cleans.now w.own_gone.items) way_is cleans.phase)

    pub has_chunk : is_some (tail_of w.log.chunks c.chunk) ≡ true
    has_chunk = subst (λ (x : ClearingState). is_some (tail_of w.log.chunks x.chunk) ≡ true) now_is cleans.chunk

    pub is_closed : w.log.opened ≢ Some c.chunk
    is_closed = subst (λ (x : ClearingState). w.log.opened ≢ Some x.chunk) now_is cleans.closed

    pub is_taken : chunk_is_free w.allocator c.chunk ≡ false
    is_taken = subst (λ (x : ClearingState). chunk_is_free w.allocator x.chunk ≡ false) now_is cleans.taken

    pub is_uncut : chunk_class w.allocator c.chunk ≡ None
    is_uncut = subst (λ (x : ClearingState). chunk_class w.allocator x.chunk ≡ None) now_is cleans.uncut

    pub owned : AreOwnOf p m c.doomed w.own_gone.items
    owned = phase.2

    -- there are places for the names that are gone
    pub boxes_places : HasPlacesFor (length c.doomed) w.notices.items
    boxes_places = subst (λ (y : ClearingState). HasPlacesFor (length y.doomed) w.notices.items) now_is (subst (λ (k : Cleaning). HasPlacesFor (may_go_with cleans.now k) w.notices.items) way_is cleans.places)

    pub may_go : MayGo v c.doomed
    may_go = record { idle = flying; doomed = λ k n is. (phase.1 k n is).marked }

    pub ready : IsTelling s → IsReady s w.log w.standing c
    ready telling = (by is).ready where
      by : w.clearing ≡ Some c → ClearsIn s w.log w.standing c
      by = (subst (IsCleanedBy s w.log w.standing w.clearing) way_is (S.names runs cleans.works telling).cleaned) c

    pub ends_in : (u : View) (x : Worker) → TidiedIn p m (after_retire p m c.doomed v) u → EndsCleaning w.core c w.own_gone.items w.log x.log w.allocator x.allocator w.places.items x.places.items w.index x.index w.standing x.standing → FilesGone p m c.doomed w.notices.items x.notices.items
        → x ≡ record w { log = x.log; allocator = x.allocator; places = x.places; index = x.index; standing = x.standing; notices = x.notices; cleaning = Nothing; clearing = None } → EndsIn p m v u w x c
    ends_in u x tidied ends files same = record {
      runs = runs;
      way = d;
      scarce = cleans.scarce;
      idle = cleans.idle;
      chunk = has_chunk;
      closed = is_closed;
      may = phase.1;
      noted = phase.3;
      own = owned;
      tidied = tidied;
      ends = ends;
      files = files;
      same = same;
    }

    pub names : (u : View) (x : Worker) → EndsIn p m v u w x c → IsTelling s → KnowsBy m u x.standing
    names u x E telling = names_now p m v u w x c H O E s (ready telling) (S.names runs cleans.works telling).knows

-- The end keeps what a turn keeps.
pub keeps_ended : (seat : SeatAt) (s t : State) (before after : Option Group) (v u : View) (w x : Worker) (c : ClearingState) → HoldsAt seat v w → StandsAt s seat v w → InOrderAt seat v w → EndsIn seat.place seat.number v u w x c → EndsInRegion s t seat.place seat.number u w x c → StaysLicensed s t seat v → WritesPart s t seat → Steps before after seat.number u
    → KeepsTurn seat s t before after v u w x
keeps_ended seat s t before after v u w x c H S O E R moments outside made =
    let N = ended_holds seat.place seat.number v u w x c H O E in
    record {
      moments = moments;
      outside = outside;
      holds = N;
      stands = ended_stands s t seat.place seat.number v u w x c H S E R;
      order = ended_order seat.place seat.number v u w x c H O E;
      rule = λ r had. ended_room seat.place seat.number v u w x c H O E N had;
      moves = nothing_fixed seat s t before after v u w x (ap (λ (y : Worker). y.answers) E.same) (ended_moves seat.place seat.number v u w x c H O E N s t before after outside moments R.exit made);
    }

-- After a fault the core has stopped, and nothing else became of it.
module _ (s t : State) (p : Place) (m : ℕ) (v : View) (w : Worker) (H : Holds p m v w) (S : Stands s p m v w) (O : InOrder p m v w) (C : Cleans p m v.doomed v.dead w.stopped w.winds_down w.leading w.log w.allocator w.standing w.clearing w.own_gone w.notices.items w.cleaning) where
  abbrev stops : Worker
  stops = record w { clearing = None; stopped = true }

  pub lost_holds : Holds p m v stops
  lost_holds = let N = holds_stopped p m v w H C.runs in record {
    place = N.place;
    member = N.member;
    core = N.core;
    layout = N.layout;
    log_layout = N.log_layout;
    log_part = N.log_part;
    sets = N.sets;
    allocator_layout = N.allocator_layout;
    allocator_part = N.allocator_part;
    spelled = N.spelled;
    eight = N.eight;
    placed = N.placed;
    apart = N.apart;
    pending = N.pending;
    admitted = N.admitted;
    keys = N.keys;
    mail = H.mail;
    blocks = N.blocks;
    waits = N.waits;
    leads = N.leads;
    space = λ r. absurd (cc r);
    broken = N.broken;
    lost = N.lost;
    flight = N.flight;
    cleaning = inl refl;
    remembers = N.remembers;
    chunks = N.chunks;
  }

  flies : v.flying ≡ []
  flies = (let had : LeadsAt H.leads.seat v (leads.Nothing C.idle.0) = subst (LeadsAt H.leads.seat v) C.idle.1 H.leads.at in had.2 (runs_whole p m v w H C.runs))

  pub lost_stands : PartLies t.frame w.allocator → (IsTelling t → Licensed p m v (cell_now t)) → Stands t p m v stops
  lost_stands lies exit = record {
    lies = lies;
    licensed = exit;
    landed = λ unlost telling. subst (λ (y : View). Licensed p m y (cell_now t)) (λ i. record v { flying = flies i }) (exit telling);
    log = λ r. absurd (cc r);
    free = λ r. absurd (cc r);
    due = λ r. absurd (cc r);
    cut = λ r. absurd (cc r);
    names = λ r. absurd (cc r);
  }

  pub lost_order : InOrder p m v stops
  lost_order = record {
    owned = O.owned;
    single = O.single;
    distinct = O.distinct;
    heard = O.heard;
    told = O.told;
    versions = O.versions;
    mine = O.mine;
    next = O.next;
    spelled = O.spelled;
    recalls = O.recalls;
    answers = O.answers;
    hand = O.hand;
    stops = λ is. subst MayLeadStopped (sym C.idle.1) tt;
    agrees = O.agrees;
    log = λ r. absurd (cc r);
    names = λ r. absurd (cc r);
  }

pub keeps_lost : (seat : SeatAt) (s t : State) (before after : Option Group) (v u : View) (w x : Worker) → HoldsAt seat v w → StandsAt s seat v w → InOrderAt seat v w → Cleans seat.place seat.number v.doomed v.dead w.stopped w.winds_down w.leading w.log w.allocator w.standing w.clearing w.own_gone w.notices.items w.cleaning
    → x ≡ record w { clearing = None; stopped = true } → u ≡ v → after ≡ before → PartLies t.frame w.allocator → (IsTelling t → Licensed seat.place seat.number v (cell_now t)) → StaysLicensed s t seat v → WritesPart s t seat → Rose s.faults t.faults → KeepsTurn seat s t before after v u w x
keeps_lost seat s t before after v u w x H S O C same view group lies exit moments outside rose =
    let y = record w { clearing = None; stopped = true } in
    let N = lost_holds s t seat.place seat.number v w H S O C in
    subst (λ (z : Worker). KeepsTurn seat s t before after v u w z) (sym same) (subst (λ (z : View). KeepsTurn seat s t before after v z w (record w { clearing = None; stopped = true })) (sym view)
    (subst (λ (g : Option Group). KeepsTurn seat s t before g v v w (record w { clearing = None; stopped = true })) (sym group) (record {
      moments = moments;
      outside = outside;
      holds = N;
      stands = lost_stands s t seat.place seat.number v w H S O C lies exit;
      order = lost_order s t seat.place seat.number v w H S O C;
      rule = λ r. absurd (cc r);
      moves = nothing_fixed seat s t before before v v w (record w { clearing = None; stopped = true }) refl
          (fault_moves seat.place seat.number s t before v w (record w { clearing = None; stopped = true }) N (λ k. refl) (λ k. refl) refl outside moments exit rose);
    })))

-- Less is left to do.
left_restarted : (test : ℕ → Bool) (y : places.Place) → place_left (restarted_by test y) ≡ place_left y
left_restarted test Free = refl
left_restarted test (Posted number key lines) = refl
left_restarted test (Staged number entry value) = by (test entry.key) where
  by : (b : Bool) → place_left (cond b (Staged number (first_of entry) value) (Staged number entry value)) ≡ place_left (Staged number entry value)
  by true = refl
  by false = refl

places_restarted : (test : ℕ → Bool) (xs ys : List places.Place) → length ys ≡ length xs → ((s : ℕ) → place_at ys s ≡ restarted_by test (place_at xs s)) → places_left ys ≡ places_left xs
places_restarted test [] [] e at = refl
places_restarted test [] (y ∷ ys) e at = absurd (omega (arith, e))
places_restarted test (x ∷ xs) [] e at = absurd (omega (arith, e))
places_restarted test (x ∷ xs) (y ∷ ys) e at =
    let here = ap place_left (at 0) ∙ left_restarted test x in
    let rest = places_restarted test xs ys (omega (arith, e)) (λ s. at (suc s)) in
    omega (arith, here, rest)

-- each name that is gone stands no more
names_less : (p : Place) (m : ℕ) (v u : View) (w x : Worker) (c : ClearingState) → EndsIn p m v u w x c → length c.doomed ≤ lone_in w.standing c.names
names_less p m v u w x c E = few_that (λ (n : EntryName). count_of w.standing n.key n.version == 1) c.doomed c.names E.noted
    (λ k n some. eq-eqb (count_of w.standing k n) 1 (E.may k n (times_named c.doomed k n some)).lone)

pub ended_less : (p : Place) (m : ℕ) (v u : View) (w x : Worker) (c : ClearingState) (j : ℕ) → w.cleaning ≡ Doomed j → EndsIn p m v u w x c → all_untold x.index ≤ all_untold w.index → left x < left w
ended_less p m v u w x c j way E untold =
    let same = ap serves_left E.same in
    let places = places_restarted (is_forgotten w.own_gone.items w.places.items E.ends.loses.mid) w.places.items x.places.items E.ends.loses.forgets.count E.ends.loses.forgets.places in
    let kept = ap (λ (y : Worker). clears_left y.accepted y.cleaning x.standing x.index x.notices.items) E.same in
    let was = ap (λ (d : Cleaning). clears_left w.accepted d w.standing w.index w.notices.items) way in
    let names = E.ends.names in
    let gone = names_less p m v u w x c E in
    let boxes = few_more p m c.doomed w.notices.items x.notices.items E.files in
    let less = clears.clears w.accepted w.standing x.standing w.index x.index w.notices.items x.notices.items j (length c.doomed) (omega (arith, names, gone)) untold boxes in
    omega (arith, same, places, kept, was, less)

pub ended_lower : (before after : Option Group) (m : ℕ) (ns : List EntryName) (u : View) (w x : Worker) → Makes before m (Kind.Retire ns) after u → IsLawful before → left x < left w → Lowers before after w x
ended_lower before after m ns u w x made lawful less = lowers_step before after m (Kind.Retire ns) u w x made lawful (λ a b L step. let way = retires_way a b m ns step.1 in omega (arith, way, less))

pub lost_less : (w x : Worker) → x ≡ record w { clearing = None; stopped = true } → w.stopped ≡ false → left x < left w
lost_less w x same runs =
    let now = ap left same in
    let one : cond {A = ℕ} w.stopped 0 1 ≡ 1 = ap (λ (b : Bool). cond {A = ℕ} b 0 1) runs in
    omega (arith, now, one)
