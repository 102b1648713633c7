-- A cleaning under way stays so between two calls, or none is gone on with once the worker stops or winds down.
use Rattle.std.proofs.Common.{◌≡◌, ◌≢◌, inl, inr, ⊎_elim, ℕ, ◌≤◌, ◌||◌, Bool, true, false, cond, Option, None, refl, sym, ◌∙◌, ap, subst, arith}
use Rattle.std.specs.Prelude.{Vec, vec_capacity}
use Rattle.std.specs.Global.{Global}
use Rattle.group_board.specs.declared.names.Notices.{Notices}
use Rattle.group_laws.specs.Places.{Place}
use Rattle.group_laws.specs.MemberViews.{View}
use Rattle.lazy_alloc.specs.Sets.{Sets, chunk_is_free, chunk_class, free_chunk_count}
use Rattle.log_standing.specs.NameCounts.{StandingState, count_of}
use Rattle.log_cleaner.specs.Clearing.{ClearingState}
use Rattle.core_worker.specs.declared.types.Cleaning.{Cleaning}
use Rattle.core_worker.specs.declared.types.Cleaning.TheVariants.{Nothing, Copying, Doomed}
use Rattle.core_worker.specs.declared.worker.Worker.{Worker}
use Rattle.log_standing.specs.declared.types.Amount.{Amount}
use Rattle.core_worker.specs.Supplies.{room_for, under_way, counted_by, left_in, IsSmall}
use Rattle.core_worker.specs.Status.{is_leading}
use Rattle.core_worker.specs.GoneMail.{HasPlacesFor}
use Rattle.core_worker.specs.KeepsCleaning.{GoesOn, HasPhase, may_go, KeepsCleaning}
use Rattle.core_worker.proofs.UnderWay.{left_fewer, none_standing, still_nothing, wound_way, room_same}

-- who has stopped goes on with nothing
pub stopped_none : (w : Worker) → w.stopped ≡ true → under_way w ≡ Nothing
stopped_none w stopped = ap (λ (b : Bool). cond (b || w.winds_down) Nothing (counted_by (left_in w.standing) w.cleaning)) stopped

-- who neither stops nor winds down goes on with what it has, as far as it is counted
pub runs_way : (w : Worker) → w.stopped ≡ false → w.winds_down ≡ false → under_way w ≡ counted_by (left_in w.standing) w.cleaning
runs_way w runs works = (λ i. cond (runs i || works i) Nothing (counted_by (left_in w.standing) w.cleaning))

-- as little as is counted is small
small_counted : (o : Option Amount) (c : Cleaning) → IsSmall c → IsSmall (counted_by o c)
small_counted o Nothing small = tt
small_counted o (Copying v first) small = let less = left_fewer o v in let a = less.0 in let b = less.1 in let c = small.0 in let d = small.1 in (omega (arith, b, c), omega (arith, a, d))
small_counted o (Doomed j) small = tt

-- who leads cleans nothing
pub leads_none : (p : Place) (m : ℕ) (v : View) (w : Worker) → KeepsCleaning p m v w → is_leading w.leading ≡ true → under_way w ≡ Nothing
leads_none p m v w K leading = ⊎_elim (λ none. none) (λ C. absurd (let both : true ≡ false = sym leading ∙ ap is_leading C.idle.1 in cc both)) K

-- what is counted of it is small
pub small_way : (p : Place) (m : ℕ) (v : View) (w : Worker) → KeepsCleaning p m v w → IsSmall (under_way w)
small_way p m v w K = ⊎_elim
    (λ none. subst IsSmall (sym none) tt)
    (λ C. subst IsSmall (sym (runs_way w C.runs C.works)) (small_counted (left_in w.standing) w.cleaning (by C.now w.cleaning C.phase)))
    K
  where
    by : (x : ClearingState) (c : Cleaning) → HasPhase p m v.doomed v.dead w.log w.standing x w.own_gone.items c → IsSmall c
    by x Nothing h = absurd h
    by x (Copying victim first) h = h.small
    by x (Doomed chunk) h = tt

-- it may wind down
pub keeps_winds : (p : Place) (m : ℕ) (v : View) (w : Worker) (winds : Bool) → (winds ≡ false → w.winds_down ≡ false) → KeepsCleaning p m v w → KeepsCleaning p m v (record w { winds_down = winds })
keeps_winds p m v w true works K = inl (wound_way w)
keeps_winds p m v w false works K = subst (λ (b : Bool). KeepsCleaning p m v (record w { winds_down = b })) (works refl) K

-- No more chunks are free than before, and one that wasn't is neither free nor cut now.
pub record FewerFree (old new : Sets) : Type 0 where
  pub few : free_chunk_count new ≤ free_chunk_count old
  pub taken : (j : ℕ) → chunk_is_free old j ≡ false → chunk_is_free new j ≡ false
  pub uncut : (j : ℕ) → chunk_is_free old j ≡ false → chunk_class old j ≡ None → chunk_class new j ≡ None

pub fewer_same : (old new : Sets) → free_chunk_count new ≡ free_chunk_count old → ((j : ℕ) → chunk_is_free new j ≡ chunk_is_free old j) → ((j : ℕ) → chunk_class new j ≡ chunk_class old j) → FewerFree old new
fewer_same old new count free classes = record { few = omega (arith, count); taken = λ j off. free j ∙ off; uncut = λ j off none. classes j ∙ none }

pub keeps_few : (p : Place) (m : ℕ) (v : View) (w : Worker) (a : Sets) → FewerFree w.allocator a → KeepsCleaning p m v w → KeepsCleaning p m v (record w { allocator = a })
keeps_few p m v w a F K = ⊎_elim
    (λ none. inl none)
    (λ C. inr (record {
      goes = C.goes;
      runs = C.runs;
      works = C.works;
      idle = C.idle;
      now = C.now;
      is = C.is;
      chunk = C.chunk;
      closed = C.closed;
      taken = F.taken C.now.chunk C.taken;
      uncut = F.uncut C.now.chunk C.taken C.uncut;
      scarce = (let were = C.scarce in let few = F.few in omega (arith, were, few));
      phase = C.phase;
      own_places = C.own_places;
      places = C.places;
    }))
    K

-- what was doomed and dead is so still
pub keeps_seen : (p : Place) (m : ℕ) (v u : View) (w : Worker) → ((k n : ℕ) → v.doomed k n ≡ true → u.doomed k n ≡ true) → ((k n : ℕ) → v.dead k n ≡ true → u.dead k n ≡ true) → KeepsCleaning p m v w → KeepsCleaning p m u w
keeps_seen p m v u w doomed dead K = ⊎_elim
    (λ none. inl none)
    (λ C. inr (record {
      goes = C.goes;
      runs = C.runs;
      works = C.works;
      idle = C.idle;
      now = C.now;
      is = C.is;
      chunk = C.chunk;
      closed = C.closed;
      taken = C.taken;
      uncut = C.uncut;
      scarce = C.scarce;
      phase = by C.now w.cleaning C.phase;
      own_places = C.own_places;
      places = C.places;
    }))
    K
  where
    by : (x : ClearingState) (c : Cleaning) → HasPhase p m v.doomed v.dead w.log w.standing x w.own_gone.items c → HasPhase p m u.doomed u.dead w.log w.standing x w.own_gone.items c
    by x Nothing h = h
    by x (Copying victim first) h = h
    by x (Doomed chunk) h = (h.0, (λ k n is. let y = h.1 k n is in record { marked = doomed k n y.marked; dies = dead k n y.dies; lone = y.lone; noted = y.noted }), h.2, h.3)

-- names are counted as before
pub keeps_counts : (p : Place) (m : ℕ) (v : View) (w : Worker) (st : StandingState) → ((k n : ℕ) → count_of st k n ≡ count_of w.standing k n) → KeepsCleaning p m v w → KeepsCleaning p m v (record w { standing = st })
keeps_counts p m v w st counts K = ⊎_elim
    (λ none. inl (none_standing w st none))
    (λ C. inr (record {
      goes = C.goes;
      runs = C.runs;
      works = C.works;
      idle = C.idle;
      now = C.now;
      is = C.is;
      chunk = C.chunk;
      closed = C.closed;
      taken = C.taken;
      uncut = C.uncut;
      scarce = C.scarce;
      phase = by C.now w.cleaning C.phase;
      own_places = C.own_places;
      places = C.places;
    }))
    K
  where
    by : (x : ClearingState) (c : Cleaning) → HasPhase p m v.doomed v.dead w.log w.standing x w.own_gone.items c → HasPhase p m v.doomed v.dead w.log st x w.own_gone.items c
    by x Nothing h = h
    by x (Copying victim first) h = h
    by x (Doomed chunk) h = (h.0, (λ k n is. let y = h.1 k n is in record { marked = y.marked; dies = y.dies; lone = counts k n ∙ y.lone; noted = y.noted }), h.2, h.3)

-- the room that a leader is told of stays where a worker that leads winds down
pub led_room : (p : Place) (m : ℕ) (v : View) (w : Worker) (st : StandingState) (winds : Bool) → (winds ≡ false → w.winds_down ≡ false) → KeepsCleaning p m v w → is_leading w.leading ≡ true → room_for (record w { standing = st; winds_down = winds }) ≡ room_for w
led_room p m v w st winds works K leading =
    let none = leads_none p m v w K leading in
    room_same w st winds (still_nothing (counted_by (left_in st) w.cleaning) w.stopped w.winds_down w.stopped winds (λ r. r) works (none_standing w st none) ∙ sym none)

-- what waits to be told may be another, where there are as many places for gone names
pub keeps_boxes : (p : Place) (m : ℕ) (v : View) (w : Worker) (boxes : Vec Notices Global) → ((most : ℕ) → under_way w ≢ Nothing → most ≤ vec_capacity w.own_gone → HasPlacesFor most w.notices.items → HasPlacesFor most boxes.items) → KeepsCleaning p m v w → KeepsCleaning p m v (record w { notices = boxes })
keeps_boxes p m v w boxes places K = ⊎_elim
    (λ none. inl none)
    (λ C. inr (record {
      goes = C.goes;
      runs = C.runs;
      works = C.works;
      idle = C.idle;
      now = C.now;
      is = C.is;
      chunk = C.chunk;
      closed = C.closed;
      taken = C.taken;
      uncut = C.uncut;
      scarce = C.scarce;
      phase = C.phase;
      own_places = C.own_places;
      places = places (may_go C.now w.cleaning) (λ none. goes_on w.cleaning C.goes (sym (runs_way w C.runs C.works) ∙ none)) C.own_places C.places;
    }))
    K
  where
    goes_on : (c : Cleaning) → GoesOn c → counted_by (left_in w.standing) c ≢ Nothing
    goes_on Nothing goes is = absurd goes
    goes_on (Copying victim first) goes is = (cc is)
    goes_on (Doomed chunk) goes is = (cc is)
