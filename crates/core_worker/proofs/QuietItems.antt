-- What a leader does leaves the keys, what is kept between two calls, and what is held.
use Rattle.std.proofs.Common.{◌≡◌, inl, ⊎_elim, ℕ, ◌+◌, ◌≤◌, ◌==◌, ◌&&◌, not, leb, ltb, Bool, true, false, cond, length, List, [], ◌∷◌, ◌++◌, Option, Some, None, refl, sym, ◌∙◌, ap, subst, arith}
use Rattle.std.specs.Prelude.{Vec}
use Rattle.std.specs.Global.{Global}
use Rattle.std.specs.List.{AllByRecursion}
use Rattle.std.proofs.lemmas.Bool.{leb-true, ltb-true, le-ltb, and_parts}
use Rattle.std.proofs.lemmas.List.Sums.{sum_by-append}
use Rattle.pm_region.specs.Words.{lines_for}
use Rattle.pm_region.specs.State.{State}
use Rattle.pm_region.proofs.Clients.{started, all_kept}
use Rattle.log_entry.specs.declared.entry.Entry.{Entry}
use Rattle.log_entry.specs.Spelling.{words_of}
use Rattle.core_log.specs.declared.types.Room.{Room}
use Rattle.core_log.specs.Log.{LogState, room_of}
use Rattle.lazy_alloc.specs.Sets.{Sets}
use Rattle.group_laws.specs.declared.types.Seen.{Seen}
use Rattle.group_laws.specs.Places.{Place}
use Rattle.group_laws.specs.State.{Group}
use Rattle.group_laws.specs.MemberViews.{View}
use Rattle.group_laws.specs.Updates.{put2}
use Rattle.group_board.specs.Views.{after_unlock}
use Rattle.group_board.specs.Seats.{SeatAt}
use Rattle.licence.specs.Licence.{Licensed, part_at, part_end}
use Rattle.batch_leader.specs.Leading.{IsFrom, taken_by, IsReleased}
use Rattle.batch_leader.specs.Rounds.{is_first, own_lines, fits, goes_fresh}
use Rattle.batch_leader.specs.declared.states.Released.{Released}
use Rattle.batch_leader.specs.declared.states.Released.TheVariants as released
use Rattle.batch_leader.specs.declared.taken.Taken.{Taken}
use Rattle.core_worker.specs.declared.types.Place as places
use Rattle.core_worker.specs.declared.types.Leading.{Leading}
use Rattle.core_worker.specs.declared.types.Leading.TheVariants as leads
use Rattle.core_worker.specs.declared.worker.Worker.{Worker}
use Rattle.core_worker.specs.OwnPlaces.{is_busy}
use Rattle.log_standing.specs.NameCounts.{StandingState}
use Rattle.core_worker.specs.Order.{count_changes, MayLeadStopped, InOrder}
use Rattle.core_worker.specs.StandingTies.{KnowsDead, NamesAgree, most_names}
use Rattle.core_worker.specs.Ties.{HoldsAt, StandsAt}
use Rattle.core_worker.specs.Turns.{Moment, SameButLeading, Steps, TriesLock, GoesRound, Collects, Releases, Marks, Fails, led_by, persisted_left, failed_left}
use Rattle.core_worker.specs.Supplies.{room_for}
use Rattle.core_worker.specs.WorkerMoves.{lines_in, lines_free, awaits_chunk, stock_of, placed_for, hands_of, WorkerMoves}
use Rattle.core_worker.proofs.LeadTies.{led_here}
use Rattle.lazy_alloc.specs.Sets.{free_chunk_count, free_block_count}
use Rattle.core_worker.proofs.CauseFacts.{lines_low, lines_open, lines_same}
use Rattle.core_worker.proofs.StockFacts.{still_spend, stock_small}
use Rattle.core_worker.proofs.QuietMoves.{quiet_moves}

-- what the ties of the keys speak of is the same in two views
pub record SameKeys (v u : View) : Type 0 where
  pub cell : u.cell ≡ v.cell
  pub pending : u.pending ≡ v.pending
  pub blocks : u.blocks ≡ v.blocks

-- a view in which only what a leader has differs
abbrev pub led_as : View → List Entry → List Entry → (ℕ → ℕ → Option Entry) → Bool → Bool → List Seen → List Entry → View
led_as v kept flying taken broken holds looked took = record v { kept = kept; flying = flying; taken = taken; broken = broken; holds = holds; looked = looked; took = took }

pub record IsLed (v u : View) : Type 0 where
  pub flying : List Entry
  pub taken : ℕ → ℕ → Option Entry
  pub broken : Bool
  pub holds : Bool
  pub looked : List Seen
  pub took : List Entry
  pub is : u ≡ led_as v v.kept flying taken broken holds looked took

pub led_keys : (v u : View) → IsLed v u → SameKeys v u
led_keys v u L = record {
  cell = ap (λ (x : View). x.cell) L.is;
  pending = ap (λ (x : View). x.pending) L.is;
  blocks = ap (λ (x : View). x.blocks) L.is;
}

led : (v u : View) (flying : List Entry) (taken : ℕ → ℕ → Option Entry) (broken holds : Bool) (looked : List Seen) (took : List Entry) → u ≡ led_as v v.kept flying taken broken holds looked took → IsLed v u
led v u flying taken broken holds looked took e = record { flying = flying; taken = taken; broken = broken; holds = holds; looked = looked; took = took; is = e }

-- what is kept in order speaks of nothing that a leader's step changes, but for the names in the log
pub order_as : (p : Place) (m : ℕ) (v : View) (w : Worker) (kept flying : List Entry) (taken : ℕ → ℕ → Option Entry) (broken holds : Bool) (looked : List Seen) (took : List Entry) (log : LogState) (allocator : Sets) (l : Leading) (st : StandingState) (stopped winds : Bool) (ps : Vec places.Place Global)
    → ((k : ℕ) → is_busy ps.items k ≡ is_busy w.places.items k) → count_changes ps.items ≡ count_changes w.places.items → (stopped ≡ true → MayLeadStopped l) → (winds ≡ false → w.winds_down ≡ false)
    → (stopped ≡ false → winds ≡ false → KnowsDead m kept v.present v.told v.dead st) → (stopped ≡ false → winds ≡ false → most_names ≤ st.room) → NamesAgree p m kept v.present v.told v.dead → InOrder p m v w
    → InOrder p m (led_as v kept flying taken broken holds looked took) (record w { log = log; allocator = allocator; leading = l; standing = st; stopped = stopped; winds_down = winds; places = ps })
order_as p m v w kept flying taken broken holds looked took log allocator l st stopped winds ps busy count stops works knows names agrees O = record {
  owned = O.owned;
  single = O.single;
  distinct = O.distinct;
  heard = O.heard;
  told = O.told;
  versions = O.versions;
  mine = O.mine;
  next = O.next;
  spelled = O.spelled;
  recalls = λ k own is none. O.recalls k own (sym (busy k) ∙ is) none;
  answers = (let room = O.answers in let c = count in omega (arith, room, c));
  hand = λ on. O.hand (works on);
  stops = stops;
  log = knows;
  names = names;
  agrees = agrees;
}

pub order_leading : (p : Place) (m : ℕ) (v u : View) (w x : Worker) → IsLed v u → SameButLeading w x → (w.stopped ≡ true → MayLeadStopped x.leading) → InOrder p m v w → InOrder p m u x
order_leading p m v u w x L same stops O =
    subst (λ (y : View). InOrder p m y x) (sym L.is) (subst (λ (y : Worker). InOrder p m (led_as v v.kept L.flying L.taken L.broken L.holds L.looked L.took) y) (sym same)
    (order_as p m v w v.kept L.flying L.taken L.broken L.holds L.looked L.took w.log w.allocator x.leading w.standing w.stopped w.winds_down w.places (λ k. refl) refl stops (λ on. on) O.log O.names O.agrees O))

pub leading_moves : (seat : SeatAt) (s : State) (before after : Option Group) (v u : View) (w x : Worker) → HoldsAt seat u x → StandsAt s seat v w → StandsAt s seat u x → Steps before after seat.number u → IsLed v u → SameButLeading w x → lines_free w + (lines_in v.took + lines_in u.flying) ≤ lines_free x + (lines_in u.took + lines_in v.flying)
    → WorkerMoves seat.place seat.number s s before after v u (hands_of v w) (hands_of u x) [] []
leading_moves seat s before after v u w x H S N made L same filled =
    let K = led_keys v u L in
    quiet_moves seat.place seat.number s s before after v u w x H (all_kept s (part_at seat.place seat.number) (part_end seat.place seat.number)) (started s (Licensed seat.place seat.number v) S.licensed) N.licensed made K.cell K.pending K.blocks (ap (λ (y : View). y.last) L.is) (ap (λ (y : View). y.posted) L.is)
    (λ runs. still_spend seat.place.layout v.took v.flying u.took u.flying (stock_of w) (stock_of x) (record { chunks = (let e = ap (λ (y : Worker). free_chunk_count y.allocator) same in omega (arith, e)); lines = omega arith; blocks = λ c. (let e = ap (λ (y : Worker). free_block_count y.allocator c) same in omega (arith, e)) }) (stock_small seat.place seat.number u x H) filled)
    (λ k. ap (λ (y : Worker). placed_for v y.places.items k) same) (ap (λ (y : Worker). y.queue) same) (ap (λ (y : Worker). y.in_hand) same)
    (λ e. inl (sym (ap (λ (y : Worker). y.stopped) same) ∙ e)) (λ e. ap (λ (y : Worker). y.stopped) same ∙ e)

-- the try of the lock
pub lock_led : (b : Bool) (m : ℕ) (v u : View) (w x : Worker) → TriesLock b m v u w x → IsLed v u
lock_led true m v u w x T = led v u v.flying v.taken v.broken true [] v.took T.0
lock_led false m v u w x T = led v u v.flying v.taken v.broken v.holds u.looked v.took (T.0.2 ∙ (let is = ap (λ (y : View). y.looked) T.0.2 in ap (λ ys. record v { looked = ys }) (sym is)))

pub lock_same : (b : Bool) (m : ℕ) (v u : View) (w x : Worker) → TriesLock b m v u w x → SameButLeading w x
lock_same true m v u w x T = T.2
lock_same false m v u w x T = T.2

none_from : (m at : ℕ) (ts : List Taken) → at ≡ 0 → AllByRecursion (IsFrom m at) ts → ts ≡ []
none_from m at [] e h = refl
none_from m at (t ∷ ts) e h = absurd (let lt = h.0.1 in omega (arith, lt, e))

pub lock_stops : (b : Bool) (seat : SeatAt) (v u : View) (w x : Worker) → HoldsAt seat u x → TriesLock b seat.number v u w x → MayLeadStopped x.leading
lock_stops true seat v u w x H T =
    let c = T.1 in
    let C = led_here seat u x.leading (leads.Collecting c.0) H.leads c.1 in
    subst MayLeadStopped (sym c.1) (none_from seat.number c.0.at (taken_by c.0) c.2 C.passed)
lock_stops false seat v u w x H T = subst MayLeadStopped (sym T.1.1) tt

-- giving changes back
pub marks_led : (a b : Moment) → Marks a b → IsLed a.view b.view
marks_led a b M = led a.view b.view a.view.flying (put2 a.view.taken M.first.member M.first.slot None) a.view.broken a.view.holds [] a.view.took M.view

pub fails_led : (a b : Moment) → Fails a b → IsLed a.view b.view
fails_led a b F = led a.view b.view a.view.flying (put2 a.view.taken F.first.member F.first.slot None) true a.view.holds [] a.view.took F.view

pub fails_stops : (a b : Moment) → Fails a b → MayLeadStopped b.worker.leading
fails_stops a b F = ⊎_elim (λ more. subst MayLeadStopped (sym more.1.2) tt) (λ over. subst MayLeadStopped (sym over.1.1) tt) F.leads_now

-- the round
pub collects_led : (before : Option Group) (m : ℕ) (a b : Moment) → Collects before m a b → IsLed a.view b.view
collects_led before m a b C =
    let t = C.went.0 in
    led a.view b.view (a.view.flying ++ t.change.change.entry ∷ []) (put2 a.view.taken t.change.member t.change.slot (Some t.change.change.entry)) a.view.broken a.view.holds [] (a.view.took ++ t.change.change.entry ∷ []) t.view

pub releases_led : (before : Option Group) (seat : SeatAt) (a b : Moment) → Releases before seat a b → IsLed a.view b.view
releases_led before seat a b R = led a.view b.view a.view.flying a.view.taken a.view.broken false [] a.view.took (R.view ∙ ap after_unlock R.went.0.view.1)

pub round_led : (before : Option Group) (seat : SeatAt) (a b : Moment) → GoesRound before seat a b → IsLed a.view b.view
round_led before seat a b g = ⊎_elim (λ c. collects_led before seat.number a b c) (λ r. releases_led before seat a b r) g

pub round_same : (before : Option Group) (seat : SeatAt) (a b : Moment) → GoesRound before seat a b → SameButLeading a.worker b.worker
round_same before seat a b g = ⊎_elim (λ c. c.same) (λ r. r.same) g

-- What is filled: nothing more is taken, and no batch in hand goes into a fresh chunk now.
pub open_filled : (v u : View) (w x : Worker) → SameButLeading w x → awaits_chunk x.leading ≡ false → u.took ≡ v.took → u.flying ≡ v.flying → lines_free w + (lines_in v.took + lines_in u.flying) ≤ lines_free x + (lines_in u.took + lines_in v.flying)
open_filled v u w x same awaits took flying =
    let low = lines_low w in
    let open_now = lines_open x awaits in
    let room = ap (λ (y : Worker). room_of y.log) same in
    let a = ap lines_in took in
    let b = ap lines_in flying in
    omega (arith, low, open_now, room, a, b)

left_closed : (ts : List Taken) (l : Leading) → persisted_left ts l → awaits_chunk l ≡ false
left_closed ts l h = ⊎_elim (λ more. ap awaits_chunk more.1.2) (λ over. ap awaits_chunk over.1.1) h

failed_closed : (ts : List Taken) (l : Leading) → failed_left ts l → awaits_chunk l ≡ false
failed_closed ts l h = ⊎_elim (λ more. ap awaits_chunk more.1.2) (λ over. ap awaits_chunk over.1.1) h

pub marks_filled : (a b : Moment) → Marks a b → lines_free a.worker + (lines_in a.view.took + lines_in b.view.flying) ≤ lines_free b.worker + (lines_in b.view.took + lines_in a.view.flying)
marks_filled a b M = open_filled a.view b.view a.worker b.worker M.same (left_closed M.rest b.worker.leading M.leads_now) (ap (λ (y : View). y.took) M.view) (ap (λ (y : View). y.flying) M.view)

pub fails_filled : (a b : Moment) → Fails a b → lines_free a.worker + (lines_in a.view.took + lines_in b.view.flying) ≤ lines_free b.worker + (lines_in b.view.took + lines_in a.view.flying)
fails_filled a b F = open_filled a.view b.view a.worker b.worker F.same (failed_closed F.rest b.worker.leading F.leads_now) (ap (λ (y : View). y.took) F.view) (ap (λ (y : View). y.flying) F.view)

pub lock_filled : (b : Bool) (seat : SeatAt) (v u : View) (w x : Worker) → HoldsAt seat u x → TriesLock b seat.number v u w x → lines_free w + (lines_in v.took + lines_in u.flying) ≤ lines_free x + (lines_in u.took + lines_in v.flying)
lock_filled true seat v u w x H T =
    let c = T.1 in
    let C = led_here seat u x.leading (leads.Collecting c.0) H.leads c.1 in
    let none = none_from seat.number c.0.at (taken_by c.0) c.2 C.passed in
    open_filled v u w x T.2 (ap awaits_chunk c.1 ∙ ap (λ (ts : List Taken). not (is_first ts) && c.0.fresh) none) (ap (λ (y : View). y.took) T.0) (ap (λ (y : View). y.flying) T.0)
lock_filled false seat v u w x H T = open_filled v u w x T.2 (ap awaits_chunk T.1.1) (ap (λ (y : View). y.took) T.0.2) (ap (λ (y : View). y.flying) T.0.2)

fresh_first : (room : Room) (ts : List Taken) (fresh : Bool) (n : ℕ) → is_first ts ≡ true → goes_fresh room ts fresh n ≡ ltb room.open_lines (lines_for n)
unfolding goes_fresh
fresh_first room ts fresh n first = ap (λ b. cond b (ltb room.open_lines (lines_for n)) fresh) first

fresh_later : (room : Room) (ts : List Taken) (fresh : Bool) (n : ℕ) → is_first ts ≡ false → goes_fresh room ts fresh n ≡ fresh
unfolding goes_fresh
fresh_later room ts fresh n first = ap (λ b. cond b (ltb room.open_lines (lines_for n)) fresh) first

fits_short : (room : Room) (own : ℕ) (ts : List Taken) (fresh mine : Bool) (n : ℕ) → fits room own ts fresh mine n ≡ true → n ≤ 34
unfolding fits
fits_short room own ts fresh mine n e = leb-true n 34 (and_parts (leb n 34) _ e).0

short_lines : (n : ℕ) → n ≤ 34 → lines_for n ≤ 5
short_lines n le = omega (arith, le)

is_first_more : (ts : List Taken) (t : Taken) → is_first (ts ++ t ∷ []) ≡ false
is_first_more [] t = refl
is_first_more (x ∷ xs) t = refl

-- the first entry that goes into a fresh chunk found less than five lines free
collects_filled : (before : Option Group) (m : ℕ) (a b : Moment) → Collects before m a b → lines_free a.worker + (lines_in a.view.took + lines_in b.view.flying) ≤ lines_free b.worker + (lines_in b.view.took + lines_in a.view.flying)
collects_filled before m a b C =
    let t = C.went.0 in
    let e = t.change.change.entry in
    let took : lines_in b.view.took ≡ lines_in a.view.took + lines_in (e ∷ []) = ap (λ (y : View). lines_in y.took) t.view ∙ sum_by-append _ a.view.took (e ∷ []) in
    let flying : lines_in b.view.flying ≡ lines_in a.view.flying + lines_in (e ∷ []) = ap (λ (y : View). lines_in y.flying) t.view ∙ sum_by-append _ a.view.flying (e ∷ []) in
    let lines = kept C.new.fresh refl in
    omega (arith, took, flying, lines)
  where
    room : room_of b.worker.log ≡ room_of a.worker.log
    room = ap (λ (y : Worker). room_of y.log) C.same

    now : awaits_chunk b.worker.leading ≡ C.new.fresh
    now = ap awaits_chunk C.leads_now ∙ ap (λ (ts : List Taken). not (is_first ts) && C.new.fresh) C.went.0.taken ∙ ap (λ f. not f && C.new.fresh) (is_first_more (taken_by C.old) C.went.0.change)

    few : lines_for (length (words_of C.went.0.change.change.entry)) ≤ 5
    few = short_lines (length (words_of C.went.0.change.change.entry)) (fits_short (room_for a.worker) (own_lines m (taken_by C.old)) (taken_by C.old) C.old.fresh (C.went.0.change.member == m) (length (words_of C.went.0.change.change.entry)) C.went.0.fits)

    small : (n : ℕ) (a : Bool) → n ≤ 4 → cond {A = ℕ} (a && ltb 4 n) 4 n ≡ n
    small n a le = ap (λ b. cond {A = ℕ} (a && b) 4 n) (le-ltb 4 n le) ∙ by a where
      by : (a : Bool) → cond {A = ℕ} (a && false) 4 n ≡ n
      by true = refl
      by false = refl

    was : (f : Bool) → is_first (taken_by C.old) ≡ f → C.new.fresh ≡ true → lines_free a.worker ≤ lines_free b.worker
    was true first is =
        let fresh : ltb (room_of a.worker.log) (lines_for (length (words_of C.went.0.change.change.entry))) ≡ true = sym (fresh_first (room_for a.worker) (taken_by C.old) C.old.fresh (length (words_of C.went.0.change.change.entry)) first) ∙ sym C.went.0.fresh ∙ is in
        let less = ltb-true (room_of a.worker.log) (lines_for (length (words_of C.went.0.change.change.entry))) fresh in
        let five = few in
        let low = lines_low a.worker in
        let same = room in
        let at = small (room_of b.worker.log) (awaits_chunk b.worker.leading) (omega (arith, less, five, same)) in
        omega (arith, low, same, at)
    was false first is =
        let fresh : C.old.fresh ≡ true = sym (fresh_later (room_for a.worker) (taken_by C.old) C.old.fresh (length (words_of C.went.0.change.change.entry)) first) ∙ sym C.went.0.fresh ∙ is in
        let before_is : awaits_chunk a.worker.leading ≡ true = ap awaits_chunk C.led ∙ (λ i. not (first i) && fresh i) in
        let same = lines_same a.worker b.worker (ap (λ (y : Worker). y.log) C.same) (now ∙ is ∙ sym before_is) in
        omega (arith, same)

    kept : (f : Bool) → C.new.fresh ≡ f → lines_free a.worker ≤ lines_free b.worker
    kept true is = was (is_first (taken_by C.old)) refl is
    kept false is = let low = lines_low a.worker in let at = lines_open b.worker (now ∙ is) in let same = room in omega (arith, low, at, same)

releases_filled : (before : Option Group) (seat : SeatAt) (a b : Moment) → Releases before seat a b → lines_free a.worker + (lines_in a.view.took + lines_in b.view.flying) ≤ lines_free b.worker + (lines_in b.view.took + lines_in a.view.flying)
releases_filled before seat a b R =
    let mid = R.went.0.view.1 in
    let view : b.view ≡ after_unlock (record a.view { looked = a.view.looked ++ R.went.0.view.0 }) = R.view ∙ ap after_unlock mid in
    by R.given R.released R.leads_now (ap (λ (y : View). y.took) view) (ap (λ (y : View). y.flying) view)
  where
    by : (g : Released) → IsReleased seat b.view R.last g → b.worker.leading ≡ led_by g → b.view.took ≡ a.view.took → b.view.flying ≡ a.view.flying → lines_free a.worker + (lines_in a.view.took + lines_in b.view.flying) ≤ lines_free b.worker + (lines_in b.view.took + lines_in a.view.flying)
    by (released.Nothing d) is leads_now took flying = open_filled a.view b.view a.worker b.worker R.same (ap awaits_chunk leads_now) took flying
    by (released.Batch d) is leads_now took flying =
        let same = lines_same a.worker b.worker (ap (λ (y : Worker). y.log) R.same) (ap awaits_chunk leads_now ∙ (λ i. not (is_first ((is.1 ∙ R.went.0.changes) i).taken.items) && (is.2 ∙ R.went.0.fresh) i) ∙ sym (ap awaits_chunk R.led)) in
        let a1 = ap lines_in took in
        let b1 = ap lines_in flying in
        omega (arith, same, a1, b1)

pub round_filled : (before : Option Group) (seat : SeatAt) (a b : Moment) → GoesRound before seat a b → lines_free a.worker + (lines_in a.view.took + lines_in b.view.flying) ≤ lines_free b.worker + (lines_in b.view.took + lines_in a.view.flying)
round_filled before seat a b g = ⊎_elim (λ c. collects_filled before seat.number a b c) (λ r. releases_filled before seat a b r) g
