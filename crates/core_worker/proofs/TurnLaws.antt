-- What each item of a turn keeps.
use Rattle.std.proofs.Common.{◌+◌, ◌≤◌, ◌≢◌, ◌≡◌, inl, inr, ⊎_elim, ℕ, zero, suc, Bool, true, false, cond, List, [], ◌∷◌, ◌++◌, map, length, Option, Some, None, refl, sym, ◌∙◌, ap, subst, arith}
use Rattle.std.specs.Prelude.{IfSome, IsSomeAnd}
use Rattle.pm_region.specs.State.{State, IsTelling, cell_now, Rose}
use Rattle.pm_region.proofs.Clients.{started, weaken, all_kept}
use Rattle.log_entry.specs.declared.entry.Entry.{Entry}
use Rattle.group_laws.specs.declared.types.Seen.{Seen}
use Rattle.group_laws.specs.declared.types.Slot.{Slot}
use Rattle.group_laws.specs.declared.types.Slot.TheVariants.{Failed}
use Rattle.group_laws.specs.State.{Group}
use Rattle.group_laws.specs.Runs.{Kind, Runs}
use Rattle.group_laws.specs.MemberViews.{View, view_of}
use Rattle.group_board.specs.Seats.{SeatAt}
use Rattle.group_board.specs.Views.{after_commit}
use Rattle.licence.specs.Licence.{Licensed, part_at, part_end}
use Rattle.licence.proofs.Clients.{allowed}
use Rattle.batch_leader.specs.TakenChanges.{entries_taken, taken_in}
use Rattle.batch_leader.specs.Persisting.{StaysLicensed, WritesPart}
use Rattle.batch_leader.proofs.Clients.{runs_then, no_steps}
use Rattle.core_worker.specs.declared.types.Place as places
use Rattle.core_worker.specs.declared.types.Leading.{Leading}
use Rattle.core_worker.specs.declared.types.Leading.TheVariants as leads
use Rattle.batch_leader.specs.declared.batch_buffer.BatchBuffer.{BatchBuffer}
use Rattle.fs_model.specs.declared.model.Request.{Request}
use Rattle.batch_leader.specs.Leading.{MakesAll}
use Rattle.core_worker.specs.declared.worker.Worker.{Worker}
use Rattle.core_worker.specs.OwnPlaces.{place_at, key_in, is_free, is_staged, is_busy, is_of, IsLowest}
use Rattle.core_worker.specs.Order.{MayLeadStopped, InOrder}
use Rattle.core_worker.specs.Supplies.{HasKeptRoom}
use Rattle.core_worker.specs.StandingTies.{KnowsDead, NamesAgree, most_names}
use Rattle.core_worker.proofs.NamesKnown.{dead_added}
use Rattle.core_worker.specs.Ties.{Leads, LeadsAt, LeadsNothing, HoldsAt, StandsAt, KeepsFlight, KeepsStanding}
use Rattle.batch_leader.specs.declared.taken.Taken.{Taken}
use Rattle.batch_leader.specs.Rounds.{is_first, words_taken}
use Rattle.batch_leader.specs.Leading.{HasSpace}
use Rattle.core_worker.specs.Ties.{HasSpaceFor}
use Rattle.core_worker.specs.Supplies.{room_for}
use Rattle.core_worker.proofs.BatchSpends.{batch_spends}
use Rattle.core_worker.proofs.LeadTies.{led_here, leads_of}
use Rattle.core_worker.proofs.LeftLooks.{at_looked}
use Rattle.core_worker.specs.Turns.{InOrderAt, SameButLeading, Steps, MadeOrStops, UnpledgedAt, Persists, LosesBatch, PersistsOrLoses, PassesItems}
use Rattle.core_worker.specs.Loads.{Load, load_kind, looks_at, LooksMade}
use Rattle.core_worker.specs.declared.types.Place.{Place as WorkerPlace}
use Rattle.core_worker.specs.Posting.{HasNoBlock, PostsOrStops}
use Rattle.core_worker.proofs.Given.{adds_none}
use Rattle.core_worker.specs.Turning.{MayServe, TurnMoves, KeepsTurn, Did, at_entry}
use Rattle.core_worker.specs.Turning.Did.{posts, loses_block}
use Rattle.core_worker.specs.WorkerMoves.{Spends, SpendsIn, lines_in, lines_free, Hands, Fixed, placed_in, placed_for, stock_of, hands_of, fixed_of, requests_for, AnswersKey, WorkerMoves}
use Rattle.core_worker.proofs.Led.{holds_by, stands_by}
use Rattle.core_worker.proofs.QuietMoves.{quiet_moves, for_same}
use Rattle.core_worker.proofs.NamesAgreeing.{agrees_added, lacks_taken}
use Rattle.core_worker.proofs.QuietItems.{IsLed, order_as, order_leading, leading_moves}
use Rattle.core_worker.proofs.PostMoves.{count_same, facts_of, fault_moves}

pub nothing_fixed : (seat : SeatAt) (s t : State) (before after : Option Group) (v u : View) (w x : Worker) → x.answers ≡ w.answers → WorkerMoves seat.place seat.number s t before after v u (hands_of v w) (hands_of u x) [] [] → TurnMoves seat s t before after v u w x
nothing_fixed seat s t before after v u w x same moves = record {
  fixed = [];
  answers = adds_none (IsTelling t) w.answers.items x.answers.items (ap (λ a. a.items) same);
  moves = moves;
}

-- an item in which nothing but what is led changes
pub keeps_leading : (seat : SeatAt) (s : State) (before after : Option Group) (v u : View) (w x : Worker) → HoldsAt seat u x → KeepsStanding seat v u w x → StandsAt s seat v w → Steps before after seat.number u → IsLed v u → SameButLeading w x → (w.stopped ≡ true → MayLeadStopped x.leading) → InOrderAt seat v w → (HasKeptRoom w → HasKeptRoom x) → lines_free w + (lines_in v.took + lines_in u.flying) ≤ lines_free x + (lines_in u.took + lines_in v.flying)
    → KeepsTurn seat s s before after v u w x
keeps_leading seat s before after v u w x H keeps S made L same stops O rule filled = record {
  moments = started s (Licensed seat.place seat.number v) S.licensed;
  outside = all_kept s (part_at seat.place seat.number) (part_end seat.place seat.number);
  holds = H;
  stands = keeps s S;
  order = order_leading seat.place seat.number v u w x L same stops O;
  rule = λ runs. rule;
  moves = nothing_fixed seat s s before after v u w x (ap (λ (y : Worker). y.answers) same) (leading_moves seat s before after v u w x H S (keeps s S) made L same filled);
}

-- the same change stands in a place, whatever it pledges
pub record SameChange (x y : places.Place) : Type 0 where
  pub key : key_in y ≡ key_in x
  pub free : is_free y ≡ is_free x
  pub held : (v : View) → placed_in v y ≡ placed_in v x

unpledged_same : (o : Option Entry) (x y : places.Place) → UnpledgedAt o x y → SameChange x y
unpledged_same None x y is = record { key = ap key_in is; free = ap is_free is; held = λ v. ap (placed_in v) is }
unpledged_same (Some e) x y is = record { key = ap key_in is.2 ∙ sym (ap key_in is.1); free = ap is_free is.2 ∙ sym (ap is_free is.1); held = λ v. ap (placed_in v) is.2 ∙ sym (ap (placed_in v) is.1) }

pub held_same : (v : View) (xs ys : List places.Place) → length ys ≡ length xs → ((s : ℕ) → SameChange (place_at xs s) (place_at ys s)) → (k : ℕ) → placed_for v ys k ≡ placed_for v xs k
held_same v [] [] e same k = refl
held_same v [] (y ∷ ys) e same k = absurd (omega (arith, e))
held_same v (x ∷ xs) [] e same k = absurd (omega (arith, e))
held_same v (x ∷ xs) (y ∷ ys) e same k = (λ i. cond (is_of k ((same zero).key i)) ((same zero).held v i) (held_same v xs ys (omega (arith, e)) (λ s. same (suc s)) k i))

busy_now : (xs ys : List places.Place) → length ys ≡ length xs → ((s : ℕ) → SameChange (place_at xs s) (place_at ys s)) → (k : ℕ) → is_busy ys k ≡ is_busy xs k
busy_now [] [] e same k = refl
busy_now [] (y ∷ ys) e same k = absurd (omega (arith, e))
busy_now (x ∷ xs) [] e same k = absurd (omega (arith, e))
busy_now (x ∷ xs) (y ∷ ys) e same k = (λ i. cond (is_of k ((same zero).key i)) true (busy_now xs ys (omega (arith, e)) (λ s. same (suc s)) k i))

-- the order says nothing of a batch that is lost
order_lost : (seat : SeatAt) (v : View) (w : Worker) → InOrderAt seat v w → InOrderAt seat v (record w { lost_batch = true })
order_lost seat v w O = record {
  owned = O.owned;
  single = O.single;
  distinct = O.distinct;
  heard = O.heard;
  told = O.told;
  versions = O.versions;
  mine = O.mine;
  next = O.next;
  spelled = O.spelled;
  recalls = O.recalls;
  answers = O.answers;
  hand = O.hand;
  stops = O.stops;
  agrees = O.agrees;
  log = O.log;
  names = O.names;
}

-- the batch is written, or lost
module _ (seat : SeatAt) (s t : State) (before after : Option Group) (v u : View) (w x : Worker) (H : HoldsAt seat v w) (N : HoldsAt seat u x) (T : StandsAt t seat u x) (O : InOrderAt seat v w) (runs : w.stopped ≡ false) (names : x.stopped ≡ false → x.winds_down ≡ false → most_names ≤ x.standing.room) (moments : StaysLicensed s t seat v) (outside : WritesPart s t seat) where
  written : Persists seat.number (record { worker = w; view = v }) (record { worker = x; view = u }) → Steps before after seat.number u → (x.stopped ≡ false → HasKeptRoom w → HasKeptRoom x) → KeepsTurn seat s t before after v u w x
  written P made rule = record {
    moments = moments;
    outside = outside;
    holds = N;
    stands = T;
    order = subst (λ (y : View). InOrder seat.place seat.number y x) (sym P.view) (subst (λ (y : Worker). InOrder seat.place seat.number (after_commit v) y) (sym P.same)
        (order_as seat.place seat.number v w (v.kept ++ v.flying) [] v.taken v.broken v.holds [] v.took x.log x.allocator x.leading x.standing w.stopped x.winds_down x.places
        (busy_now w.places.items x.places.items count same) (count_same w.places.items x.places.items count (λ i. (same i).free)) (λ stopped. absurd (let both : true ≡ false = sym stopped ∙ runs in cc both))
        works (λ r on. known (works on)) (λ r. names (ap (λ (y : Worker). y.stopped) P.same ∙ r)) agreed O));
    rule = rule;
    moves = nothing_fixed seat s t before after v u w x (ap (λ (y : Worker). y.answers) P.same)
        (quiet_moves seat.place seat.number s t before after v u w x N outside moments T.licensed made (ap (λ (y : View). y.cell) P.view) (ap (λ (y : View). y.pending) P.view) (ap (λ (y : View). y.blocks) P.view) (ap (λ (y : View). y.last) P.view) (ap (λ (y : View). y.posted) P.view) (λ runs. wrote)
        (held_same v w.places.items x.places.items count same) (ap (λ (y : Worker). y.queue) P.same) (ap (λ (y : Worker). y.in_hand) P.same)
        (λ e. inl (sym (ap (λ (y : Worker). y.stopped) P.same) ∙ e)) (λ e. ap (λ (y : Worker). y.stopped) P.same ∙ e));
  } where
    works : x.winds_down ≡ false → w.winds_down ≡ false
    works on = by w.winds_down refl where
      by : (b : Bool) → w.winds_down ≡ b → w.winds_down ≡ false
      by false e = e
      by true e = absurd (let both : true ≡ false = sym (P.winds e) ∙ on in cc both)

    agreed : NamesAgree seat.place seat.number (v.kept ++ v.flying) v.present v.told v.dead
    agreed =
        let had = led_here seat v w.leading (leads.Batch P.batch) H.leads P.led in
        subst (λ (es : List Entry). NamesAgree seat.place seat.number (v.kept ++ es) v.present v.told v.dead) (sym had.0.flying)
        (agrees_added seat.place seat.number v.kept (entries_taken P.batch.changes.taken.items) v.present v.told v.dead O.agrees (lacks_taken seat.number v P.batch.changes.taken.items had.0.unlogged) had.0.named)

    known : w.winds_down ≡ false → KnowsDead seat.number (v.kept ++ v.flying) v.present v.told v.dead x.standing
    known on =
        let had = led_here seat v w.leading (leads.Batch P.batch) H.leads P.led in
        subst (λ (es : List Entry). KnowsDead seat.number (v.kept ++ es) v.present v.told v.dead x.standing) (sym had.0.flying)
        (dead_added seat.number v.kept (entries_taken P.batch.changes.taken.items) v.present v.told v.dead w.standing x.standing (P.names on) (O.log runs on))

    taken : List Taken
    taken = P.batch.changes.taken.items

    -- what was in flight
    flying : v.flying ≡ entries_taken taken
    flying = (led_here seat v w.leading (leads.Batch P.batch) H.leads P.led).0.flying

    some_taken : is_first taken ≡ false
    some_taken = by taken (λ none. (led_here seat u x.leading (leads.Persisted P.done) N.leads P.leads_now).3 (P.gives ∙ none)) where
      by : (ts : List Taken) → (ts ≢ []) → is_first ts ≡ false
      by [] some = absurd (some refl)
      by (t ∷ ts) some = refl

    space_had : HasSpace (room_for w) P.batch.fresh P.batch.own_lines (words_taken taken)
    space_had = subst (HasSpaceFor w) P.led (H.space runs)

    wrote : Spends seat.place.layout v.took v.flying u.took u.flying (stock_of w) (stock_of x) None
    wrote = batch_spends seat.place seat.number v u w x H N P flying some_taken space_had

    count : length x.places.items ≡ length w.places.items
    count = N.eight ∙ sym H.eight

    same : (n : ℕ) → SameChange (place_at w.places.items n) (place_at x.places.items n)
    same n = unpledged_same (taken_in P.batch.changes.taken.items seat.number n) (place_at w.places.items n) (place_at x.places.items n) (P.pledged n)

  lost : LosesBatch (record { worker = w; view = v }) (record { worker = x; view = u }) → after ≡ before → Rose s.faults t.faults → (x.stopped ≡ false → HasKeptRoom w → HasKeptRoom x) → KeepsTurn seat s t before after v u w x
  lost P group rose rule = record {
    moments = moments;
    outside = outside;
    holds = N;
    stands = T;
    order = subst (λ (y : View). InOrder seat.place seat.number y x) (sym P.view) (subst (λ (y : Worker). InOrder seat.place seat.number v y) (sym P.same)
        (order_as seat.place seat.number v (record w { lost_batch = true }) v.kept v.flying v.taken v.broken v.holds v.looked v.took x.log x.allocator x.leading x.standing true w.winds_down w.places (λ k. refl) refl (λ stopped. subst MayLeadStopped (sym P.leads_now) tt) (λ on. on) (λ r. absurd (cc r)) (λ r. absurd (cc r)) O.agrees (order_lost seat v w O)));
    rule = rule;
    moves = nothing_fixed seat s t before after v u w x (ap (λ (y : Worker). y.answers) P.same)
        (subst (λ (a : Option Group). WorkerMoves seat.place seat.number s t before a v u (hands_of v w) (hands_of u x) [] []) (sym group)
        (subst (λ (y : View). WorkerMoves seat.place seat.number s t before before v y (hands_of v w) (hands_of y x) [] []) (sym P.view)
        (fault_moves seat.place seat.number s t before v w x (subst (λ (y : View). HoldsAt seat y x) P.view N) (λ k. ap (λ (y : Worker). placed_for v y.places.items k) P.same) (λ k. ap (λ (y : Worker). (hands_of v y).waits k) P.same) P.stopped outside moments
        (λ telling. subst (λ (y : View). Licensed seat.place seat.number y (cell_now t)) P.view (T.licensed telling)) rose)));
  }

  pub keeps_batch : PersistsOrLoses x.stopped seat.number (record { worker = w; view = v }) (record { worker = x; view = u }) → MadeOrStops x.stopped before after seat.number v u → (x.stopped ≡ true → Rose s.faults t.faults) → (x.stopped ≡ false → HasKeptRoom w → HasKeptRoom x) → KeepsTurn seat s t before after v u w x
  keeps_batch which made cause rule = by x.stopped refl which made where
    by : (b : Bool) → x.stopped ≡ b → PersistsOrLoses b seat.number (record { worker = w; view = v }) (record { worker = x; view = u }) → MadeOrStops b before after seat.number v u → KeepsTurn seat s t before after v u w x
    by true e P made = lost P made.0 (cause e) rule
    by false e P made = written P made rule

-- posting, after the block
posts_answers : (m : ℕ) (before after : Option Group) (v u : View) (w x : Worker) (slot : ℕ) → PostsOrStops m before after v u w x slot → x.answers ≡ w.answers
posts_answers m before after v u w x slot which = ⊎_elim
    (λ done. ap (λ (y : Worker). y.answers) done.2.rest ∙ ap (λ (y : Worker). y.answers) done.1)
    (λ stops. ap (λ (y : Worker). y.answers) stops.0)
    which

pub keeps_posts : (seat : SeatAt) (s t : State) (before after : Option Group) (v u : View) (w x : Worker) (slot : ℕ) → StaysLicensed s t seat v → WritesPart s t seat → HoldsAt seat u x → StandsAt t seat u x → (InOrderAt seat v w → InOrderAt seat u x) → InOrderAt seat v w → (HasKeptRoom w → HasKeptRoom x) → PostsOrStops seat.number before after v u w x slot
    → WorkerMoves seat.place seat.number s t before after v u (hands_of v w) (hands_of u x) [] [] → KeepsTurn seat s t before after v u w x
keeps_posts seat s t before after v u w x slot moments outside H S order O rule which moves = record {
  moments = moments;
  outside = outside;
  holds = H;
  stands = S;
  order = order O;
  rule = λ runs. rule;
  moves = nothing_fixed seat s t before after v u w x (posts_answers seat.number before after v u w x slot which) moves;
}

-- nothing was done
pub keeps_same : (seat : SeatAt) (s : State) (a : Option Group) (v : View) (w : Worker) → HoldsAt seat v w → StandsAt s seat v w → InOrderAt seat v w → IfSome a (λ u. (seat.place ≡ u.place) × (v ≡ view_of u seat.number)) → KeepsTurn seat s s a a v v w w
keeps_same seat s a v w H S O agrees =
    keeps_leading seat s a a v v w w H (λ t T. T) S ([], no_steps a seat.number seat.place v agrees)
    (record { flying = v.flying; taken = v.taken; broken = v.broken; holds = v.holds; looked = v.looked; took = v.took; is = refl }) refl O.stops O (λ r. r) (omega arith)

-- the lowest staged change was posted, or its block could not be written
pub posts_did : (s t : State) (refused : Bool) (seat : SeatAt) (start before after : Option Group) (v mid u : View) (w x : Worker) (slot : ℕ) → PassesItems seat.number (at_entry w v) 8 mid → IsLowest is_staged w.places.items slot → w.stopped ≡ false → w.winds_down ≡ false → PostsOrStops seat.number before after mid u w x slot → (HasNoBlock (place_at w.places.items slot) → t ≡ s) → (x.stopped ≡ false → t.faults ≡ s.faults)
    → Did s t refused start seat (at_entry w v) (at_entry x u)
posts_did s t refused seat start before after v mid u w x slot passes lowest runs works which plain calm = ⊎_elim
    (λ done. let F = facts_of seat.number before after mid u w done.0 x slot done.1 done.2 in
    posts (record {
      slot = slot;
      number = F.number;
      entry = F.entry;
      value = F.value;
      lines = F.lines;
      mid = mid;
      before = passes;
      runs = (runs, works);
      lowest = lowest;
      place = F.was;
      pledges = F.pledges;
      places = F.places;
      view = F.view;
      same = F.same;
    }) (λ bare. plain (subst (λ (y : WorkerPlace). HasNoBlock y) (sym F.was) bare)) (calm (ap (λ (y : Worker). y.stopped) F.same ∙ runs)))
    (λ stops. loses_block (record {
      slot = slot;
      mid = mid;
      before = passes;
      runs = (runs, works);
      lowest = lowest;
      view = stops.1;
      same = stops.0;
    }))
    which

-- loads change no slot, and are steps of the one member
looks_slots : (w u : Group) (m : ℕ) (ss : List Load) → Runs w (looks_at m ss) u → u.slot ≡ w.slot
looks_slots w u m ss r = ap (λ (x : Group). x.slot) (at_looked w u m ss r).1

abbrev pub kinds_of : List Load → ℕ → List Kind
kinds_of [] m = []
kinds_of (l ∷ ss) m = load_kind m l ∷ kinds_of ss m

pub kinds_made : (m : ℕ) (ss : List Load) (ks : List Kind) → looks_at m ss ++ map {B = ℕ × Kind} (λ y. (m, y)) ks ≡ map {B = ℕ × Kind} (λ y. (m, y)) (kinds_of ss m ++ ks)
kinds_made m [] ks = refl
kinds_made m (l ∷ ss) ks = ap (λ xs. (m, load_kind m l) ∷ xs) (kinds_made m ss ks)

looks_then : (before mid after : Option Group) (m : ℕ) (ss : List Load) (ks : List Kind) (v : View) → MakesAll before (looks_at m ss) mid m v → IfSome mid (λ a. IsSomeAnd after (λ b. Runs a (map {B = ℕ × Kind} (λ y. (m, y)) ks) b)) → IfSome before (λ a. IsSomeAnd after (λ b. Runs a (map {B = ℕ × Kind} (λ y. (m, y)) (kinds_of ss m ++ ks)) b))
looks_then None mid after m ss ks v made then = tt
looks_then (Some a) None after m ss ks v made then = absurd made
looks_then (Some a) (Some b) None m ss ks v made then = absurd then
looks_then (Some a) (Some b) (Some d) m ss ks v made then = subst (λ (xs : List (ℕ × Kind)). Runs a xs d) (kinds_made m ss ks) (runs_then a b d (looks_at m ss) (map {B = ℕ × Kind} (λ y. (m, y)) ks) made.0 then)

stood_before : (before mid : Option Group) (m : ℕ) (ss : List Load) (v : View) → MakesAll before (looks_at m ss) mid m v → IfSome mid (λ a. (n : ℕ) × (d : Entry) × (a.slot m n ≡ Failed d)) → IfSome before (λ a. (n : ℕ) × (d : Entry) × (a.slot m n ≡ Failed d))
stood_before None mid m ss v made stood = tt
stood_before (Some a) None m ss v made stood = absurd made
stood_before (Some a) (Some b) m ss v made stood = (stood.0, stood.1, ap (λ (f : ℕ → ℕ → Slot). f m stood.0) (sym (looks_slots a b m ss made.0)) ∙ stood.2)

abbrev seen_view : View → List Seen → View
seen_view v xs = record v { looked = xs }

hands_seen : (v : View) (xs : List Seen) (w : Worker) → hands_of (seen_view v xs) w ≡ hands_of v w
hands_seen v xs w = (λ i. record { place = λ k. for_same v (seen_view v xs) w.places.items k refl refl i; waits = (hands_of v w).waits; stopped = w.stopped; stock = stock_of w })

key_seen : (v u : View) (xs : List Seen) (w x : Hands) (k : ℕ) (accepted : List (ℕ × Request)) (fixed : List Fixed) → AnswersKey (seen_view v xs) u w x k accepted fixed → AnswersKey v u w x k accepted fixed
key_seen v u xs w x k accepted fixed A = record { order = A.order; lawful = A.lawful; cell = A.cell; after_stop = A.after_stop; stops = A.stops; posted = A.posted; doubt = A.doubt }

spends_seen : {p : _} {m : ℕ} (v u : View) (xs : List Seen) (w x : Hands) (fixed : List Fixed) → SpendsIn p m (seen_view v xs) u w x [] fixed → SpendsIn p m v u w x [] fixed
spends_seen v u xs w x fixed S = record { runs = S.runs; stays = S.stays; begun = S.begun; begins = S.begins; posts = ⊎_elim (λ same. inl same) (λ Q. inr (record { change = Q.change; own = Q.own; was = Q.was; staged = Q.staged; now = Q.now; entry = Q.entry; more = Q.more; few = Q.few })) S.posts; spends = S.spends }

-- what comes after loads is the whole turn's
module _ (seat : SeatAt) (s t : State) (before mid after : Option Group) (v : View) (xs : List Seen) (u : View) (w x : Worker) (ss : List Load) (made : MakesAll before (looks_at seat.number ss) mid seat.number (seen_view v xs)) where
  moments_seen : StaysLicensed s t seat (seen_view v xs) → StaysLicensed s t seat v
  moments_seen M = weaken s t (Licensed seat.place seat.number (seen_view v xs)) (Licensed seat.place seat.number v)
      (λ telling cells licence image may. allowed seat.place seat.number (seen_view v xs) v image (record { kept = refl; flying = refl; doomed = λ k n e. e; blocks = λ q b e. e }) (licence image may)) M

  moves_seen : (fixed : List Fixed) → WorkerMoves seat.place seat.number s t mid after (seen_view v xs) u (hands_of (seen_view v xs) w) (hands_of u x) [] fixed → WorkerMoves seat.place seat.number s t before after v u (hands_of v w) (hands_of u x) [] fixed
  moves_seen fixed M =
      let N : WorkerMoves seat.place seat.number s t mid after (seen_view v xs) u (hands_of v w) (hands_of u x) [] fixed = subst (λ (h : Hands). WorkerMoves seat.place seat.number s t mid after (seen_view v xs) u h (hands_of u x) [] fixed) (hands_seen v xs w) M in
      record {
        outside = N.outside;
        moments = moments_seen N.moments;
        exit = N.exit;
        steps = kinds_of ss seat.number ++ N.steps;
        whole = looks_then before mid after seat.number ss N.steps (seen_view v xs) made N.whole;
        own = N.own;
        keys = λ k own. key_seen v u xs (hands_of v w) (hands_of u x) k (requests_for k []) (fixed_of k fixed) (N.keys k own);
        holds = N.holds;
        refuses = N.refuses;
        spends = spends_seen v u xs (hands_of v w) (hands_of u x) fixed N.spends;
        stops = λ e. ⊎_elim (λ a. inl a) (λ b. inr (⊎_elim (λ rose. inl rose) (λ stood. inr (stood.0, stood_before before mid seat.number ss (seen_view v xs) made stood.1)) b)) (N.stops e);
        breaks = N.breaks;
        stays_stopped = N.stays_stopped;
      }

  seen_keeps : KeepsTurn seat s t mid after (seen_view v xs) u w x → KeepsTurn seat s t before after v u w x
  seen_keeps K = record {
    moments = moments_seen K.moments;
    outside = K.outside;
    holds = K.holds;
    stands = K.stands;
    order = K.order;
    rule = K.rule;
    moves = let M = K.moves in record { fixed = M.fixed; answers = M.answers; moves = moves_seen M.fixed M.moves };
  }

pub keeps_looked : (seat : SeatAt) (s t : State) (before mid after : Option Group) (v v' u : View) (w x : Worker) (xs : List Seen) → v' ≡ record v { looked = xs } → LooksMade before mid seat.number v' → KeepsTurn seat s t mid after v' u w x → KeepsTurn seat s t before after v u w x
keeps_looked seat s t before mid after v v' u w x xs is looks K =
    seen_keeps seat s t before mid after v xs u w x looks.0 (subst (λ (y : View). MakesAll before (looks_at seat.number looks.0) mid seat.number y) is looks.1) (subst (λ (y : View). KeepsTurn seat s t mid after y u w x) is K)

nothing_seen : (seat : SeatAt) (v v' : View) (xs : List Seen) (b : BatchBuffer) → v' ≡ record v { looked = xs } → LeadsAt seat v (leads.Nothing b) → LeadsAt seat v' (leads.Nothing b)
nothing_seen seat v v' xs b is L = subst (λ (y : View). LeadsAt seat y (leads.Nothing b)) (sym is) (L.0, L.1, L.2)

leads_seen : (seat : SeatAt) (v v' : View) (xs : List Seen) (l : Leading) (b : BatchBuffer) → l ≡ leads.Nothing b → v' ≡ record v { looked = xs } → Leads seat.place seat.number v l → Leads seat.place seat.number v' l
leads_seen seat v v' xs l b nothing is L =
    subst (λ (k : Leading). Leads seat.place seat.number v' k) (sym nothing) (leads_of seat v' (leads.Nothing b) (nothing_seen seat v v' xs b is (led_here seat v l (leads.Nothing b) L nothing)))

-- loads keep the ties
pub looked_holds : (seat : SeatAt) (v v' : View) (w : Worker) (xs : List Seen) → v' ≡ record v { looked = xs } → LeadsNothing w → HoldsAt seat v w → HoldsAt seat v' w
looked_holds seat v v' w xs is nothing H =
    holds_by seat.place seat.number v v' w v.flying v.taken v.holds xs v.took w.leading is H (leads_seen seat v v' xs w.leading nothing.0 nothing.1 is H.leads) H.cleaning H.space H.lost
    (subst (λ (y : View). KeepsFlight y.flying y.broken w.leading w.lost_batch w.stopped) (sym is) H.flight)

pub looked_stands : (s : State) (seat : SeatAt) (v v' : View) (w : Worker) (xs : List Seen) → v' ≡ record v { looked = xs } → StandsAt s seat v w → StandsAt s seat v' w
looked_stands s seat v v' w xs is S = stands_by s seat.place seat.number v v' w v.taken v.holds xs v.took w.leading is S

pub looked_order : (seat : SeatAt) (v v' : View) (w : Worker) (xs : List Seen) → v' ≡ record v { looked = xs } → InOrderAt seat v w → InOrderAt seat v' w
looked_order seat v v' w xs is O = order_leading seat.place seat.number v v' w w (record { flying = v.flying; taken = v.taken; broken = v.broken; holds = v.holds; looked = xs; took = v.took; is = is }) refl O.stops O

pub looked_may : (s : State) (seat : SeatAt) (v v' : View) (w : Worker) (xs : List Seen) → v' ≡ record v { looked = xs } → MayServe s seat v w → MayServe s seat v' w
looked_may s seat v v' w xs is M = record {
  tied = record {
    holds = looked_holds seat v v' w xs is M.nothing M.tied.holds;
    stands = looked_stands s seat v v' w xs is M.tied.stands;
    order = looked_order seat v v' w xs is M.tied.order;
  };
  nothing = M.nothing;
}
