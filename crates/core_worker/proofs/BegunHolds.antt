-- A cleaning that begins: what it leaves of a worker's ties, of its order and of the room rule.
use Rattle.std.proofs.Common.{◌≡◌, ◌≢◌, ◌⊎◌, inl, inr, ⊎_elim, ℕ, zero, suc, ◌+◌, ◌*◌, ◌≤◌, ◌<◌, ◌||◌, ◌++◌, Bool, true, false, List, [], ◌∷◌, length, map, Option, Some, is_some, cond, refl, sym, ◌∙◌, ap, subst, arith}
use Rattle.std.specs.Prelude.{nat_le, option_map, slice_get}
use Rattle.std.specs.List.{AllByRecursion}
use Rattle.std.proofs.lemmas.Bool.{and_parts, leb-true}
use Rattle.pm_region.specs.State.{State, IsTelling}
use Rattle.pm_region.proofs.Clients.{all_kept, started}
use Rattle.chunk_map.specs.declared.layouts.Geometry.{Geometry}
use Rattle.chunk_map.specs.Layouts.{payload_lines}
use Rattle.log_entry.specs.declared.entry.EntryName.{EntryName}
use Rattle.core_log.specs.Log.{tail_of}
use Rattle.core_log.specs.Walking.{entries_in}
use Rattle.core_room.specs.RoomRule.{KeepsRoom, KeepsRoomAtCleaning}
use Rattle.group_board.specs.declared.names.Notices.{Notices}
use Rattle.log_standing.specs.NameCounts.{StandingState, count_of, is_told}
use Rattle.log_standing.specs.Tallies.{TallyState}
use Rattle.log_entry.specs.declared.entry.Entry.{Entry}
use Rattle.log_cleaner.specs.Choosing.{copy_lines}
use Rattle.log_cleaner.specs.Clearing.{ClearingState}
use Rattle.log_cleaner.specs.Copying.{words_sum}
use Rattle.log_cleaner.specs.Floors.{HasFloors}
use Rattle.log_cleaner.proofs.ChoiceLaws.{tail_small}
use Rattle.log_cleaner.proofs.Parts.{chunk_of}
use Rattle.log_cleaner.proofs.FloorLaws.{floors_tally, left_alike, left_searched}
use Rattle.log_cleaner.proofs.SettledLaws.{settled_alike}
use Rattle.log_cleaner.proofs.Tallies.{tally_begins}
use Rattle.group_laws.specs.Places.{Place}
use Rattle.group_laws.specs.State.{Group}
use Rattle.group_laws.specs.Updates.{has}
use Rattle.group_laws.specs.MemberViews.{View}
use Rattle.group_board.specs.Seats.{SeatAt}
use Rattle.licence.specs.Licence.{Licensed, part_at, part_end}
use Rattle.core_index.specs.Index.{known_at}
use Rattle.core_worker.specs.declared.types.Cleaning.{Cleaning}
use Rattle.core_worker.specs.declared.types.Cleaning.TheVariants.{Nothing, Copying}
use Rattle.core_worker.specs.declared.worker.Worker.{Worker}
use Rattle.core_worker.specs.BeginsCleaning.{waiting_of, BeginsNone, BeginsOne, LooksForOne, MakesPlaces}
use Rattle.core_worker.specs.CleaningLeft.{box_left, clears_left}
use Rattle.core_worker.specs.KeepsCleaning.{Cleans}
use Rattle.core_worker.specs.KeyTies.{KnowsKey}
use Rattle.core_worker.specs.Left.{serves_left, left}
use Rattle.core_worker.specs.LogNames.{IsCleanedBy, NamesStand}
use Rattle.core_worker.specs.Order.{InOrder}
use Rattle.core_worker.specs.Outbox.{mailing, waiting_dead, AreToSend, HasSpare, KeepsMail}
use Rattle.core_worker.specs.OwnChunks.{IsTaken}
use Rattle.core_worker.specs.Supplies.{supply_of, room_for, under_way, rest, counted_by, left_in, no_more_than, KeepsRule, HasKeptRoom}
use Rattle.core_worker.specs.Ties.{HasSpaceFor, Holds, HoldsAt, LeadsNothing, Stands, StandsAt}
use Rattle.core_worker.specs.Turning.{KeepsTurn, TurnMoves}
use Rattle.core_worker.specs.Turns.{InOrderAt, Steps}
use Rattle.core_worker.specs.WorkerMoves.{stock_of}
use Rattle.core_worker.proofs.ChunksKept.{chunk_taken}
use Rattle.core_worker.proofs.ClearsLeft as clears
use Rattle.core_worker.proofs.CleaningKept.{keeps_counts, runs_way}
use Rattle.core_worker.proofs.QuietMoves.{quiet_moves}
use Rattle.core_worker.proofs.StockFacts.{still_spend, stock_small}
use Rattle.core_worker.proofs.TurnLaws.{nothing_fixed}
use Rattle.core_worker.proofs.UnderWay.{fewer_lines, left_fewer, nothing_raw}

-- lists of which the same waits
record SameBox (o n : Notices) : Type 0 where
  dead : n.dead.names ≡ o.dead.names
  gone : n.gone.names ≡ o.gone.names

box_was : (old new : List Notices) → map waiting_of new ≡ map waiting_of old → (h : ℕ) (n : Notices) → slice_get new h ≡ Some n → (o : Notices) × (slice_get old h ≡ Some o) × SameBox o n
box_was [] [] same h n is = absurd (cc is)
box_was [] (y ∷ ys) same h n is = absurd (cc same)
box_was (x ∷ xs) [] same h n is = absurd (cc same)
box_was (x ∷ xs) (y ∷ ys) same zero n is =
    let here : y ≡ n = cc is in
    let both : waiting_of y ≡ waiting_of x = cc same in
    (x, refl, record { dead = ap (λ (z : Notices). z.dead.names) (sym here) ∙ ap (λ (z : List EntryName × List EntryName). z.0) both; gone = ap (λ (z : Notices). z.gone.names) (sym here) ∙ ap (λ (z : List EntryName × List EntryName). z.1) both })
box_was (x ∷ xs) (y ∷ ys) same (suc h) n is = let rest : map waiting_of ys ≡ map waiting_of xs = cc same in box_was xs ys rest h n is

waiting_was : (old new : List Notices) → map waiting_of new ≡ map waiting_of old → waiting_dead new ≡ waiting_dead old
waiting_was [] [] same = refl
waiting_was [] (y ∷ ys) same = absurd (cc same)
waiting_was (x ∷ xs) [] same = absurd (cc same)
waiting_was (x ∷ xs) (y ∷ ys) same =
    let both : waiting_of y ≡ waiting_of x = cc same in
    let rest : map waiting_of ys ≡ map waiting_of xs = cc same in
    let more = waiting_was xs ys rest in
    (λ i. (ap (λ (z : List EntryName × List EntryName). z.0) both) i ++ more i)

length_was : (old new : List Notices) → map waiting_of new ≡ map waiting_of old → length new ≡ length old
length_was [] [] same = refl
length_was [] (y ∷ ys) same = absurd (cc same)
length_was (x ∷ xs) [] same = absurd (cc same)
length_was (x ∷ xs) (y ∷ ys) same = let rest : map waiting_of ys ≡ map waiting_of xs = cc same in let more = length_was xs ys rest in omega (arith, more)

box_left_was : (old new : List Notices) → map waiting_of new ≡ map waiting_of old → box_left new ≡ box_left old
box_left_was [] [] same = refl
box_left_was [] (y ∷ ys) same = absurd (cc same)
box_left_was (x ∷ xs) [] same = absurd (cc same)
box_left_was (x ∷ xs) (y ∷ ys) same =
    let both : waiting_of y ≡ waiting_of x = cc same in
    let rest : map waiting_of ys ≡ map waiting_of xs = cc same in
    let more = box_left_was xs ys rest in
    let dead = ap (λ (z : List EntryName × List EntryName). length z.0) both in
    let gone = ap (λ (z : List EntryName × List EntryName). length z.1) both in
    omega (arith, more, dead, gone)

spare_at : (boxes : List Notices) → AllByRecursion HasSpare boxes → (h : ℕ) (n : Notices) → slice_get boxes h ≡ Some n → HasSpare n
spare_at [] all h n is = absurd (cc is)
spare_at (x ∷ xs) all zero n is = let same : x ≡ n = cc is in subst HasSpare same all.0
spare_at (x ∷ xs) all (suc h) n is = spare_at xs all.1 h n is

mail_was : (p : Place) (m : ℕ) (v : View) (winds : Bool) (old new : List Notices) (most : ℕ) → MakesPlaces most old new → KeepsMail p m v winds old → KeepsMail p m v winds new
mail_was p m v winds old new most P M = record {
  count = length_was old new P.waits ∙ M.count;
  each = λ h n is. (let o = box_was old new P.waits h n is in let A = M.each h o.0 o.1 in record {
    dead = subst (AreToSend p m h v) (sym o.2.dead) A.dead;
    gone = λ k i yes. A.gone k i (ap (λ (ns : List EntryName). has ns k i) (sym o.2.gone) ∙ yes);
  });
  own = λ n is. (let o = box_was old new P.waits m n is in let none = M.own o.0 o.1 in (o.2.dead ∙ none.0, o.2.gone ∙ none.1));
  spare = λ on h n is. spare_at new P.spare h n is;
}

module _ (s : State) (p : Place) (m : ℕ) (v : View) (w x : Worker) (H : Holds p m v w) (S : Stands s p m v w) (O : InOrder p m v w) (nothing : LeadsNothing w) (clean : under_way w ≡ Nothing) (B : BeginsOne s w x) where
  abbrev begun : Worker
  begun = record w { standing = x.standing; notices = x.notices; own_gone = x.own_gone; cleaning = Copying B.victim true; clearing = x.clearing; last_victim = Some B.victim.chunk; accepted = false }

  few_words : (B.victim.words ≤ 524288) × (B.victim.entries ≤ 524288)
  few_words =
      let small = tail_small s w.log B.victim.chunk (S.log B.runs.0) B.chosen.has in
      let a = B.chosen.words in
      let b = B.chosen.entries in
      (omega (arith, small, a), omega (arith, small, b))

  -- the copies are a third of a chunk, and have room
  parts : (nat_le (3 * copy_lines B.victim) (room_for w).payload_lines ≡ true) × ((nat_le ((room_for w).pledged_lines + copy_lines B.victim) (room_for w).open_lines || nat_le 1 (room_for w).free_chunks) ≡ true)
  parts = and_parts (nat_le (3 * copy_lines B.victim) (room_for w).payload_lines) (nat_le ((room_for w).pledged_lines + copy_lines B.victim) (room_for w).open_lines || nat_le 1 (room_for w).free_chunks) B.chosen.fitting

  third : 3 * rest (Copying B.victim true) ≤ payload_lines w.log.layout
  third = leb-true (3 * copy_lines B.victim) (room_for w).payload_lines parts.0

  within : B.victim.chunk < p.layout.chunks
  within = (let low = (chunk_of s w.log (S.log B.runs.0) B.victim.chunk B.chosen.has).within in let lay = ap (λ (l : Geometry). l.chunks) H.log_layout in omega (arith, low, lay))

  cleans : Cleans p m v.doomed v.dead w.stopped w.winds_down w.leading w.log w.allocator x.standing x.clearing x.own_gone x.notices.items (Copying B.victim true)
  cleans = record {
    goes = tt;
    runs = B.runs.0;
    works = B.runs.1;
    idle = nothing;
    now = B.now;
    is = B.is;
    chunk = subst (λ (j : ℕ). is_some (tail_of w.log.chunks j) ≡ true) (sym B.chunk) B.chosen.has;
    closed = subst (λ (j : ℕ). w.log.opened ≢ Some j) (sym B.chunk) B.chosen.closed;
    taken = taken.0;
    uncut = taken.1;
    scarce = B.scarce;
    phase = record {
      chunk = B.chunk;
      fresh = B.fresh;
      small = (let a = few_words.0 in let b = few_words.1 in (omega (arith, a), omega (arith, b)));
      third = third;
    };
    own_places = B.own_gone;
    places = B.waiting.places;
  } where
    taken : IsTaken w.allocator B.now.chunk
    taken = subst (IsTaken w.allocator) (sym B.chunk) (chunk_taken p.layout.chunks w.allocator w.log.chunks (H.chunks B.runs.0) B.victim.chunk within B.chosen.has)

  pub holds_now : Holds p m v begun
  holds_now = record {
    place = H.place;
    member = H.member;
    core = H.core;
    layout = H.layout;
    log_layout = H.log_layout;
    log_part = H.log_part;
    sets = H.sets;
    allocator_layout = H.allocator_layout;
    allocator_part = H.allocator_part;
    spelled = H.spelled;
    eight = H.eight;
    placed = H.placed;
    apart = H.apart;
    pending = H.pending;
    admitted = H.admitted;
    keys = λ k own which. subst (λ (ns : List EntryName). KnowsKey p (mailing ns v) k (known_at w.index k)) (sym (waiting_was w.notices.items x.notices.items B.waiting.waits)) (H.keys k own which);
    mail = mail_was p m v w.winds_down w.notices.items x.notices.items B.now.room B.waiting H.mail;
    blocks = H.blocks;
    waits = H.waits;
    leads = H.leads;
    space = λ r. subst (HasSpaceFor begun) (sym nothing.1) tt;
    broken = H.broken;
    lost = H.lost;
    flight = H.flight;
    cleaning = inr cleans;
    remembers = H.remembers;
    chunks = H.chunks;
  }

  told_same : (k n : ℕ) → is_told x.standing k n ≡ is_told w.standing k n
  told_same k n = ap (λ (st : StandingState). is_told st k n) B.standing ∙ B.looks.names.told k n

  count_same : (k n : ℕ) → count_of x.standing k n ≡ count_of w.standing k n
  count_same k n = ap (λ (st : StandingState). count_of st k n) B.standing ∙ B.looks.names.counts k n

  settled_is : x.standing.settled ≡ w.standing.settled
  settled_is = ap (λ (st : StandingState). st.settled) B.standing ∙ B.looks.names.settled

  room_is : x.standing.room ≡ w.standing.room
  room_is = ap (λ (st : StandingState). st.room) B.standing ∙ B.looks.names.room

  pub order_now : InOrder p m v begun
  order_now = record {
    owned = O.owned;
    single = O.single;
    distinct = O.distinct;
    heard = O.heard;
    told = O.told;
    versions = O.versions;
    mine = O.mine;
    next = O.next;
    spelled = O.spelled;
    recalls = O.recalls;
    answers = O.answers;
    hand = O.hand;
    stops = O.stops;
    agrees = O.agrees;
    log = λ r on. (let L = O.log r on in record { deaths = λ k n is. L.deaths k n (sym (told_same k n) ∙ is); buried = L.buried; own = L.own; heard = L.heard });
    names = λ r on. (let were = O.names r on in let room = room_is in omega (arith, were, room));
  }

  names_now : w.winds_down ≡ false → IsTelling s → NamesStand s m v.kept v.present v.told v.dead w.log x.standing x.clearing (Copying B.victim true)
  names_now on telling =
      let N = S.names B.runs.0 on telling in
      let bounds = tally_begins s w.log w.standing B.victim.chunk B.victim (B.next telling).0 in
      record {
        counted = record {
          counts = λ k n. count_same k n ∙ N.counted.counts k n;
          settled = λ h at. settled_alike s w.log w.standing x.standing h (left_alike w.standing x.standing count_same told_same) (N.counted.settled h (sym settled_is ∙ at));
        };
        read = λ h at. N.read h (sym settled_is ∙ at);
        floors = subst (λ (st : StandingState). HasFloors s w.log st) (sym B.standing) (floors_tally s w.log B.found.standing x.standing.tally (B.looks.floors (λ t. N.floors) telling));
        knows = record {
          stands = λ k n some. N.knows.stands k n (let c = count_same k n in omega (arith, c, some));
          all = λ k n is. (let c = count_same k n in let some = N.knows.all k n is in omega (arith, c, some));
          deaths = λ k n. told_same k n ∙ N.knows.deaths k n;
          buried = N.knows.buried;
          own = N.knows.own;
          heard = N.knows.heard;
        };
        cleaned = record {
          chunk = B.chosen.has;
          bounds =
              let left = left_alike w.standing x.standing count_same told_same (entries_in s w.log B.victim.chunk) in
              let long = ap (λ (l : List (ℕ × Entry)). length l) left in
              let wide = ap words_sum left in
              let e = bounds.entries in
              let f = bounds.words in
              record { entries = omega (arith, long, e); words = omega (arith, wide, f) };
          counts = B.counts telling;
          room = λ c is. (let same : B.now ≡ c = (let both : Some B.now ≡ Some c = sym B.is ∙ is in cc both) in let room = B.room telling in let at = ap (λ (y : ClearingState). y.room) same in omega (arith, room, at));
        };
      }

  pub stands_now : Stands s p m v begun
  stands_now = record {
    lies = S.lies;
    licensed = S.licensed;
    landed = S.landed;
    log = S.log;
    free = S.free;
    due = S.due;
    cut = S.cut;
    names = λ r on telling. names_now on telling;
  }

  way_now : under_way begun ≡ counted_by (left_in x.standing) (Copying B.victim true)
  way_now = runs_way begun B.runs.0 B.runs.1

  rests : rest (under_way w) ≡ 0
  rests = ap rest clean

  less_now : rest (under_way begun) ≤ copy_lines B.victim
  less_now = (let less = left_fewer (left_in x.standing) B.victim in let few = fewer_lines (no_more_than (left_in x.standing) B.victim).entries (no_more_than (left_in x.standing) B.victim).words B.victim.entries B.victim.words less.0 less.1 in let at = ap rest way_now in omega (arith, few, at))

  pub room_now : HasKeptRoom w → HasKeptRoom begun
  room_now had = subst (λ (c : Cleaning). KeepsRule c (supply_of begun)) (sym way_now) (kept (subst (λ (c : Cleaning). KeepsRule c (supply_of w)) clean had)) where
    or_parts : (a b : Bool) → (a || b) ≡ true → (a ≡ true) ⊎ (b ≡ true)
    or_parts true b is = inl refl
    or_parts false b is = inr is

    -- without a free chunk they have room in the open one
    kept : KeepsRoom (supply_of w) → KeepsRoomAtCleaning (supply_of begun)
    kept k =
        let zero_rest = rests in
        let few = less_now in
        let scarce = B.scarce in
        ⊎_elim
        (λ fit. let le = leb-true ((room_for w).pledged_lines + copy_lines B.victim) (room_for w).open_lines fit in inl (inl (omega (arith, le, zero_rest, few))))
        (λ free. let one = leb-true 1 (room_for w).free_chunks free in inr (⊎_elim (λ fits. omega (arith, fits, zero_rest)) (λ two. absurd (omega (arith, two, scarce))) k, one))
        (or_parts (nat_le ((room_for w).pledged_lines + copy_lines B.victim) (room_for w).open_lines) (nat_le 1 (room_for w).free_chunks) parts.1)

  raw_nothing : w.cleaning ≡ Nothing
  raw_nothing = nothing_raw (left_in w.standing) w.cleaning (sym (runs_way w B.runs.0 B.runs.1) ∙ clean)

  pub begun_less : left x < left w
  begun_less =
      let same = ap serves_left B.same in
      let kept = ap (λ (y : Worker). clears_left y.accepted y.cleaning y.standing y.index y.notices.items) B.same in
      let was : clears_left w.accepted w.cleaning w.standing w.index w.notices.items ≡ clears_left true Nothing w.standing w.index w.notices.items = (λ i. clears_left (B.accepted i) (raw_nothing i) w.standing w.index w.notices.items) in
      let small = few_words.1 in
      let less = clears.begins w.standing w.index w.notices.items B.victim (omega (arith, small)) in
      let names = ap (λ (st : StandingState). length st.entries) B.standing ∙ B.looks.names.names in
      let boxes = box_left_was w.notices.items x.notices.items B.waiting.waits in
      let stays = clears.same_left false (Copying B.victim true) w.standing x.standing w.index w.notices.items x.notices.items names boxes in
      omega (arith, same, kept, was, less, stays)

-- The beginning keeps what a turn keeps.
pub keeps_begun : (seat : SeatAt) (s : State) (before : Option Group) (v : View) (w x : Worker) (H : HoldsAt seat v w) (S : StandsAt s seat v w) (O : InOrderAt seat v w) (nothing : LeadsNothing w) (clean : under_way w ≡ Nothing) (B : BeginsOne s w x) → Steps before before seat.number v → KeepsTurn seat s s before before v v w x
keeps_begun seat s before v w x H S O nothing clean B made =
    let y : Worker = record w { standing = x.standing; notices = x.notices; own_gone = x.own_gone; cleaning = Copying B.victim true; clearing = x.clearing; last_victim = Some B.victim.chunk; accepted = false } in
    let N : HoldsAt seat v y = holds_now s seat.place seat.number v w x H S O nothing clean B in
    subst (λ (z : Worker). KeepsTurn seat s s before before v v w z) (sym B.same) (record {
      moments = started s (Licensed seat.place seat.number v) S.licensed;
      outside = all_kept s (part_at seat.place seat.number) (part_end seat.place seat.number);
      holds = N;
      stands = stands_now s seat.place seat.number v w x H S O nothing clean B;
      order = order_now s seat.place seat.number v w x H S O nothing clean B;
      rule = λ r had. room_now s seat.place seat.number v w x H S O nothing clean B had;
      moves = nothing_fixed seat s s before before v v w y refl
          (quiet_moves seat.place seat.number s s before before v v w y N (all_kept s (part_at seat.place seat.number) (part_end seat.place seat.number)) (started s (Licensed seat.place seat.number v) S.licensed) S.licensed made
          refl refl refl refl refl
          (λ on. still_spend seat.place.layout v.took v.flying v.took v.flying (stock_of w) (stock_of y) (record { chunks = omega arith; lines = omega arith; blocks = λ c. omega arith }) (stock_small seat.place seat.number v y N) (omega arith))
          (λ k. refl) refl refl (λ e. inl e) (λ e. e));
    })

-- None begins: nothing but where a search found the names is another one.
pub looked_way : (s : State) (w x : Worker) → LooksForOne s w x → under_way x ≡ under_way w
looked_way s w x B = ap under_way B.same ∙ (λ i. cond (w.stopped || w.winds_down) Nothing (counted_by (option_map (λ (t : TallyState). t.left) (B.names.tally i)) w.cleaning))

pub none_way : (s : State) (w x : Worker) → BeginsNone s w x → under_way x ≡ under_way w
none_way s w x B = looked_way s w x B.looks

-- there is as much left to do as before
pub looked_left : (s : State) (w x : Worker) → LooksForOne s w x → left x ≡ left w
looked_left s w x B =
    let same = ap serves_left B.same in
    let kept = ap (λ (y : Worker). clears_left y.accepted y.cleaning y.standing y.index y.notices.items) B.same in
    let counts = clears.counted w.accepted w.cleaning w.standing x.standing w.index w.notices.items B.names.names in
    omega (arith, same, kept, counts)

pub none_left : (s : State) (w x : Worker) → BeginsNone s w x → left x ≡ left w
none_left s w x B = looked_left s w x B.looks

module _ (s : State) (p : Place) (m : ℕ) (v : View) (w x : Worker) (H : Holds p m v w) (nothing : LeadsNothing w) (B : LooksForOne s w x) where
  abbrev looked : Worker
  looked = record w { standing = x.standing }

  pub looked_holds : Holds p m v x
  looked_holds = subst (λ (y : Worker). Holds p m v y) (sym B.same) (record {
    place = H.place;
    member = H.member;
    core = H.core;
    layout = H.layout;
    log_layout = H.log_layout;
    log_part = H.log_part;
    sets = H.sets;
    allocator_layout = H.allocator_layout;
    allocator_part = H.allocator_part;
    spelled = H.spelled;
    eight = H.eight;
    placed = H.placed;
    apart = H.apart;
    pending = H.pending;
    admitted = H.admitted;
    keys = H.keys;
    mail = H.mail;
    blocks = H.blocks;
    waits = H.waits;
    leads = H.leads;
    space = λ r. subst (HasSpaceFor looked) (sym nothing.1) tt;
    broken = H.broken;
    lost = H.lost;
    flight = H.flight;
    cleaning = keeps_counts p m v w x.standing B.names.counts H.cleaning;
    remembers = H.remembers;
    chunks = H.chunks;
  })

  pub looked_order : InOrder p m v w → InOrder p m v x
  looked_order O = subst (λ (y : Worker). InOrder p m v y) (sym B.same) (record {
    owned = O.owned;
    single = O.single;
    distinct = O.distinct;
    heard = O.heard;
    told = O.told;
    versions = O.versions;
    mine = O.mine;
    next = O.next;
    spelled = O.spelled;
    recalls = O.recalls;
    answers = O.answers;
    hand = O.hand;
    stops = O.stops;
    agrees = O.agrees;
    log = λ r on. (let L = O.log r on in record { deaths = λ k n is. L.deaths k n (sym (B.names.told k n) ∙ is); buried = L.buried; own = L.own; heard = L.heard });
    names = λ r on. (let were = O.names r on in let room = B.names.room in omega (arith, were, room));
  })

  pub looked_stands : Stands s p m v w → under_way w ≡ Nothing → Stands s p m v x
  looked_stands S clean = subst (λ (y : Worker). Stands s p m v y) (sym B.same) (record {
    lies = S.lies;
    licensed = S.licensed;
    landed = S.landed;
    log = S.log;
    free = S.free;
    due = S.due;
    cut = S.cut;
    names = λ r on telling. (let N = S.names r on telling in record {
      counted = record {
        counts = λ k n. B.names.counts k n ∙ N.counted.counts k n;
        settled = λ h at. settled_alike s w.log w.standing x.standing h (left_searched w.standing x.standing B.names) (N.counted.settled h (sym B.names.settled ∙ at));
      };
      read = λ h at. N.read h (sym B.names.settled ∙ at);
      floors = B.floors (λ t. N.floors) telling;
      knows = record {
        stands = λ k n some. N.knows.stands k n (let c = B.names.counts k n in omega (arith, c, some));
        all = λ k n is. (let c = B.names.counts k n in let some = N.knows.all k n is in omega (arith, c, some));
        deaths = λ k n. B.names.told k n ∙ N.knows.deaths k n;
        buried = N.knows.buried;
        own = N.knows.own;
        heard = N.knows.heard;
      };
      cleaned = subst (λ (c : Cleaning). IsCleanedBy s w.log x.standing w.clearing c) (sym (nothing_raw (left_in w.standing) w.cleaning (sym (runs_way w r on) ∙ clean))) tt;
    });
  })

  pub looked_room : HasKeptRoom w → HasKeptRoom x
  looked_room had = subst (λ (y : Worker). HasKeptRoom y) (sym B.same) (subst (λ (t : Option TallyState). HasKeptRoom (record w { standing = record w.standing { tally = t } })) (sym B.names.tally) had)

-- What the turn does then, by what the core was before its search.
pub keeps_searched : (seat : SeatAt) (s t : State) (before after : Option Group) (v u : View) (w y x : Worker) → HoldsAt seat v w → LeadsNothing w → LooksForOne s w y → KeepsTurn seat s t before after v u y x → KeepsTurn seat s t before after v u w x
keeps_searched seat s t before after v u w y x H nothing B K =
    let M = subst (λ (z : Worker). TurnMoves seat s t before after v u z x) B.same K.moves in
    record {
      moments = K.moments;
      outside = K.outside;
      holds = K.holds;
      stands = K.stands;
      order = K.order;
      rule = λ r had. K.rule r (looked_room s seat.place seat.number v w y H nothing B had);
      moves = record { fixed = M.fixed; answers = M.answers; moves = M.moves };
    }
