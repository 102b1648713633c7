-- What the doom of a cleaned chunk's names leaves of the ties of a worker.
use Rattle.std.proofs.Common.{◌≡◌, ◌≢◌, inl, inr, ⊎_elim, ℕ, ◌≤◌, ◌==◌, Bool, true, false, cond, List, [], ◌∷◌, length, Option, Some, None, refl, sym, ◌∙◌, ap, subst, arith}
use Rattle.std.specs.Prelude.{is_some, option_map, vec_capacity}
use Rattle.std.proofs.Math.Nat.{le-min}
use Rattle.std.proofs.lemmas.Bool.{eqb-true, and_parts}
use Rattle.pm_region.specs.State.{State, IsTelling}
use Rattle.log_entry.specs.declared.entry.Entry.{Entry}
use Rattle.core_log.specs.Log.{LogState, tail_of}
use Rattle.core_log.specs.Walking.{entries_in}
use Rattle.lazy_alloc.specs.Sets.{chunk_is_free, chunk_class}
use Rattle.log_standing.specs.declared.types.Amount.{Amount}
use Rattle.log_standing.specs.NameCounts.{StandingState, is_told, count_of}
use Rattle.log_standing.specs.Tallies.{TallyState}
use Rattle.log_cleaner.specs.CopyBatch.{Bounds}
use Rattle.log_cleaner.specs.Tallied.{IsTallied}
use Rattle.log_cleaner.specs.declared.types.Victim.{Victim}
use Rattle.log_cleaner.specs.Clearing.{ClearingState}
use Rattle.log_cleaner.specs.Copying.{left_to_copy}
use Rattle.group_laws.specs.Places.{Place}
use Rattle.group_laws.specs.Updates.{has}
use Rattle.group_laws.specs.MemberViews.{View}
use Rattle.group_board.specs.Views.{after_doom}
use Rattle.licence.specs.Licence.{grounded}
use Rattle.licence.proofs.Clients.{allowed}
use Rattle.core_worker.specs.declared.types.Cleaning.{Cleaning}
use Rattle.core_worker.specs.declared.types.Cleaning.TheVariants.{Nothing, Copying, Doomed}
use Rattle.core_worker.specs.declared.types.Leading.TheVariants as leads
use Rattle.core_worker.specs.declared.worker.Worker.{Worker}
use Rattle.core_worker.specs.DoomsNames.{DoomsIn}
use Rattle.core_worker.specs.GoneMail.{HasPlacesFor}
use Rattle.core_worker.specs.KeepsCleaning.{HasPhase, MayVanish, IsBegun, may_go, Cleans}
use Rattle.core_worker.specs.LogNames.{CopiesIn, ClearsIn, IsCleanedBy}
use Rattle.core_worker.specs.Order.{InOrder}
use Rattle.core_worker.specs.Supplies.{under_way, counted_by, left_in, no_more_than}
use Rattle.core_worker.specs.Ties.{LeadsAt, HasSpaceFor, Holds, Stands}
use Rattle.core_worker.proofs.CleaningKept.{runs_way}
use Rattle.core_worker.proofs.LogNames.{has_times}
use Rattle.core_worker.proofs.MailKept.{mail_same}
use Rattle.core_worker.proofs.UnderWay.{fewer_lines, left_chunk, left_fewer}

-- A cleaning of which so much is left by what is counted.
pub record Raw (o : Option Amount) (c : Cleaning) (left : Victim) (first : Bool) : Type 0 where
  pub victim : Victim
  pub is : c ≡ Copying victim first
  pub lowered : left ≡ no_more_than o victim
  pub chunk : left.chunk ≡ victim.chunk
  pub fewer : (left.entries ≤ victim.entries) × (left.words ≤ victim.words)

raw_of : (o : Option Amount) (c : Cleaning) (left : Victim) (first : Bool) → counted_by o c ≡ Copying left first → Raw o c left first
raw_of o Nothing left first e = absurd (cc e)
raw_of o (Doomed j) left first e = absurd (cc e)
raw_of o (Copying v b) left first e =
    let same : left ≡ no_more_than o v = sym (ap victim_in e) in
    let less = left_fewer o v in
    record {
      victim = v;
      is = ap (Copying v) (ap first_in e);
      lowered = same;
      chunk = ap (λ (x : Victim). x.chunk) same ∙ left_chunk o v;
      fewer = subst (λ (x : Victim). (x.entries ≤ v.entries) × (x.words ≤ v.words)) (sym same) less;
    }
  where
    victim_in : Cleaning → Victim
    victim_in Nothing = v
    victim_in (Copying x f) = x
    victim_in (Doomed j) = v

    first_in : Cleaning → Bool
    first_in Nothing = b
    first_in (Copying x f) = f
    first_in (Doomed j) = b

-- what is counted bounds what is left
counted_in : (s : State) (log : LogState) (st : StandingState) (c : Option ClearingState) (v left : Victim) → left.chunk ≡ v.chunk → left ≡ no_more_than (left_in st) v → CopiesIn s log st v c → CopiesIn s log st left c
counted_in s log st c v left chunk is C = record {
  chunk = subst (λ (j : ℕ). is_some (tail_of log.chunks j) ≡ true) (sym chunk) C.chunk;
  bounds = subst (λ (j : ℕ). Bounds left st (entries_in s log j)) (sym chunk) (subst (λ (x : Victim). Bounds x st (entries_in s log v.chunk)) (sym (is ∙ ap (λ (o : Option Amount). no_more_than o v) (ap (λ (o : Option TallyState). option_map (λ (t : TallyState). t.left) o) C.counts.is))) (record {
    entries = le-min C.bounds.entries (let e = C.counts.of.entries in omega (arith, e));
    words = le-min C.bounds.words (let e = C.counts.of.words in omega (arith, e));
  }));
  counts = subst (λ (j : ℕ). IsTallied st (entries_in s log j)) (sym chunk) C.counts;
  room = λ x has. subst (λ (j : ℕ). length (entries_in s log j) ≤ x.room) (sym chunk) (C.room x has);
}

-- who goes on with copies cleans a chunk as its ties say
module _ (p : Place) (m : ℕ) (v : View) (w : Worker) (H : Holds p m v w) (victim : _) (first : Bool) (way : under_way w ≡ Copying victim first) where
  pub cleans : Cleans p m v.doomed v.dead w.stopped w.winds_down w.leading w.log w.allocator w.standing w.clearing w.own_gone w.notices.items w.cleaning
  cleans = ⊎_elim (λ none. absurd (let both : Nothing ≡ Copying victim first = sym none ∙ way in cc both)) (λ C. C) H.cleaning

  pub raw : Raw (left_in w.standing) w.cleaning victim first
  raw = raw_of (left_in w.standing) w.cleaning victim first (sym (runs_way w cleans.runs cleans.works) ∙ way)

  begun_raw : IsBegun w.log cleans.now raw.victim first
  begun_raw = subst (HasPhase p m v.doomed v.dead w.log w.standing cleans.now w.own_gone.items) raw.is cleans.phase

  pub begun : IsBegun w.log cleans.now victim first
  begun =
      let B = begun_raw in
      let few = raw.fewer in
      let a = few.0 in
      let b = few.1 in
      let c = B.small.0 in
      let d = B.small.1 in
      let third = B.third in
      let less = fewer_lines victim.entries victim.words raw.victim.entries raw.victim.words a b in
      record {
        chunk = B.chunk ∙ sym raw.chunk;
        fresh = B.fresh;
        small = (omega (arith, b, c), omega (arith, a, d));
        third = omega (arith, third, less);
      }

  -- there are places for all names of its clearing
  pub room_here : cleans.now.room ≤ vec_capacity w.own_gone
  room_here = subst (λ (c : Cleaning). may_go cleans.now c ≤ vec_capacity w.own_gone) raw.is cleans.own_places

  pub room_boxes : HasPlacesFor cleans.now.room w.notices.items
  room_boxes = subst (λ (c : Cleaning). HasPlacesFor (may_go cleans.now c) w.notices.items) raw.is cleans.places

  -- what the region has of the chunk
  pub copies_in : (s : State) → IsCleanedBy s w.log w.standing w.clearing w.cleaning → CopiesIn s w.log w.standing victim w.clearing
  copies_in s had = counted_in s w.log w.standing w.clearing raw.victim victim raw.chunk raw.lowered (subst (IsCleanedBy s w.log w.standing w.clearing) raw.is had)

module _ (s : State) (p : Place) (m : ℕ) (v u : View) (w x : Worker) (H : Holds p m v w) (O : InOrder p m v w) (D : DoomsIn s p m v u w x) where
  abbrev C : Cleans p m v.doomed v.dead w.stopped w.winds_down w.leading w.log w.allocator w.standing w.clearing w.own_gone w.notices.items w.cleaning
  C = cleans p m v w H D.victim D.first D.way

  abbrev B : IsBegun w.log C.now D.victim D.first
  B = begun p m v w H D.victim D.first D.way

  -- the clearing is that of the same chunk
  chunk_is : C.now.chunk ≡ D.now.chunk
  chunk_is = B.chunk ∙ sym D.chunk

  abbrev now : View
  now = after_doom D.now.doomed v

  -- what becomes of it
  abbrev to : Worker
  to = record w { cleaning = Doomed D.victim.chunk; clearing = x.clearing; own_gone = x.own_gone }

  marked : (k n : ℕ) → has D.now.doomed k n ≡ true → now.doomed k n ≡ true
  marked k n is = ap (λ (b : Bool). cond b true (v.doomed k n)) is

  may : (k n : ℕ) → has D.now.doomed k n ≡ true → MayVanish now.doomed now.dead w.standing D.now.names k n
  may k n is =
      let some = has_times D.now.doomed k n is in
      let lone = and_parts (is_told w.standing k n) (count_of w.standing k n == 1) (D.lone k n some) in
      record {
        marked = marked k n is;
        dies = (O.log D.runs D.works).deaths k n lone.0;
        lone = eqb-true (count_of w.standing k n) 1 lone.1;
        noted = (let times = D.noted k n in omega (arith, some, times));
      }

  old_is : D.old ≡ C.now
  old_is = let both : Some D.old ≡ Some C.now = sym D.was ∙ C.is in cc both

  -- no more names are gone than the chunk had room for
  fewer : length D.now.doomed ≤ C.now.room
  fewer = subst (λ (c : ClearingState). length D.now.doomed ≤ c.room) old_is D.few

  room_places : C.now.room ≤ vec_capacity w.own_gone
  room_places = room_here p m v w H D.victim D.first D.way

  boxes_places : HasPlacesFor C.now.room w.notices.items
  boxes_places = room_boxes p m v w H D.victim D.first D.way

  cleans_now : Cleans p m now.doomed now.dead w.stopped w.winds_down w.leading w.log w.allocator w.standing x.clearing x.own_gone w.notices.items (Doomed D.victim.chunk)
  cleans_now = record {
    goes = tt;
    runs = D.runs;
    works = D.works;
    idle = C.idle;
    now = D.now;
    is = D.is;
    chunk = subst (λ (j : ℕ). is_some (tail_of w.log.chunks j) ≡ true) chunk_is C.chunk;
    closed = subst (λ (j : ℕ). w.log.opened ≢ Some j) chunk_is C.closed;
    taken = subst (λ (j : ℕ). chunk_is_free w.allocator j ≡ false) chunk_is C.taken;
    uncut = subst (λ (j : ℕ). chunk_class w.allocator j ≡ None) chunk_is C.uncut;
    scarce = C.scarce;
    phase = (D.chunk, may, D.own, D.noted);
    own_places = (let few = fewer in let had = room_places in let more = D.places in omega (arith, few, had, more));
    places = λ h n is. (let few = fewer in let had = boxes_places h n is in omega (arith, few, had));
  }

  pub doomed_holds : Holds p m u x
  doomed_holds = subst (λ (y : Worker). Holds p m u y) (sym D.same) (subst (λ (y : View). Holds p m y to) (sym D.view) (record {
    place = H.place;
    member = H.member;
    core = H.core;
    layout = H.layout;
    log_layout = H.log_layout;
    log_part = H.log_part;
    sets = H.sets;
    allocator_layout = H.allocator_layout;
    allocator_part = H.allocator_part;
    spelled = H.spelled;
    eight = H.eight;
    placed = λ t lt. H.placed t lt;
    apart = H.apart;
    pending = H.pending;
    admitted = H.admitted;
    keys = λ k own which. let K = H.keys k own which in record { last = K.last; cell = K.cell; present = K.present; told = K.told };
    mail = mail_same p m v now w.winds_down w.notices.items refl refl refl refl refl H.mail;
    blocks = record {
      held = H.blocks.held;
      staged = λ q y. H.blocks.staged q (record { slot = y.slot; number = y.number; entry = y.entry; value = y.value; place = y.place; points = y.points });
      once = λ q y z. H.blocks.once q (record { slot = y.slot; number = y.number; entry = y.entry; value = y.value; place = y.place; points = y.points }) (record { slot = z.slot; number = z.number; entry = z.entry; value = z.value; place = z.place; points = z.points });
      only = λ q used. ⊎_elim (λ b. inl b) (λ y. inr (record { slot = y.slot; number = y.number; entry = y.entry; value = y.value; place = y.place; points = y.points })) (H.blocks.only q used);
    };
    waits = H.waits;
    leads = record { seat = H.leads.seat; place = H.leads.place; number = H.leads.number; at = subst (LeadsAt H.leads.seat now) (sym C.idle.1) leads_now };
    space = λ r. subst (HasSpaceFor to) (sym C.idle.1) tt;
    broken = H.broken;
    lost = H.lost;
    flight = H.flight;
    cleaning = inr cleans_now;
    remembers = H.remembers;
    chunks = H.chunks;
  })) where
    leads_now : LeadsAt H.leads.seat now (leads.Nothing C.idle.0)
    leads_now = let had : LeadsAt H.leads.seat v (leads.Nothing C.idle.0) = subst (LeadsAt H.leads.seat v) C.idle.1 H.leads.at in (had.0, had.1, had.2)

  pub doomed_order : InOrder p m u x
  doomed_order = subst (λ (y : Worker). InOrder p m u y) (sym D.same) (subst (λ (y : View). InOrder p m y to) (sym D.view) (record {
    owned = O.owned;
    single = O.single;
    distinct = O.distinct;
    heard = O.heard;
    told = O.told;
    versions = O.versions;
    mine = O.mine;
    next = O.next;
    spelled = O.spelled;
    recalls = O.recalls;
    answers = O.answers;
    hand = O.hand;
    stops = O.stops;
    agrees = O.agrees;
    log = O.log;
    names = O.names;
  }))

  -- what may vanish by v may still
  more : (k n : ℕ) → v.doomed k n ≡ true → now.doomed k n ≡ true
  more k n is = by (has D.now.doomed k n) where
    by : (b : Bool) → cond b true (v.doomed k n) ≡ true
    by true = refl
    by false = is

  -- nothing was left to be copied
  none_left : (es : List (ℕ × Entry)) → length es ≤ D.victim.entries → es ≡ []
  none_left [] few = refl
  none_left (e ∷ es) few = absurd (let none = D.copied in omega (arith, few, none))

  clears_now : Stands s p m v w → IsTelling s → IsCleanedBy s w.log w.standing x.clearing (Doomed D.victim.chunk)
  clears_now S telling c is =
      let here : D.now ≡ c = (let both : Some D.now ≡ Some c = sym D.is ∙ is in cc both) in
      let had = copies_in p m v w H D.victim D.first D.way s (S.names D.runs D.works telling).cleaned in
      subst (ClearsIn s w.log w.standing) here (record {
        chunk = subst (λ (j : ℕ). is_some (tail_of w.log.chunks j) ≡ true) chunk_is C.chunk;
        ready = record {
          gathered = D.gathered telling;
          copied = none_left (left_to_copy w.standing (entries_in s w.log D.now.chunk)) (subst (λ (j : ℕ). length (left_to_copy w.standing (entries_in s w.log j)) ≤ D.victim.entries) (sym D.chunk) had.bounds.entries);
        };
      })

  pub doomed_stands : Stands s p m v w → Stands s p m u x
  doomed_stands S = subst (λ (y : Worker). Stands s p m u y) (sym D.same) (subst (λ (y : View). Stands s p m y to) (sym D.view) (record {
    lies = S.lies;
    licensed = λ telling image may. allowed p m v now image (record { kept = refl; flying = refl; doomed = more; blocks = λ q b e. e }) (S.licensed telling image may);
    landed = λ unlost telling image may. allowed p m (grounded v) (grounded now) image (record { kept = refl; flying = refl; doomed = more; blocks = λ q b e. e }) (S.landed unlost telling image may);
    log = S.log;
    free = S.free;
    due = S.due;
    cut = S.cut;
    names = λ r on telling. let N = S.names r on telling in record {
      counted = N.counted;
      read = N.read;
      floors = N.floors;
      knows = N.knows;
      cleaned = clears_now S telling;
    };
  }))
