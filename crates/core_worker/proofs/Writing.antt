-- A batch that is written: what it needs, and what it leaves of the ties.
use Rattle.std.proofs.Common.{◌≡◌, ◌≢◌, inl, inr, ⊎_elim, ℕ, ◌+◌, ◌*◌, ◌^◌, ◌≤◌, ◌<◌, ◌&&◌, ◌==◌, not, Bool, true, false, List, [], ◌∷◌, length, Option, Some, None, refl, sym, ◌∙◌, ap, subst, arith, ◌++◌}
use Rattle.std.specs.Prelude.{count_by, is_some, is_none}
use Rattle.std.proofs.lemmas.Bool.{eq-eqb, and_parts}
use Rattle.pm_region.specs.State.{State, Frame, IsTelling, cell_now, During}
use Rattle.pm_region.specs.Words.{KeepsOutside, Surely}
use Rattle.pm_region.proofs.Clients.{at_exit, told_at_entry, surely_kept}
use Rattle.log_entry.specs.declared.entry.Entry.{Entry}
use Rattle.chunk_map.specs.declared.layouts.Geometry.{Geometry}
use Rattle.chunk_map.specs.Layouts.{numbers, chunk_first, chunk_words, part_first}
use Rattle.store_image.proofs.Clients.{layout_numbers}
use Rattle.core_log.specs.Chunk.{padded}
use Rattle.core_log.specs.Log.{LogState, tail_of, first_of, open_first, open_number, open_tail}
use Rattle.core_log.specs.Entries.{AppendedBatch}
use Rattle.core_log.proofs.Clients.{tail_other, open_has, open_chunk_of, outside_chunk}
use Rattle.batch_leader.specs.declared.states.Persisted.{Persisted}
use Rattle.lazy_alloc.specs.Sets.{Sets, AreSets, SameBlocks, chunk_is_free, chunk_class, chunk_is_due}
use Rattle.lazy_alloc.proofs.Clients.{class_same}
use Rattle.group_laws.specs.declared.types.Seen.{Seen}
use Rattle.group_laws.specs.Places.{Place, core_of}
use Rattle.group_laws.specs.MemberViews.{View}
use Rattle.group_board.specs.Views.{after_commit}
use Rattle.licence.specs.Licence.{Licensed, grounded}
use Rattle.batch_leader.specs.Leading.{HasSpace}
use Rattle.batch_leader.specs.Persisting.{HasRoom, opened_for}
use Rattle.core_worker.specs.declared.types.Leading.{Leading}
use Rattle.core_worker.specs.declared.types.Leading.TheVariants as leads
use Rattle.core_worker.specs.declared.worker.Worker.{Worker}
use Rattle.core_worker.specs.declared.types.Cleaning.TheVariants.{Nothing}
use Rattle.core_worker.specs.Supplies.{room_for, under_way}
use Rattle.store_image.specs.Facts.{In}
use Rattle.core_worker.specs.declared.types.Place as places
use Rattle.core_worker.specs.declared.types.Place.TheVariants.{Free, Staged, Posted}
use Rattle.core_worker.specs.OwnPlaces.{place_at}
use Rattle.core_worker.specs.KeyTies.{IsBlockFor, AreBlocks, IsPlaced}
use Rattle.core_worker.specs.OwnChunks.{AreChunks}
use Rattle.log_standing.specs.NameCounts.{StandingState}
use Rattle.core_worker.specs.LogNames.{NamesStand}
use Rattle.core_worker.specs.Supplies.{counted_by, left_in}
use Rattle.core_worker.proofs.UnderWay.{still_nothing}
use Rattle.core_worker.specs.Ties.{Leads, HasSpaceFor, KeepsFlight, is_lost, Holds, Stands}
use Rattle.core_worker.specs.Turns.{TakesChunkIf}
use Rattle.core_worker.proofs.Led.{led_view}
use Rattle.core_worker.proofs.MailKept.{mail_same}

pub none_counted : (f : ℕ → Bool) (xs : List ℕ) → ((j : ℕ) → f j ≡ false) → count_by f xs ≡ 0
none_counted f [] none = refl
none_counted f (x ∷ xs) none = by_first (f x) (none x) (none_counted f xs none) where
  by_first : (b : Bool) → b ≡ false → count_by f xs ≡ 0 → count_by f (x ∷ xs) ≡ 0
  by_first b e rest = (let is = none x in grind (arith, is, rest))

-- where there is space for the batch, the chunk that was taken has room
pub room_ready : (s : State) (p : Place) (m : ℕ) (v : View) (w : Worker) → Stands s p m v w → AreSets w.allocator → w.allocator.layout ≡ w.log.layout → w.stopped ≡ false
    → (f : Bool) (own n : ℕ) (a : Sets) (o : Option ℕ) → HasSpace (room_for w) f own n → TakesChunkIf f w.allocator a o → HasRoom s w.log n o
room_ready s p m v w S sets layout runs true own n a None space takes = absurd (let some = space.1 refl in let none = none_counted (chunk_is_free w.allocator) (numbers 0 w.allocator.layout.chunks) takes.0 in omega (arith, some, none))
room_ready s p m v w S sets layout runs true own n a (Some j) space takes =
    (space.0, subst (λ (l : Geometry). j < l.chunks) layout (sets.free_in j takes.was_free).0, λ telling. (S.free runs j takes.was_free telling).1)
room_ready s p m v w S sets layout runs false own n a None space takes = space.0
room_ready s p m v w S sets layout runs false own n a (Some j) space takes = absurd (cc (takes.0))

-- the allocator but for a chunk that is free no more
pub record Same (old new : Sets) : Type 0 where
  pub layout : new.layout ≡ old.layout
  pub part : new.part ≡ old.part
  pub free : (j : ℕ) → chunk_is_free new j ≡ true → chunk_is_free old j ≡ true
  pub classes : (j : ℕ) → chunk_class new j ≡ chunk_class old j
  pub due : (j : ℕ) → chunk_is_due new j ≡ chunk_is_due old j
  pub used : SameBlocks old new

pub takes_same : (f : Bool) (old new : Sets) (o : Option ℕ) → TakesChunkIf f old new o → Same old new
takes_same true old new None t = subst (Same old) (sym t.1) (record { layout = refl; part = refl; free = λ j e. e; classes = λ j. refl; due = λ j. refl; used = λ q. refl })
takes_same true old new (Some j) t = record {
  layout = t.layout_is;
  part = t.part_is;
  free = λ i e. (and_parts (chunk_is_free old i) (not (i == j)) (sym (t.free i) ∙ e)).0;
  classes = t.classes;
  due = t.due;
  used = t.used;
}
takes_same false old new o t = subst (Same old) (sym t.1) (record { layout = refl; part = refl; free = λ j e. e; classes = λ j. refl; due = λ j. refl; used = λ q. refl })

pub taken_free : (f : Bool) (old new : Sets) (j : ℕ) → TakesChunkIf f old new (Some j) → chunk_is_free old j ≡ true
taken_free true old new j t = t.was_free
taken_free false old new j t = absurd (cc (t.0))

-- the taken chunk is free no more
pub not_free : (f : Bool) (old new : Sets) (j : ℕ) → TakesChunkIf f old new (Some j) → chunk_is_free new j ≡ false
not_free true old new j t = t.free j ∙ (let same = eq-eqb j j refl in ap (λ b. chunk_is_free old j && not b) same ∙ and_none (chunk_is_free old j)) where
  and_none : (b : Bool) → (b && not true) ≡ false
  and_none true = refl
  and_none false = refl
not_free false old new j t = absurd (cc (t.0))

pub blocks_stay : (v : View) (old new : Sets) (ps : List _) → Same old new → AreBlocks v old ps → AreBlocks v new ps
blocks_stay v old new ps same B = record {
  held = λ q b e. block q (length b.bytes) (B.held q b e);
  staged = λ q x. (block q (length x.value) (B.staged q x).0, (B.staged q x).1);
  once = B.once;
  only = λ q used. B.only q (sym (same.used q) ∙ used);
}
  where
    block : (q n : ℕ) → IsBlockFor old q n → IsBlockFor new q n
    block q n is = record {
      used = same.used q ∙ is.used;
      class = is.class;
      class_is = class_same old new (record { layout_is = same.layout; part_is = same.part }) same.classes q ∙ is.class_is;
      fits = is.fits;
    }

-- a place is what a view has of its slot, also where more is certain
placed_led : (p : Place) (m : ℕ) (v : View) (s : ℕ) (kept flying : List Entry) (taken : ℕ → ℕ → Option Entry) (holds : Bool) (looked : List Seen) (took : List Entry) → ((e : Entry) → In e v.kept → In e kept)
    → (x : places.Place) → IsPlaced p m v s x → IsPlaced p m (led_view v kept flying taken holds looked took) s x
placed_led p m v s kept flying taken holds looked took more Free is = is
placed_led p m v s kept flying taken holds looked took more (Staged n e value) is = is
placed_led p m v s kept flying taken holds looked took more (Posted n k lines) is = (is.0, is.1, is.2, is.3, is.4, ⊎_elim (λ full. inl full) (λ none. inr (none.0, more is.0 none.1)) is.5, is.6)

-- the ties of a worker with another log and allocator
pub holds_wrote : (p : Place) (m : ℕ) (v u : View) (w : Worker) (a : Sets) (log : LogState) (l : Leading) (stopped lost_batch : Bool) (kept flying : List Entry) (taken : ℕ → ℕ → Option Entry) (holds : Bool) (looked : List Seen) (took : List Entry)
    → u ≡ led_view v kept flying taken holds looked took → ((x : Entry) → In x v.kept → In x kept) → Holds p m v w → Same w.allocator a → AreSets a → log.layout ≡ p.layout → log.part ≡ core_of p m
    → Leads p m u l → HasSpaceFor (record w { log = log; allocator = a; leading = l; stopped = stopped; lost_batch = lost_batch }) l → (u.broken ≡ true → stopped ≡ true) → (is_lost l ≡ true → stopped ≡ true) → KeepsFlight u.flying u.broken l lost_batch stopped → (stopped ≡ false → w.stopped ≡ false) → (w.stopped ≡ true → stopped ≡ true) → (stopped ≡ false → AreChunks p.layout.chunks a log.chunks)
    → under_way w ≡ Nothing → Holds p m u (record w { log = log; allocator = a; leading = l; stopped = stopped; lost_batch = lost_batch })
holds_wrote p m v u w a log l stopped lost_batch kept flying taken holds looked took e more H same sets layout part leads space broken lost flight running stays chunks none =
    subst (λ (x : View). Holds p m x (record w { log = log; allocator = a; leading = l; stopped = stopped; lost_batch = lost_batch })) (sym e) (record {
      place = H.place;
      member = H.member;
      core = H.core;
      layout = H.layout;
      log_layout = layout;
      log_part = part;
      sets = sets;
      allocator_layout = same.layout ∙ H.allocator_layout;
      allocator_part = same.part ∙ H.allocator_part;
      spelled = H.spelled;
      eight = H.eight;
      placed = λ s lt. placed_led p m v s kept flying taken holds looked took more (place_at w.places.items s) (H.placed s lt);
      apart = H.apart;
      pending = λ k q e. ⊎_elim (λ x. inl x) (λ y. inr (y.0, y.1, stays y.2)) (H.pending k q e);
      admitted = H.admitted;
      keys = λ k own which. let K = H.keys k own (⊎_elim (λ r. inl (running r)) (λ b. inr b) which) in record { last = K.last; cell = K.cell; present = K.present; told = K.told };
      mail = mail_same p m v (led_view v kept flying taken holds looked took) w.winds_down w.notices.items refl refl refl refl refl H.mail;
      blocks = (let B = blocks_stay v w.allocator a w.places.items same H.blocks in record {
        held = B.held;
        staged = λ q x. B.staged q (record { slot = x.slot; number = x.number; entry = x.entry; value = x.value; place = x.place; points = x.points });
        once = λ q x y. B.once q (record { slot = x.slot; number = x.number; entry = x.entry; value = x.value; place = x.place; points = x.points }) (record { slot = y.slot; number = y.number; entry = y.entry; value = y.value; place = y.place; points = y.points });
        only = λ q used. ⊎_elim (λ b. inl b) (λ x. inr (record { slot = x.slot; number = x.number; entry = x.entry; value = x.value; place = x.place; points = x.points })) (B.only q used);
      });
      waits = H.waits;
      leads = subst (λ (x : View). Leads p m x l) e leads;
      space = λ runs. space;
      broken = λ b. broken (ap (λ (x : View). x.broken) e ∙ b);
      cleaning = inl (still_nothing (counted_by (left_in w.standing) w.cleaning) w.stopped w.winds_down stopped w.winds_down running (λ on. on) none);
      remembers = λ r. H.remembers (running r);
      chunks = chunks;
      lost = lost;
      flight = subst (λ (x : View). KeepsFlight x.flying x.broken l lost_batch stopped) e flight;
    })

pub in_chunks : (a : Sets) → AreSets a → (j : ℕ) → is_none (chunk_class a j) ≡ false → j < a.layout.chunks
in_chunks a sets j some = by_class (chunk_class a j) refl some where
  by_class : (o : Option ℕ) → chunk_class a j ≡ o → is_none o ≡ false → j < a.layout.chunks
  by_class None e none = absurd (cc none)
  by_class (Some c) e none = (sets.cut_in j c e).0

-- opening a chunk leaves the layout
pub opened_layout : (log : LogState) (o : Option ℕ) → (opened_for log o).layout ≡ log.layout
opened_layout log None = refl
opened_layout log (Some j) = refl

-- After a batch in one chunk, each other chunk is what it was.
module _ (s t : State) (p : Place) (m : ℕ) (v : View) (w : Worker) (a : Sets) (log' : LogState) (f : Bool) (o : Option ℕ) (ws : List ℕ) (H : Holds p m v w) (S : Stands s p m v w) (runs : w.stopped ≡ false) (takes : TakesChunkIf f w.allocator a o)
    (chunk : During s t (KeepsOutside (cell_now s) (open_first (opened_for w.log o)) (open_first (opened_for w.log o) + chunk_words w.log.layout)))
    (wrote : AppendedBatch s t (opened_for w.log o) log' (padded ws)) (opened : o ≡ None → is_some w.log.opened ≡ true) where
  abbrev n : ℕ
  n = open_number (opened_for w.log o)

  told : IsTelling t → IsTelling s
  told telling = told_at_entry s t (KeepsOutside (cell_now s) (open_first (opened_for w.log o)) (open_first (opened_for w.log o) + chunk_words w.log.layout)) chunk telling

  layout_of : log'.layout ≡ w.log.layout
  layout_of = ap (λ (l : LogState). l.layout) wrote.log_is ∙ by_fresh o where
    by_fresh : (o : Option ℕ) → (opened_for w.log o).layout ≡ w.log.layout
    by_fresh None = refl
    by_fresh (Some j) = refl

  part_of : log'.part ≡ w.log.part
  part_of = ap (λ (l : LogState). l.part) wrote.log_is ∙ by_fresh o where
    by_fresh : (o : Option ℕ) → (opened_for w.log o).part ≡ w.log.part
    by_fresh None = refl
    by_fresh (Some j) = refl

  first_same : (j : ℕ) → first_of log' j ≡ first_of w.log j
  first_same j = (λ i. chunk_first (layout_of i) (part_of i) j)

  open_at : open_first (opened_for w.log o) ≡ first_of w.log n
  open_at = by_fresh o where
    by_fresh : (o : Option ℕ) → open_first (opened_for w.log o) ≡ first_of w.log (open_number (opened_for w.log o))
    by_fresh None = refl
    by_fresh (Some j) = refl

  open_in : n < w.log.layout.chunks
  open_in = by_fresh o takes opened where
    by_fresh : (o : Option ℕ) → TakesChunkIf f w.allocator a o → (o ≡ None → is_some w.log.opened ≡ true) → open_number (opened_for w.log o) < w.log.layout.chunks
    by_fresh None t some = (open_chunk_of w.log (S.log runs).own (some refl)).within
    by_fresh (Some j) t some = subst (λ (l : Geometry). j < l.chunks) (H.allocator_layout ∙ sym H.log_layout) (H.sets.free_in j (taken_free f w.allocator a j t)).0

  -- a chunk that the log doesn't have, and that is not the taken one, is another one than the open one
  other_than : (j : ℕ) → tail_of w.log.chunks j ≡ None → ((i : ℕ) → o ≡ Some i → j ≢ i) → j ≢ n
  other_than j none ne = by_fresh o opened ne where
    by_fresh : (o : Option ℕ) → (o ≡ None → is_some w.log.opened ≡ true) → ((i : ℕ) → o ≡ Some i → j ≢ i) → j ≢ open_number (opened_for w.log o)
    by_fresh None some ne = λ same. let has = open_has w.log (S.log runs).own (some refl) in absurd (let both : Some (open_tail w.log) ≡ None = sym has ∙ ap (tail_of w.log.chunks) (sym same) ∙ none in cc both)
    by_fresh (Some i) some ne = ne i refl

  -- a chunk of the allocator's, which the log doesn't have, is another one
  module _ (j : ℕ) (lt : j < w.log.layout.chunks) (ne : j ≢ n) (telling : IsTelling t) where
    pub kind_stays : (k : ℕ) → Surely (cell_now s (first_of w.log j)) k → Surely (cell_now t (first_of log' j)) k
    kind_stays k sure =
        let kept = at_exit s t (KeepsOutside (cell_now s) (open_first (opened_for w.log o)) (open_first (opened_for w.log o) + chunk_words w.log.layout)) chunk telling in
        let size = (layout_numbers w.log.layout (S.log runs).own.layout).size in
        let out = outside_chunk w.log.layout w.log.part n j 0 ne (omega (arith, size)) in
        let at = open_at in
        subst (λ (x : ℕ). Surely (cell_now t x) k) (sym (first_same j))
        (surely_kept (cell_now s (first_of w.log j)) (cell_now t (first_of w.log j)) k sure
        (kept (first_of w.log j) (⊎_elim (λ below. inl (omega (arith, below, at))) (λ above. inr (omega (arith, above, at))) out)))

    pub tail_stays : tail_of w.log.chunks j ≡ None → tail_of log'.chunks j ≡ None
    tail_stays none = ap (λ (l : LogState). tail_of l.chunks j) wrote.log_is ∙ tail_other (opened_for w.log o).chunks n (open_tail (opened_for w.log o) + length (padded ws)) j ne ∙ by_fresh o ne ∙ none where
      by_fresh : (o : Option ℕ) → j ≢ open_number (opened_for w.log o) → tail_of (opened_for w.log o).chunks j ≡ tail_of w.log.chunks j
      by_fresh None ne = refl
      by_fresh (Some i) ne = tail_other w.log.chunks i 0 j ne

  same : Same w.allocator a
  same = takes_same f w.allocator a o takes

  low : (j : ℕ) → j < w.allocator.layout.chunks → j < w.log.layout.chunks
  low j lt = subst (λ (l : Geometry). j < l.chunks) (H.allocator_layout ∙ sym H.log_layout) lt

  not_taken : (j : ℕ) → (chunk_is_free w.allocator j ≡ true → ⊥) → (i : ℕ) → o ≡ Some i → j ≢ i
  not_taken j isnt i e here = isnt (subst (λ (k : ℕ). chunk_is_free w.allocator k ≡ true) (sym here) (taken_free f w.allocator a i (subst (λ (x : Option ℕ). TakesChunkIf f w.allocator a x) e takes)))

  -- the ties to the region after the batch
  pub stands_wrote : (u : View) (x : Persisted) (st : StandingState) → (w.winds_down ≡ false → IsTelling t → NamesStand t m (v.kept ++ v.flying) v.present v.told v.dead log' st w.clearing w.cleaning) → u ≡ after_commit v → (IsTelling t → Licensed p m u (cell_now t)) → Stands t p m u (record w { log = log'; allocator = a; leading = leads.Persisted x; standing = st })
  stands_wrote u x st names e licensed = record {
    lies = (let L = S.lies in let fr = chunk.frame in record {
      low = subst (λ (y : Frame). y.first ≤ part_first a.layout a.part) (sym fr) (subst (λ (y : ℕ). s.frame.first ≤ y) (λ i. part_first (sym same.layout i) (sym same.part i)) L.low);
      high = subst (λ (y : Frame). part_first a.layout (a.part + 1) ≤ y.first + y.words) (sym fr) (subst (λ (y : ℕ). y ≤ s.frame.first + s.frame.words) (λ i. part_first (sym same.layout i) (sym same.part i + 1)) L.high);
      fits = subst (λ (y : Frame). y.first + y.words < 2 ^ 64) (sym fr) L.fits;
    });
    licensed = licensed;
    landed = λ unlost telling. subst (λ (y : View). Licensed p m (grounded y) (cell_now t)) (sym e) (subst (λ (y : View). Licensed p m y (cell_now t)) e (licensed telling));
    log = λ running. wrote.stands;
    free = λ running j is telling.
        let was = S.free runs j (same.free j is) (told telling) in
        let lt = low j (H.sets.free_in j (same.free j is)).0 in
        let ne = other_than j was.0 (λ i e here. let no = not_free f w.allocator a i (subst (λ (y : Option ℕ). TakesChunkIf f w.allocator a y) e takes) in let both : true ≡ false = sym is ∙ ap (chunk_is_free a) here ∙ no in cc both) in
        (tail_stays j lt ne telling was.0, kind_stays j lt ne telling 0 was.1);
    due = λ running j is telling.
        let due_was = sym (same.due j) ∙ is in
        let was = S.due runs j due_was (told telling) in
        let cut_is = H.sets.due_in j due_was in
        let ne = other_than j was.0 (not_taken j (λ free. let none = (H.sets.free_in j free).1 in let both : true ≡ false = sym (ap is_none none) ∙ cut_is in cc both)) in
        let lt = low j (in_chunks w.allocator H.sets j cut_is) in
        (tail_stays j lt ne telling was.0, kind_stays j lt ne telling 0 was.1);
    cut = λ running j c is undue telling.
        let class_was = sym (same.classes j) ∙ is in
        let was = S.cut runs j c class_was (sym (same.due j) ∙ undue) (told telling) in
        let ne = other_than j was.0 (not_taken j (λ free. let none = (H.sets.free_in j free).1 in let both : Some c ≡ None = sym class_was ∙ none in cc both)) in
        let lt = low j (H.sets.cut_in j c class_was).0 in
        (tail_stays j lt ne telling was.0, kind_stays j lt ne telling (2 + 256 * c) was.1);
    names = λ running on telling. subst (λ (y : View). NamesStand t m y.kept y.present y.told y.dead log' st w.clearing w.cleaning) (sym e) (names on telling);
  }
