-- A batch of copies: what it leaves of the ties to the region.
use Rattle.std.proofs.Common.{◌≡◌, ◌≢◌, inl, inr, ⊎_elim, ℕ, ◌+◌, ◌-◌, ◌*◌, ◌^◌, ◌≤◌, ◌<◌, ltb, Bool, true, false, cond, List, [], length, Option, Some, None, refl, sym, ◌∙◌, ap, subst, arith}
use Rattle.std.specs.Prelude.{is_some, is_none}
use Rattle.std.proofs.lemmas.Bool.{ltb-true}
use Rattle.pm_region.specs.State.{State, Frame, IsTelling, cell_now}
use Rattle.pm_region.specs.Words.{KeepsOutside, Surely}
use Rattle.pm_region.proofs.Clients.{at_exit, told_at_entry, surely_kept}
use Rattle.chunk_map.specs.declared.layouts.Geometry.{Geometry}
use Rattle.chunk_map.specs.Layouts.{chunk_first, chunk_words, part_first}
use Rattle.chunk_map.proofs.Clients.{chunks_apart}
use Rattle.store_image.proofs.Clients.{layout_numbers}
use Rattle.log_entry.specs.declared.entry.Entry.{Entry}
use Rattle.core_log.specs.Log.{LogState, IsOwn, chunk_with, tail_in, tail_of, first_of, open_first, open_number}
use Rattle.core_log.specs.Walking.{entries_in}
use Rattle.core_log.proofs.Clients.{outside_chunk, tail_fits}
use Rattle.lazy_alloc.specs.Sets.{chunk_class}
use Rattle.log_standing.specs.NameCounts.{StandingState}
use Rattle.log_cleaner.specs.declared.types.Victim.{Victim}
use Rattle.log_cleaner.specs.Copying.{words_sum}
use Rattle.log_cleaner.specs.CopyBatch.{Bounds, IsLess, next_batch}
use Rattle.log_cleaner.specs.Tallied.{IsTallied}
use Rattle.log_cleaner.proofs.FloorLaws.{floors_moved}
use Rattle.log_cleaner.proofs.Parts.{chunk_of, entries_still}
use Rattle.log_cleaner.proofs.Tallies.{words_long}
use Rattle.log_cleaner.proofs.TallyLaws.{floors_kept}
use Rattle.group_laws.specs.Places.{Place}
use Rattle.group_laws.specs.MemberViews.{View}
use Rattle.licence.specs.Licence.{Licensed}
use Rattle.batch_leader.specs.Persisting.{opened_for, WritesOpenChunk}
use Rattle.core_worker.specs.declared.types.Cleaning.TheVariants.{Copying}
use Rattle.core_worker.specs.declared.types.Leading.TheVariants as leads
use Rattle.core_worker.specs.declared.worker.Worker.{Worker}
use Rattle.core_worker.specs.CopyItems.{CopiesOn, needs_chunk}
use Rattle.core_worker.specs.Counted.{MayOpen}
use Rattle.core_worker.specs.TakenChunks.{TakesChunkIf}
use Rattle.core_worker.specs.CopyTurns.{CopiesInRegion, left_of}
use Rattle.core_worker.specs.KeepsCleaning.{Cleans}
use Rattle.core_worker.specs.LogNames.{IsClosed, NamesStand}
use Rattle.core_worker.specs.OwnChunks.{IsFreeOrData}
use Rattle.core_worker.specs.Supplies.{under_way}
use Rattle.core_worker.specs.Ties.{LeadsAt, Holds, Stands}
use Rattle.core_worker.proofs.ChunksKept.{opened_here}
use Rattle.core_worker.proofs.CopiedHolds as copied
use Rattle.core_worker.proofs.CopiedLog.{room_open, copied_else, copied_layout, copied_opened, copied_part, copied_more, opened_else, opened_part}
use Rattle.core_worker.proofs.Counted as logged
use Rattle.core_worker.proofs.Counted.{other_open}
use Rattle.core_worker.proofs.DoomedHolds as cleaning
use Rattle.core_worker.proofs.Led.{runs_whole}
use Rattle.core_worker.proofs.Writing.{Same, taken_free, takes_same, in_chunks, opened_layout}

-- what is left is within the numbers that are left
pub bounds_left : (victim : Victim) (old new : StandingState) (es : List (ℕ × Entry)) (n : ℕ) (k : ℕ) → n ≡ length (next_batch old es) → k ≡ words_sum (next_batch old es) → IsLess old new es → Bounds victim old es → Bounds (left_of victim n k) new es
bounds_left victim old new es n k count words less B = by (ltb n 64) refl where
  by : (b : Bool) → ltb n 64 ≡ b → Bounds (left_of victim n k) new es
  by true e =
      let few = ltb-true n 64 e in
      let none = less.none (omega (arith, few, count)) in
      let no_entries = ap (λ (xs : List (ℕ × Entry)). length xs) none in
      let no_words = ap words_sum none in
      record { entries = omega (arith, no_entries); words = omega (arith, no_words) }
  by false e =
      let entries_are : (left_of victim n k).entries ≡ victim.entries - n = ap (λ (b : Bool). cond {A = ℕ} b 0 (victim.entries - n)) e in
      let words_are : (left_of victim n k).words ≡ victim.words - k = ap (λ (b : Bool). cond {A = ℕ} b 0 (victim.words - k)) e in
      let a = less.entries in let b = less.words in let c = B.entries in let d = B.words in
      record { entries = omega (arith, entries_are, a, c, count); words = omega (arith, words_are, b, d, words) }

module _ (s t : State) (p : Place) (m : ℕ) (v : View) (w x : Worker) (victim : Victim) (first : Bool) (H : Holds p m v w) (S : Stands s p m v w) (own : IsOwn w.log) (way : under_way w ≡ Copying victim first) (some : 0 < victim.entries) (K : CopiesOn victim first w x)
    (R : CopiesInRegion s t victim w.log x.log w.standing x.standing K.count K.words) (chunk : WritesOpenChunk s t (opened_for w.log K.fresh)) (exit : IsTelling t → Licensed p m v (cell_now t)) where
  abbrev opened : LogState
  opened = opened_for w.log K.fresh

  abbrev n : ℕ
  n = open_number opened

  abbrev N : Holds p m v x
  N = copied.copied_holds p m v w x victim first H own way some K

  abbrev C : Cleans p m v.doomed v.dead w.stopped w.winds_down w.leading w.log w.allocator w.standing w.clearing w.own_gone w.notices.items w.cleaning
  C = cleaning.cleans p m v w H victim first way

  runs : w.stopped ≡ false
  runs = C.runs

  told : IsTelling t → IsTelling s
  told telling = told_at_entry s t (KeepsOutside (cell_now s) (open_first opened) (open_first opened + chunk_words opened.layout)) chunk telling

  layout_is : x.log.layout ≡ w.log.layout
  layout_is = ap (λ (l : LogState). l.layout) K.batch.log_is ∙ copied_layout K.count opened K.words ∙ opened_layout w.log K.fresh

  part_is : x.log.part ≡ w.log.part
  part_is = ap (λ (l : LogState). l.part) K.batch.log_is ∙ copied_part K.count opened K.words ∙ opened_part w.log K.fresh

  first_same : (j : ℕ) → first_of x.log j ≡ first_of w.log j
  first_same j = (λ i. chunk_first (layout_is i) (part_is i) j)

  open_at : open_first opened ≡ first_of w.log n
  open_at = by K.fresh where
    by : (o : Option ℕ) → open_first (opened_for w.log o) ≡ first_of w.log (open_number (opened_for w.log o))
    by None = refl
    by (Some j) = refl

  -- the open chunk is one of the log
  open_there : is_some (tail_of x.log.chunks n) ≡ true
  open_there = ap (λ (l : LogState). is_some (tail_of l.chunks n)) K.batch.log_is ∙ copied_more K.count opened K.words n (by K.fresh refl) where
    by : (o : Option ℕ) → K.fresh ≡ o → is_some (tail_of (opened_for w.log K.fresh).chunks (open_number (opened_for w.log K.fresh))) ≡ true
    by None e = subst (λ (f : Option ℕ). is_some (tail_of (opened_for w.log f).chunks (open_number (opened_for w.log f))) ≡ true) (sym e) (copied.has_open p m v w x victim first H own way some K e)
    by (Some j) e = subst (λ (f : Option ℕ). is_some (tail_of (opened_for w.log f).chunks (open_number (opened_for w.log f))) ≡ true) (sym e) (opened_here w.log (Some j) j refl)

  other_than : (j : ℕ) → tail_of x.log.chunks j ≡ None → j ≢ n
  other_than j none same = (let both : true ≡ false = sym open_there ∙ ap (λ (i : ℕ). is_some (tail_of x.log.chunks i)) (sym same) ∙ ap is_some none in cc both)

  kind_stays : (j : ℕ) → j ≢ n → IsTelling t → (k : ℕ) → Surely (cell_now s (first_of w.log j)) k → Surely (cell_now t (first_of x.log j)) k
  kind_stays j ne telling k sure =
      let kept = at_exit s t (KeepsOutside (cell_now s) (open_first opened) (open_first opened + chunk_words opened.layout)) chunk telling in
      let size = (layout_numbers w.log.layout own.layout).size in
      let out = outside_chunk w.log.layout w.log.part n j 0 ne (omega (arith, size)) in
      let at = open_at in
      let wide = ap chunk_words (opened_layout w.log K.fresh) in
      subst (λ (i : ℕ). Surely (cell_now t i) k) (sym (first_same j))
      (surely_kept (cell_now s (first_of w.log j)) (cell_now t (first_of w.log j)) k sure
      (kept (first_of w.log j) (⊎_elim (λ below. inl (omega (arith, below, at))) (λ above. inr (omega (arith, above, at, wide))) out)))

  same : Same w.allocator x.allocator
  same = takes_same (needs_chunk first w) w.allocator x.allocator K.fresh K.takes

  -- what the allocator has the log hasn't
  log_lacks : (j : ℕ) → j < p.layout.chunks → IsFreeOrData x.allocator j → tail_of x.log.chunks j ≡ None
  log_lacks j low had = ⊎_elim (λ a. a.1) (λ b. absurd (⊎_elim
      (λ free. (let both : true ≡ false = sym free ∙ b.0.0 in cc both))
      (λ cut. (let both : true ≡ false = sym cut ∙ ap is_some b.0.1 in cc both))
      had)) (N.chunks (ap (λ (y : Worker). y.stopped) K.same ∙ runs) j low)

  low : (j : ℕ) → j < x.allocator.layout.chunks → j < p.layout.chunks
  low j lt = subst (λ (l : Geometry). j < l.chunks) N.allocator_layout lt

  some_class : (o : Option ℕ) → is_none o ≡ false → is_some o ≡ true
  some_class None e = absurd (cc e)
  some_class (Some c) e = refl

  -- a closed chunk of the log stays one, and has the entries that it had
  may_open : IsTelling s → MayOpen w.log K.fresh
  may_open telling = by K.fresh refl where
    by : (o : Option ℕ) → K.fresh ≡ o → MayOpen w.log K.fresh
    by None e = subst (MayOpen w.log) (sym e) (let room = K.fits e in room_open w.log (omega (arith, room, some)))
    by (Some j) e =
        let free = taken_free (needs_chunk first w) w.allocator x.allocator j (subst (λ (f : Option ℕ). TakesChunkIf (needs_chunk first w) w.allocator x.allocator f) e K.takes) in
        subst (MayOpen w.log) (sym e) (subst (λ (l : Geometry). j < l.chunks) (H.allocator_layout ∙ sym H.log_layout) (H.sets.free_in j free).0, (S.free runs j free telling).0)

  tail_kept : (j : ℕ) → j ≢ n → tail_of x.log.chunks j ≡ tail_of w.log.chunks j
  tail_kept j ne = ap (λ (l : LogState). tail_of l.chunks j) K.batch.log_is ∙ copied_else K.count opened K.words j ne ∙ opened_else w.log K.fresh j ne

  closed_stays : IsTelling t → (j : ℕ) → IsClosed w.log j → IsClosed x.log j × (entries_in t x.log j ≡ entries_in s w.log j)
  closed_stays telling j was =
      let ne = other_open w.log K.fresh (may_open (told telling)) j was.has was.closed in
      let fits = (tail_fits w.log.layout own.layout (chunk_with j (tail_in w.log j)) (chunk_of s w.log (S.log runs) j was.has)).0 in
      let at = open_at in
      let wide = ap chunk_words (opened_layout w.log K.fresh) in (
        record {
          has = ap is_some (tail_kept j ne) ∙ was.has;
          closed = λ same. logged.still_closed w.log K.fresh j ne was.closed (sym (ap (λ (l : LogState). l.opened) K.batch.log_is ∙ copied_opened K.count opened K.words) ∙ same);
        },
        entries_still s t w.log x.log j (open_first opened) (open_first opened + chunk_words opened.layout) chunk telling layout_is part_is (tail_kept j ne)
            (λ u ge lt. ⊎_elim (λ a. inl (omega (arith, a, lt, fits, at))) (λ b. inr (omega (arith, b, ge, at, wide))) (chunks_apart w.log.layout w.log.part j n ne)),
      )

  names_now : w.winds_down ≡ false → IsTelling t → NamesStand t m v.kept v.present v.told v.dead x.log x.standing w.clearing (Copying (left_of victim K.count (length K.words)) false)
  names_now on telling =
      let had = S.names runs on (told telling) in
      let X = K.batch.names in
      let begun = cleaning.begun p m v w H victim first way in
      let chunk_is : C.now.chunk ≡ victim.chunk = begun.chunk in
      let cleaned = cleaning.copies_in p m v w H victim first way s had.cleaned in
      let batch = R.batch telling in
      let long = ap (λ (ws : List ℕ). length ws) batch.words ∙ words_long (next_batch w.standing (entries_in s w.log victim.chunk)) in
      record {
        counted = R.counted telling;
        read = λ h at. record {
          has = subst (λ (j : ℕ). is_some (tail_of x.log.chunks j) ≡ true) (sym (K.batch.read h at)) (copied.log_more p m v w x victim first H own way some K victim.chunk cleaned.chunk);
          closed = λ same. copied.still_closed p m v w x victim first H own way some K (same ∙ ap Some (K.batch.read h at ∙ sym chunk_is));
        };
        floors = floors_moved s t w.log x.log x.standing (closed_stays telling) (floors_kept s w.log w.standing x.standing K.batch.tally had.floors);
        knows = record {
          stands = λ k i yes. had.knows.stands k i (X.stood k i yes);
          all = λ k i is. X.stands k i (had.knows.all k i is);
          deaths = λ k i. X.told k i ∙ had.knows.deaths k i;
          buried = had.knows.buried;
          own = had.knows.own;
          heard = had.knows.heard;
        };
        cleaned = record {
          chunk = copied.log_more p m v w x victim first H own way some K victim.chunk cleaned.chunk;
          bounds = subst (λ (es : List (ℕ × Entry)). Bounds (left_of victim K.count (length K.words)) x.standing es) (sym (R.chunk telling))
              (bounds_left victim w.standing x.standing (entries_in s w.log victim.chunk) K.count (length K.words) batch.count long (R.less telling) cleaned.bounds);
          counts = subst (IsTallied x.standing) (sym (R.chunk telling)) (K.batch.tally.tally (entries_in s w.log victim.chunk) cleaned.counts);
          room = λ c is. (let room = cleaned.room c is in let same = ap (λ (es : List (ℕ × Entry)). length es) (R.chunk telling) in omega (arith, room, same));
        };
      }

  flying_none : v.flying ≡ []
  flying_none = (let had : LeadsAt H.leads.seat v (leads.Nothing C.idle.0) = subst (LeadsAt H.leads.seat v) C.idle.1 H.leads.at in had.2 (runs_whole p m v w H runs))

  pub copied_stands : Stands t p m v x
  copied_stands = record {
    lies = (let L = S.lies in let fr = chunk.frame in record {
      low = subst (λ (y : Frame). y.first ≤ part_first x.allocator.layout x.allocator.part) (sym fr) (subst (λ (y : ℕ). s.frame.first ≤ y) (λ i. part_first (sym same.layout i) (sym same.part i)) L.low);
      high = subst (λ (y : Frame). part_first x.allocator.layout (x.allocator.part + 1) ≤ y.first + y.words) (sym fr) (subst (λ (y : ℕ). y ≤ s.frame.first + s.frame.words) (λ i. part_first (sym same.layout i) (sym same.part i + 1)) L.high);
      fits = subst (λ (y : Frame). y.first + y.words < 2 ^ 64) (sym fr) L.fits;
    });
    licensed = exit;
    landed = λ unlost telling. subst (λ (y : View). Licensed p m y (cell_now t)) (λ i. record v { flying = flying_none i }) (exit telling);
    log = λ r. R.stands;
    free = λ r j is telling.
        let none = log_lacks j (low j (N.sets.free_in j is).0) (inl is) in
        (none, kind_stays j (other_than j none) telling 0 (S.free runs j (same.free j is) (told telling)).1);
    due = λ r j is telling.
        let cut_is = N.sets.due_in j is in
        let none = log_lacks j (low j (in_chunks x.allocator N.sets j cut_is)) (inr (some_class (chunk_class x.allocator j) cut_is)) in
        (none, kind_stays j (other_than j none) telling 0 (S.due runs j (sym (same.due j) ∙ is) (told telling)).1);
    cut = λ r j c is undue telling.
        let none = log_lacks j (low j (N.sets.cut_in j c is).0) (inr (ap is_some is)) in
        (none, kind_stays j (other_than j none) telling (2 + 256 * c) (S.cut runs j c (sym (same.classes j) ∙ is) (sym (same.due j) ∙ undue) (told telling)).1);
    names = λ r on telling. subst (λ (y : Worker). NamesStand t m v.kept v.present v.told v.dead x.log x.standing y.clearing y.cleaning) (sym K.same) (names_now (sym (ap (λ (y : Worker). y.winds_down) K.same) ∙ on) telling);
  }
