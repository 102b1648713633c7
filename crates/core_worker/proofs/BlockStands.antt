-- After a value's block is written: the ties to the region by the view with the block.
use Rattle.std.proofs.Common.{◌≡◌, ◌≢◌, inl, inr, ⊎_elim, ℕ, ◌+◌, ◌*◌, ◌^◌, ◌≤◌, ◌<◌, ◌==◌, ◌&&◌, not, Bool, true, false, List, length, Some, None, refl, sym, ◌∙◌, ap, subst, arith}
use Rattle.std.proofs.lemmas.Bool.{cases_eq, eq-eqb, ne_eqb, and_parts}
use Rattle.pm_region.specs.State.{State, Frame, IsTelling, cell_now, During}
use Rattle.pm_region.specs.Words.{KeepsOutside, EachIn, Surely}
use Rattle.pm_region.proofs.Clients.{at_exit, told_at_entry, surely_kept}
use Rattle.log_entry.specs.declared.entry.Entry.{Entry}
use Rattle.log_entry.specs.declared.entry.Body.TheVariants as bodies
use Rattle.chunk_map.specs.declared.layouts.Geometry.{Geometry}
use Rattle.chunk_map.specs.Layouts.{chunk_words, chunk_first, part_first, has_class}
use Rattle.store_image.proofs.Clients.{layout_numbers, chunk_of as block_chunk_of}
use Rattle.core_log.specs.Log.{tail_of, first_of, chunk_with}
use Rattle.lazy_alloc.specs.Sets.{Sets, AreSets, chunk_of, class_at, chunk_class, chunk_is_due}
use Rattle.lazy_alloc.specs.Written.{KeepsOthers, HeadTurnsTo, HasHead, WroteValue, head_of}
use Rattle.lazy_alloc.proofs.Clients.{chunks_same, lies_at, class_same}
use Rattle.group_laws.specs.Places.{Place, core_of}
use Rattle.group_laws.specs.MemberViews.{View}
use Rattle.group_board.specs.Views.{after_post}
use Rattle.licence.specs.Licence.{Licensed, grounded}
use Rattle.core_log.proofs.Clients.{outside_chunk, log_beside, words_kept, own_chunk, tail_fits}
use Rattle.core_log.specs.Chunk.{words_now}
use Rattle.chunk_map.proofs.Clients.{chunks_apart}
use Rattle.core_worker.proofs.ChunksKept.{chunk_same}
use Rattle.core_worker.proofs.CleaningKept.{fewer_same, keeps_few}
use Rattle.core_worker.proofs.NamesStood.{names_kept}
use Rattle.core_worker.specs.declared.worker.Worker.{Worker}
use Rattle.core_worker.specs.declared.types.Leading.TheVariants as leads
use Rattle.core_worker.specs.declared.types.Place.TheVariants.{Staged}
use Rattle.batch_leader.specs.declared.batch_buffer.BatchBuffer.{BatchBuffer}
use Rattle.core_worker.specs.OwnPlaces.{place_at}
use Rattle.core_worker.specs.Posting.{IsStagedWith}
use Rattle.core_worker.specs.KeyTies.{IsBlockFor}
use Rattle.core_worker.specs.Ties.{HasSpaceFor, Holds, Stands}
use Rattle.core_worker.proofs.Flight.{stops_here}
use Rattle.core_worker.proofs.Writing.{in_chunks}
use Rattle.licence.specs.Writes.{IsUnused, WritesBlock}
use Rattle.licence.proofs.Clients.{block_licensed, block_chunk, block_gained}
use Rattle.core_worker.proofs.PostedBlocks.{posted_gains}

-- the head of a staged change's block is what the write asks
pub head_ready : (s : State) (p : Place) (m : ℕ) (v : View) (w : Worker) → Holds p m v w → Stands s p m v w → w.stopped ≡ false → (q class : ℕ) → class_at w.allocator q ≡ Some class → HasHead s w.allocator q class
head_ready s p m v w H S runs q class at = record {
  due = λ e telling. subst (λ (x : ℕ). Surely (cell_now s x) 0) first_is (S.due runs (chunk_of w.allocator q) e telling).1;
  written = λ e telling. subst (λ (x : ℕ). Surely (cell_now s x) (2 + 256 * class)) first_is (S.cut runs (chunk_of w.allocator q) class (lies_at w.allocator q class H.sets at).class_is e telling).1;
}
  where
    first_is : first_of w.log (chunk_of w.allocator q) ≡ chunk_first w.allocator.layout w.allocator.part (chunk_of w.allocator q)
    first_is = (λ i. chunk_first ((H.log_layout ∙ sym H.allocator_layout) i) ((H.log_part ∙ sym H.allocator_part) i) (chunk_of w.allocator q))

-- the block of a staged change
pub staged_block : (p : Place) (m : ℕ) (v : View) (w : Worker) → Holds p m v w → (slot n q : ℕ) (e : Entry) (u : List ℕ) → place_at w.places.items slot ≡ Staged n e u → IsStagedWith (place_at w.places.items slot) q → IsBlockFor w.allocator q (length u) × (v.blocks q ≡ None)
staged_block p m v w H slot n q e u was staged = H.blocks.staged q (record { slot = slot; number = n; entry = e; value = u; place = was; points = subst (λ x. IsStagedWith x q) was staged })

-- another allocator of the same blocks
pub holds_written : (t : State) (p : Place) (m : ℕ) (v : View) (w : Worker) (b : BatchBuffer) (a : Sets) (q class : ℕ) (value : List ℕ) → Holds p m v w → w.leading ≡ leads.Nothing b → AreSets a → WroteValue t w.allocator a q class value → Holds p m v (record w { allocator = a })
holds_written t p m v w b a q class value H nothing sets wrote = record {
  place = H.place;
  member = H.member;
  core = H.core;
  layout = H.layout;
  log_layout = H.log_layout;
  log_part = H.log_part;
  sets = sets;
  allocator_layout = wrote.layout_is ∙ H.allocator_layout;
  allocator_part = wrote.part_is ∙ H.allocator_part;
  spelled = H.spelled;
  eight = H.eight;
  placed = H.placed;
  apart = H.apart;
  pending = H.pending;
  admitted = H.admitted;
  keys = H.keys;
  mail = H.mail;
  blocks = record {
    held = λ r d e. block r (length d.bytes) (H.blocks.held r d e);
    staged = λ r x. (block r (length x.value) (H.blocks.staged r x).0, (H.blocks.staged r x).1);
    once = H.blocks.once;
    only = λ r used. H.blocks.only r (sym (wrote.used r) ∙ used);
  };
  waits = H.waits;
  leads = H.leads;
  space = λ r. subst (HasSpaceFor (record w { allocator = a })) (sym nothing) tt;
  broken = H.broken;
  cleaning = keeps_few p m v w a (fewer_same w.allocator a (chunks_same w.allocator a (record { layout_is = wrote.layout_is; part_is = wrote.part_is }) wrote.free) wrote.free wrote.classes) H.cleaning;
  remembers = H.remembers;
  chunks = λ r j lt. chunk_same w.allocator a w.log.chunks j (wrote.free j) (wrote.classes j) (H.chunks r j lt);
  lost = H.lost;
  flight = H.flight;
}
  where
    block : (r n : ℕ) → IsBlockFor w.allocator r n → IsBlockFor a r n
    block r n is = record {
      used = wrote.used r ∙ is.used;
      class = is.class;
      class_is = class_same w.allocator a (record { layout_is = wrote.layout_is; part_is = wrote.part_is }) wrote.classes r ∙ is.class_is;
      fits = is.fits;
    }

-- who stops is tied by less
pub holds_stopped : (p : Place) (m : ℕ) (v : View) (w : Worker) → Holds p m v w → w.stopped ≡ false → Holds p m v (record w { stopped = true })
holds_stopped p m v w H runs = record {
  place = H.place;
  member = H.member;
  core = H.core;
  layout = H.layout;
  log_layout = H.log_layout;
  log_part = H.log_part;
  sets = H.sets;
  allocator_layout = H.allocator_layout;
  allocator_part = H.allocator_part;
  spelled = H.spelled;
  eight = H.eight;
  placed = H.placed;
  apart = H.apart;
  pending = λ k x has. ⊎_elim (λ a. inl a) (λ d. absurd (let both : true ≡ false = sym d.2 ∙ runs in cc both)) (H.pending k x has);
  admitted = H.admitted;
  keys = λ k own which. H.keys k own (inl runs);
  mail = H.mail;
  blocks = H.blocks;
  waits = H.waits;
  leads = H.leads;
  space = λ r. absurd (cc r);
  broken = λ b. refl;
  cleaning = inl refl;
  remembers = λ r. absurd (cc r);
  chunks = λ r. absurd (cc r);
  lost = λ l. refl;
  flight = stops_here v.flying v.broken w.leading w.lost_batch w.stopped H.flight;
}

module _ (s t : State) (p : Place) (m : ℕ) (v : View) (w : Worker) (H : Holds p m v w) (S : Stands s p m v w) (runs : w.stopped ≡ false) (q class : ℕ) (at : class_at w.allocator q ≡ Some class) (unused : v.blocks q ≡ None)
    (others : During s t (KeepsOthers w.allocator q class (cell_now s))) (turns : During s t (EachIn (head_of w.allocator q) (head_of w.allocator q + 2) (HeadTurnsTo w.allocator q class))) where
  abbrev a : Sets
  a = w.allocator

  abbrev j : ℕ
  j = chunk_of w.allocator q

  same_layout : w.log.layout ≡ w.allocator.layout
  same_layout = H.log_layout ∙ sym H.allocator_layout

  same_part : w.log.part ≡ w.allocator.part
  same_part = H.log_part ∙ sym H.allocator_part

  first_is : (k : ℕ) → first_of w.log k ≡ chunk_first w.allocator.layout w.allocator.part k
  first_is k = (λ i. chunk_first (same_layout i) (same_part i) k)

  lies_in : (chunk_class a j ≡ Some class) × (j < a.layout.chunks)
  lies_in = let L = lies_at a q class H.sets at in (L.class_is, L.within)

  no_tail : IsTelling s → tail_of w.log.chunks j ≡ None
  no_tail telling = by_due (chunk_is_due a j) refl where
    by_due : (b : Bool) → chunk_is_due a j ≡ b → tail_of w.log.chunks j ≡ None
    by_due true e = (S.due runs j e telling).0
    by_due false e = (S.cut runs j class lies_in.0 e telling).0

  head : HasHead s w.allocator q class
  head = head_ready s p m v w H S runs q class at

  -- the block is in no value of the view
  block : (x : View) → x.blocks q ≡ None → (IsTelling s → Licensed p m x (cell_now s)) → IsUnused s p m x a q class
  block x none licensed = record { place = H.place; sets = H.sets; layout = H.allocator_layout; part = H.allocator_part; at = at; unused = none; head = head; licensed = licensed }

  writes : WritesBlock s t a q class
  writes = record { outside = others; head = turns }

  pub moments : During s t (Licensed p m v)
  moments = block_licensed s t p m v a q class (block v unused S.licensed) writes

  to_log : (P : Geometry → ℕ → Type 0) → P p.layout (core_of p m) → P w.log.layout w.log.part
  to_log P h = subst (λ c. P w.log.layout c) (sym H.log_part) (subst (λ l. P l (core_of p m)) (sym H.log_layout) h)

  only_chunk : During s t (KeepsOutside (cell_now s) (first_of w.log j) (first_of w.log j + chunk_words w.log.layout))
  only_chunk = to_log (λ l c. During s t (KeepsOutside (cell_now s) (chunk_first l c j) (chunk_first l c j + chunk_words l)))
      (subst (λ (k : ℕ). During s t (KeepsOutside (cell_now s) (chunk_first p.layout (core_of p m) k) (chunk_first p.layout (core_of p m) k + chunk_words p.layout))) (ap (λ l. block_chunk_of l q) (sym H.allocator_layout))
      (block_chunk s t p m v a q class (block v unused S.licensed) writes))

  before : IsTelling t → IsTelling s
  before telling = told_at_entry s t (KeepsOutside (cell_now s) (first_of w.log j) (first_of w.log j + chunk_words w.log.layout)) only_chunk telling

  to : (n : ℕ) → n < a.layout.chunks → n < w.log.layout.chunks
  to n less = subst (λ (l : Geometry). n < l.chunks) (sym same_layout) less

  kind_stays : IsTelling t → (k : ℕ) → k < a.layout.chunks → k ≢ j → (x : ℕ) → Surely (cell_now s (first_of w.log k)) x → Surely (cell_now t (first_of w.log k)) x
  kind_stays telling k lt ne x sure =
      let size = (layout_numbers w.log.layout (S.log runs).own.layout).size in
      let out = outside_chunk w.log.layout w.log.part j k 0 ne (omega (arith, size)) in
      surely_kept (cell_now s (first_of w.log k)) (cell_now t (first_of w.log k)) x sure
      (at_exit s t (KeepsOutside (cell_now s) (first_of w.log j) (first_of w.log j + chunk_words w.log.layout)) only_chunk telling (first_of w.log k) (⊎_elim (λ lo. inl (omega (arith, lo))) (λ hi. inr (omega (arith, hi))) out))

  words_stay : IsTelling t → (k u : ℕ) → tail_of w.log.chunks k ≡ Some u → words_now t (first_of w.log k) u ≡ words_now s (first_of w.log k) u
  words_stay telling k u is =
      let own = (S.log runs).own in
      let fits = (tail_fits w.log.layout own.layout (chunk_with k u) (own_chunk w.log own k u is)).0 in
      let ne : k ≢ j = λ same. (let both : None ≡ Some u = sym (no_tail (before telling)) ∙ ap (tail_of w.log.chunks) (sym same) ∙ is in cc both) in
      words_kept s t (first_of w.log k) u (λ x lo hi.
      at_exit s t (KeepsOutside (cell_now s) (first_of w.log j) (first_of w.log j + chunk_words w.log.layout)) only_chunk telling x
      (⊎_elim (λ below. inl (omega (arith, below, hi, fits))) (λ above. inr (omega (arith, above, lo))) (chunks_apart w.log.layout w.log.part k j ne)))

  module _ (b : Sets) (value : List ℕ) (wrote : WroteValue t w.allocator b q class value) (slot : ℕ) (e : Entry) (long : has_class (length value) class ≡ true) (points : e.body ≡ bodies.Pointer q) where
    other : (k : ℕ) → chunk_is_due b k ≡ true → (chunk_is_due a k ≡ true) × (k ≢ j)
    other k e = let both = and_parts (chunk_is_due a k) (not (k == j)) (sym (wrote.due k) ∙ e) in (both.0, λ same. (let no : true ≡ false = sym both.1 ∙ ap not (eq-eqb k j same) in cc no))

    undue : (k : ℕ) → k ≢ j → chunk_is_due b k ≡ false → chunk_is_due a k ≡ false
    undue k ne e = by_due (chunk_is_due a k) refl where
      by_due : (x : Bool) → chunk_is_due a k ≡ x → chunk_is_due a k ≡ false
      by_due false is = is
      by_due true is = absurd (let both : true ≡ false = sym (wrote.due k ∙ ap (λ y. y && not (k == j)) is ∙ ap not (ne_eqb k j ne)) ∙ e in cc both)

    pub stands_block : Stands t p m (after_post slot e value v) (record w { allocator = b })
    stands_block = record {
      lies = record {
        low = subst (λ (f : Frame). f.first ≤ part_first b.layout b.part) (sym only_chunk.frame) (subst (λ (x : ℕ). s.frame.first ≤ x) (λ i. part_first (sym wrote.layout_is i) (sym wrote.part_is i)) S.lies.low);
        high = subst (λ (f : Frame). part_first b.layout (b.part + 1) ≤ f.first + f.words) (sym only_chunk.frame) (subst (λ (x : ℕ). x ≤ s.frame.first + s.frame.words) (λ i. part_first (sym wrote.layout_is i) (sym wrote.part_is i + 1)) S.lies.high);
        fits = subst (λ (f : Frame). f.first + f.words < 2 ^ 64) (sym only_chunk.frame) S.lies.fits;
      };
      licensed = block_gained s t p m v a q class (block v unused S.licensed) writes (after_post slot e value v) b (record { key = e.key; bytes = value }) long wrote (posted_gains v slot q e value points);
      landed = λ unlost. block_gained s t p m (grounded v) a q class (block (grounded v) unused (S.landed unlost)) writes (after_post slot e value (grounded v)) b (record { key = e.key; bytes = value }) long wrote (posted_gains (grounded v) slot q e value points);
      log = λ r. log_beside s t w.log j no_tail only_chunk (S.log runs);
      free = λ r k is telling.
          let was_free = sym (wrote.free k) ∙ is in
          let was = S.free runs k was_free (before telling) in
          let none = (H.sets.free_in k was_free) in
          (was.0, kind_stays telling k none.0 (λ same. (let both : Some class ≡ None = sym lies_in.0 ∙ ap (chunk_class a) (sym same) ∙ none.1 in cc both)) 0 was.1);
      due = λ r k is telling.
          let o = other k is in
          let was = S.due runs k o.0 (before telling) in
          (was.0, kind_stays telling k (in_chunks a H.sets k (H.sets.due_in k o.0)) o.1 0 was.1);
      cut = λ r k c is un telling. ⊎_elim
          (λ same.
          let cls : Some c ≡ Some class = sym (sym (wrote.classes k) ∙ is) ∙ ap (chunk_class a) same ∙ lies_in.0 in
          let c_is : c ≡ class = cc cls in (
            ap (tail_of w.log.chunks) same ∙ no_tail (before telling),
            subst (λ (x : ℕ). Surely (cell_now t (first_of w.log k)) (2 + 256 * x)) (sym c_is) (subst (λ (x : ℕ). Surely (cell_now t (first_of w.log x)) (2 + 256 * class)) (sym same) (subst (λ (x : ℕ). Surely (cell_now t x) (2 + 256 * class)) (sym (first_is j)) (wrote.head telling))),
          ))
          (λ ne.
          let was = S.cut runs k c (sym (wrote.classes k) ∙ is) (undue k ne un) (before telling) in
          (was.0, kind_stays telling k (H.sets.cut_in k c (sym (wrote.classes k) ∙ is)).0 ne (2 + 256 * c) was.1))
          (cases_eq k j);
      names = λ r on telling. names_kept s t m v.kept v.present v.told v.dead w.log w.standing w.clearing w.cleaning (words_stay telling) (S.names r on (before telling));
    }

  pub stands_stopped : Stands t p m v (record w { stopped = true })
  stands_stopped = record {
    lies = record {
      low = subst (λ (f : Frame). f.first ≤ part_first w.allocator.layout w.allocator.part) (sym only_chunk.frame) S.lies.low;
      high = subst (λ (f : Frame). part_first w.allocator.layout (w.allocator.part + 1) ≤ f.first + f.words) (sym only_chunk.frame) S.lies.high;
      fits = subst (λ (f : Frame). f.first + f.words < 2 ^ 64) (sym only_chunk.frame) S.lies.fits;
    };
    licensed = λ telling. at_exit s t (Licensed p m v) moments telling;
    landed = λ unlost telling. at_exit s t (Licensed p m (grounded v)) (block_licensed s t p m (grounded v) a q class (block (grounded v) unused (S.landed unlost)) writes) telling;
    log = λ r. absurd (cc r);
    free = λ r. absurd (cc r);
    due = λ r. absurd (cc r);
    cut = λ r. absurd (cc r);
    names = λ r. absurd (cc r);
  }
