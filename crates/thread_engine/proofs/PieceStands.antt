-- What ties a worker to a region ties it to its piece, and what the piece licensed the joined region does.
use Rattle.std.specs.Prelude.{is_none}
use Rattle.std.proofs.Common.{◌≡◌, inl, ℕ, Option, None, ◌+◌, ◌*◌, ◌≤◌, ◌<◌, false, Some, refl, sym, ◌∙◌, subst, arith}
use Rattle.pm_region.specs.State.{State, IsTelling, cell_now}
use Rattle.pm_region.specs.Split.{TakesPiece}
use Rattle.pm_region.specs.Words.{Kept, Surely}
use Rattle.pm_region.specs.Cell.{Cell, MayBe}
use Rattle.pm_region.proofs.Clients.{kept_narrows, surely_kept}
use Rattle.chunk_map.specs.declared.layouts.Geometry.{Geometry}
use Rattle.chunk_map.specs.Layouts.{chunk_words, part_first}
use Rattle.store_image.proofs.Clients.{layout_numbers}
use Rattle.core_log.specs.Log.{Spelled, tail_of, chunk_with, first_of}
use Rattle.core_log.proofs.Clients.{log_kept, words_kept, own_chunk, tail_fits}
use Rattle.lazy_alloc.specs.Sets.{Sets, AreSets, chunk_class}
use Rattle.group_laws.specs.Places.{Place}
use Rattle.group_laws.specs.MemberViews.{View}
use Rattle.licence.specs.Licence.{Licensed, grounded, part_at, part_end}
use Rattle.chunk_map.proofs.Clients.{chunk_in_part}
use Rattle.core_worker.specs.declared.worker.Worker.{Worker}
use Rattle.core_worker.specs.Ties.{Holds, Stands}
use Rattle.core_worker.proofs.Clients.{names_kept}
use Rattle.engine_core.specs.Working.{IsMember}
use Rattle.thread_engine.specs.Pieces.{IsPieceOf, HasPart}

-- a chunk that is Data is one of the part's
in_chunks : (a : Sets) → AreSets a → (j : ℕ) → is_none (chunk_class a j) ≡ false → j < a.layout.chunks
in_chunks a sets j some = by_class (chunk_class a j) refl some where
  by_class : (o : Option ℕ) → chunk_class a j ≡ o → is_none o ≡ false → j < a.layout.chunks
  by_class None e none = absurd (cc none)
  by_class (Some c) e none = (sets.cut_in j c e).0

module _ (s t : State) (p : Place) (m : ℕ) (v : View) (w : Worker) (H : Holds p m v w) (S : Stands s p m v w) (P : IsPieceOf p m s t) where
  before : IsTelling t → IsTelling s
  before telling = P.piece.told telling

  starts : t.frame.first ≡ part_at p m
  starts = P.piece.between.first ∙ P.low

  ends : t.frame.first + t.frame.words ≡ part_end p m
  ends = P.piece.between.end ∙ P.high

  kept : IsTelling t → (x : ℕ) → part_at p m ≤ x → x < part_end p m → Kept (cell_now s x) (cell_now t x)
  kept telling x lo hi = inl (P.piece.cells x (record { low = (let a = starts in omega (arith, a, lo)); high = (let b = ends in omega (arith, b, hi)) }))

  still : (u : View) → (IsTelling s → Licensed p m u (cell_now s)) → IsTelling t → Licensed p m u (cell_now t)
  still u was telling image may = was (before telling) image (λ x lo hi. kept_narrows (cell_now s x) (cell_now t x) (kept telling x lo hi) (image x) (may x lo hi))

  low_is : part_at p m ≡ part_first w.log.layout w.log.part
  low_is = (λ i. part_first (sym H.log_layout i) (sym H.log_part i))

  high_is : part_end p m ≡ part_first w.log.layout (w.log.part + 1)
  high_is = (λ i. part_first (sym H.log_layout i) (sym H.log_part i + 1))

  own_low : part_at p m ≡ part_first w.allocator.layout w.allocator.part
  own_low = (λ i. part_first (sym H.allocator_layout i) (sym H.allocator_part i))

  own_high : part_end p m ≡ part_first w.allocator.layout (w.allocator.part + 1)
  own_high = (λ i. part_first (sym H.allocator_layout i) (sym H.allocator_part i + 1))

  kept_in : IsTelling t → (j x : ℕ) → j < w.log.layout.chunks → first_of w.log j ≤ x → x < first_of w.log j + chunk_words w.log.layout → Kept (cell_now s x) (cell_now t x)
  kept_in telling j x lt lo hi =
      let area = chunk_in_part w.log.layout w.log.part j lt in
      let a0 = area.0 in
      let a1 = area.1 in
      let l = low_is in
      let h = high_is in
      kept telling x (omega (arith, a0, l, lo)) (omega (arith, a1, h, hi))

  kind : w.stopped ≡ false → IsTelling t → (j : ℕ) → j < w.allocator.layout.chunks → (k : ℕ) → Surely (cell_now s (first_of w.log j)) k → Surely (cell_now t (first_of w.log j)) k
  kind runs telling j lt k sure =
      let size = (layout_numbers w.log.layout (S.log runs).own.layout).size in
      surely_kept (cell_now s (first_of w.log j)) (cell_now t (first_of w.log j)) k sure
      (kept_in telling j (first_of w.log j) (subst (λ (l : Geometry). j < l.chunks) (H.allocator_layout ∙ sym H.log_layout) lt) (omega arith) (omega (arith, size)))

  log_word : w.stopped ≡ false → IsTelling t → (k u : ℕ) → tail_of w.log.chunks k ≡ Some u → (x : ℕ) → first_of w.log k ≤ x → x < first_of w.log k + 32 + u → Kept (cell_now s x) (cell_now t x)
  log_word runs telling k u is x lo hi =
      let own = (S.log runs).own in
      let chunk = own_chunk w.log own k u is in
      let fits = (tail_fits w.log.layout own.layout (chunk_with k u) chunk).0 in
      kept_in telling k x chunk.within lo (omega (arith, hi, fits))

  pub piece_stands : Stands t p m v w
  piece_stands = record {
    lies = record {
      low = (let a = starts in let l = own_low in omega (arith, a, l));
      high = (let b = ends in let h = own_high in omega (arith, b, h));
      fits = (let b = ends in let h = own_high in let top = S.lies.high in let most = S.lies.fits in omega (arith, b, h, top, most));
    };
    licensed = still v S.licensed;
    landed = λ unlost. still (grounded v) (S.landed unlost);
    log = λ runs. let L = S.log runs in record {
      own = L.own;
      low = (let a = starts in let l = low_is in omega (arith, a, l));
      high = (let b = ends in let h = high_is in omega (arith, b, h));
      logs = λ telling k u is. log_kept (cell_now s) (cell_now t) (first_of w.log k) u (L.logs (before telling) k u is) (log_word runs telling k u is);
      spelled = λ telling k u is. subst Spelled (sym (words_kept s t (first_of w.log k) u (log_word runs telling k u is))) (L.spelled (before telling) k u is);
    };
    free = λ runs j is telling. let was = S.free runs j is (before telling) in (was.0, kind runs telling j (H.sets.free_in j is).0 0 was.1);
    due = λ runs j is telling. let was = S.due runs j is (before telling) in (was.0, kind runs telling j (in_chunks w.allocator H.sets j (H.sets.due_in j is)) 0 was.1);
    cut = λ runs j c is un telling. let was = S.cut runs j c is un (before telling) in (was.0, kind runs telling j (H.sets.cut_in j c is).0 (2 + 256 * c) was.1);
    names = λ runs on telling. names_kept s t m v.kept v.present v.told v.dead w.log w.standing w.clearing w.cleaning (λ j u is. words_kept s t (first_of w.log j) u (log_word runs telling j u is)) (S.names runs on (before telling));
  }

pub piece_member : (s t : State) (p : Place) (m : ℕ) (v : View) (w : Worker) → IsMember p m s v w → IsPieceOf p m s t → IsMember p m t v w
piece_member s t p m v w M P = record { holds = M.holds; stands = piece_stands s t p m v w M.holds M.stands P; order = M.order; rule = M.rule }

-- a piece that is joined licenses as it did
pub joined_licence : (t new : State) (p : Place) (m : ℕ) (v : View) → HasPart p m t → TakesPiece new t → (IsTelling t → Licensed p m v (cell_now t)) → IsTelling new → Licensed p m v (cell_now new)
joined_licence t new p m v P T was telling image may =
    was (T.tells telling) image (λ x lo hi. subst (λ (c : Cell). MayBe c (image x)) (T.cells x (record { low = (let a = P.low in omega (arith, a, lo)); high = (let b = P.high in omega (arith, b, hi)) }) telling) (may x lo hi))
