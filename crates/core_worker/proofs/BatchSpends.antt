-- What a batch that is written spends of the core's room.
use Rattle.std.proofs.Common.{◌≡◌, ℕ, ◌+◌, ◌-◌, ◌≤◌, ◌&&◌, not, Bool, true, false, cond, List, [], ◌∷◌, length, Option, Some, None, refl, ◌∙◌, ap, arith, length-append}
use Rattle.std.specs.Prelude.{is_some}
use Rattle.pm_region.specs.Words.{lines_for}
use Rattle.log_entry.specs.declared.entry.Entry.{Entry}
use Rattle.log_entry.specs.declared.entry.Body.{Body}
use Rattle.log_entry.specs.declared.entry.Body.TheVariants as bodies
use Rattle.log_entry.specs.Spelling.{words_of}
use Rattle.chunk_map.specs.Layouts.{payload_lines}
use Rattle.core_log.specs.Log.{room_of, lines_left}
use Rattle.chunk_map.specs.Layouts.{numbers}
use Rattle.core_worker.proofs.Writing.{none_counted}
use Rattle.lazy_alloc.specs.Sets.{Sets, chunk_is_free, free_chunk_count, free_block_count}
use Rattle.group_laws.specs.Places.{Place}
use Rattle.group_laws.specs.MemberViews.{View}
use Rattle.batch_leader.specs.declared.taken.Taken.{Taken}
use Rattle.batch_leader.specs.TakenChanges.{entries_taken, spelled}
use Rattle.batch_leader.specs.Rounds.{is_first, words_taken, space}
use Rattle.batch_leader.specs.Leading.{HasSpace}
use Rattle.batch_leader.specs.Persisting.{opened_for}
use Rattle.engine_laws.specs.StockChanges.{lines_in, one_if, Spends}
use Rattle.core_worker.specs.declared.worker.Worker.{Worker}
use Rattle.core_worker.specs.Supplies.{room_for}
use Rattle.core_worker.specs.Ties.{Holds}
use Rattle.core_worker.specs.Turns.{TakesChunkIf, Persists}
use Rattle.core_worker.specs.WorkerMoves.{awaits_chunk, lines_free, stock_of}
use Rattle.core_worker.proofs.BatchRoom.{room_appended, opened_some, space_is}
use Rattle.core_worker.proofs.CauseFacts.{lines_low, lines_open, lines_few}
use Rattle.core_worker.proofs.StockFacts.{batch_few, stock_small}

-- a batch has a word
some_word : (e : Entry) → 1 ≤ length (words_of e)
some_word e = by e.key e.version e.body where
  by : (k n : ℕ) (b : Body) → 1 ≤ length (words_of (record { key = k; version = n; body = b }))
  by k n (bodies.Pointer q) = omega arith
  by k n (bodies.Embedded u) = omega arith
  by k n bodies.Tombstone = omega arith

some_words : (ts : List Taken) → is_first ts ≡ false → 1 ≤ words_taken ts
some_words [] e = absurd (cc e)
some_words (t ∷ ts) e =
    let words : words_taken (t ∷ ts) ≡ length (words_of t.change.entry) + words_taken ts = length-append (words_of t.change.entry) (spelled ts) in
    let one = some_word t.change.entry in
    omega (arith, words, one)

is_open : (w : Worker) (f : Bool) (o : Option ℕ) (own n : ℕ) (a : Sets) → HasSpace (room_for w) f own n → 1 ≤ n → TakesChunkIf f w.allocator a o → o ≡ None → is_some w.log.opened ≡ true
is_open w true o own n a had some takes none = absurd (no_chunk o takes none) where
  no_chunk : (o : Option ℕ) → TakesChunkIf true w.allocator a o → o ≡ None → ⊥
  no_chunk None takes none = (let free = had.1 refl in let zero_is = none_counted (chunk_is_free w.allocator) (numbers 0 w.allocator.layout.chunks) takes.0 in omega (arith, free, zero_is))
  no_chunk (Some j) takes none = cc none
is_open w false o own n a had some takes none = by w.log.opened refl where
  by : (p : Option ℕ) → w.log.opened ≡ p → is_some w.log.opened ≡ true
  by (Some j) e = ap is_some e
  by None e = absurd (let fits = had.0 in let empty = ap (lines_left w.log) e in omega (arith, fits, empty, some))

taken_chunks : (f : Bool) (old new : Sets) (o : Option ℕ) → TakesChunkIf f old new o → (free_chunk_count old ≤ free_chunk_count new + one_if f) × ((c : ℕ) → free_block_count new c ≡ free_block_count old c)
taken_chunks true old new None takes = ((let same = ap free_chunk_count takes.1 in omega (arith, same)), λ c. ap (λ a. free_block_count a c) takes.1)
taken_chunks true old new (Some j) takes = ((let count = takes.chunk_count in omega (arith, count)), takes.count)
taken_chunks false old new o takes = ((let same = ap free_chunk_count takes.1 in omega (arith, same)), λ c. ap (λ a. free_block_count a c) takes.1)

module _ (p : Place) (m : ℕ) (v u : View) (w x : Worker) (H : Holds p m v w) (N : Holds p m u x) (P : Persists m (record { worker = w; view = v }) (record { worker = x; view = u })) where
  abbrev taken : List Taken
  taken = P.batch.changes.taken.items

  pub batch_spends : v.flying ≡ entries_taken taken → is_first taken ≡ false → HasSpace (room_for w) P.batch.fresh P.batch.own_lines (words_taken taken) → Spends p.layout v.took v.flying u.took u.flying (stock_of w) (stock_of x) None
  batch_spends flying some had =
      let n = words_taken taken in
      let word = some_words taken some in
      let at = opened_some w.log P.fresh (is_open w P.batch.fresh P.fresh P.batch.own_lines (words_taken taken) x.allocator had word P.chunk) in
      let room = ap room_of P.log ∙ room_appended (opened_for w.log P.fresh) (spelled taken) at.0 at.1 in
      let is = (space_is w x.allocator P.batch.fresh P.fresh P.batch.own_lines (words_taken taken) had P.chunk).0 in
      let count = taken_chunks P.batch.fresh w.allocator x.allocator P.fresh P.chunk in
      record {
        opened = P.batch.fresh;
        cut = None;
        chunks = (let c = count.0 in omega (arith, c));
        lines = by P.batch.fresh refl had.0 is room;
        late = λ f. lines_few w (ap awaits_chunk P.led ∙ (λ i. not (some i) && f i));
        small = stock_small p m u x N;
        blocks = λ c. (let same = count.1 c in omega (arith, same));
        none = λ c q. absurd (cc q);
        puts = λ c q. absurd (cc q);
        class = λ c q. absurd (cc q);
      }
    where
      start_low : (f : Bool) → P.batch.fresh ≡ f → cond {A = ℕ} P.batch.fresh (payload_lines p.layout) (lines_free w) ≤ space (room_for w) P.batch.fresh
      start_low true e = let a = ap (λ b. cond {A = ℕ} b (payload_lines p.layout) (lines_free w)) e in let b = ap (space (room_for w)) e in let l = ap payload_lines H.log_layout in omega (arith, a, b, l)
      start_low false e = let a = ap (λ b. cond {A = ℕ} b (payload_lines p.layout) (lines_free w)) e in let b = ap (space (room_for w)) e in let low = lines_low w in omega (arith, a, b, low)

      by : (f : Bool) → P.batch.fresh ≡ f → lines_for (words_taken taken) ≤ space (room_for w) P.batch.fresh → space (room_for w) P.batch.fresh ≡ room_of (opened_for w.log P.fresh) → room_of x.log ≡ room_of (opened_for w.log P.fresh) - lines_for (words_taken taken)
          → cond {A = ℕ} P.batch.fresh (payload_lines p.layout) (lines_free w) + (lines_in v.took + lines_in u.flying) ≤ lines_free x + (lines_in u.took + lines_in v.flying)
      by f e fits is room =
          let few = batch_few taken in
          let fly = ap lines_in flying in
          let took = ap (λ (y : View). lines_in y.took) P.view in
          let none = ap (λ (y : View). lines_in y.flying) P.view in
          let now = lines_open x (ap awaits_chunk P.leads_now) in
          let start = start_low f e in
          omega (arith, few, fly, took, none, now, start, fits, is, room)
