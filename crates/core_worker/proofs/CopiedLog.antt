-- The log, the allocator and the numbers after a batch of copies.
use Rattle.std.proofs.Common.{◌≡◌, ◌≢◌, ◌⊎◌, inl, inr, ℕ, zero, suc, ◌+◌, ◌-◌, ◌/◌, ◌≤◌, ◌<◌, ltb, Bool, true, false, cond, List, length, Option, Some, None, refl, sym, ◌∙◌, ap, arith}
use Rattle.std.specs.Prelude.{is_some, unwrap_or}
use Rattle.std.proofs.lemmas.Bool.{ltb-false}
use Rattle.pm_region.specs.Words.{lines_for}
use Rattle.core_log.specs.Chunk.{padded}
use Rattle.core_log.specs.Log.{LogState, tail_of, with_tail, room_of, lines_left, open_number, open_tail}
use Rattle.core_log.proofs.Clients.{tail_other, tail_set}
use Rattle.chunk_map.specs.Layouts.{payload_lines}
use Rattle.core_room.specs.CleaningRoom.{left_after, left_words, lines_after}
use Rattle.core_room.specs.Lengths.{lines_to_copy}
use Rattle.lazy_alloc.specs.Sets.{Sets, AreSets, free_chunk_count}
use Rattle.batch_leader.specs.Persisting.{opened_for}
use Rattle.core_worker.specs.CopyTurns.{copied_to}
use Rattle.core_worker.specs.OwnChunks.{AreChunks}
use Rattle.core_worker.specs.TakenChunks.{TakesChunkIf, appended_to}
use Rattle.core_worker.proofs.BatchRoom.{room_appended}
use Rattle.core_worker.proofs.ChunksKept.{HasOpen, has_more, chunks_opened, chunks_wrote}

pub copied_layout : (n : ℕ) (log : LogState) (ws : List ℕ) → (copied_to n log ws).layout ≡ log.layout
copied_layout zero log ws = refl
copied_layout (suc n) log ws = refl

pub copied_part : (n : ℕ) (log : LogState) (ws : List ℕ) → (copied_to n log ws).part ≡ log.part
copied_part zero log ws = refl
copied_part (suc n) log ws = refl

pub copied_opened : (n : ℕ) (log : LogState) (ws : List ℕ) → (copied_to n log ws).opened ≡ log.opened
copied_opened zero log ws = refl
copied_opened (suc n) log ws = refl

pub opened_part : (log : LogState) (o : Option ℕ) → (opened_for log o).part ≡ log.part
opened_part log None = refl
opened_part log (Some j) = refl

-- a chunk of the log stays one
pub copied_more : (n : ℕ) (log : LogState) (ws : List ℕ) (i : ℕ) → is_some (tail_of log.chunks i) ≡ true → is_some (tail_of (copied_to n log ws).chunks i) ≡ true
copied_more zero log ws i has = has
copied_more (suc n) log ws i has = has_more log.chunks (open_number log) (open_tail log + length (padded ws)) i has

-- each other chunk has its tail
pub copied_else : (n : ℕ) (log : LogState) (ws : List ℕ) (i : ℕ) → i ≢ open_number log → tail_of (copied_to n log ws).chunks i ≡ tail_of log.chunks i
copied_else zero log ws i ne = refl
copied_else (suc n) log ws i ne = tail_other log.chunks (open_number log) (open_tail log + length (padded ws)) i ne

pub opened_else : (log : LogState) (o : Option ℕ) (i : ℕ) → i ≢ open_number (opened_for log o) → tail_of (opened_for log o).chunks i ≡ tail_of log.chunks i
opened_else log None i ne = refl
opened_else log (Some j) i ne = tail_other log.chunks j 0 i ne

-- each chunk is its allocator's or its log's
pub chunks_copied : (k : ℕ) (f : Bool) (old new : Sets) (o : Option ℕ) (log log' : LogState) (n : ℕ) (ws : List ℕ) → AreSets old → TakesChunkIf f old new o → HasOpen log o → log' ≡ copied_to n (opened_for log o) ws
    → AreChunks k old log.chunks → AreChunks k new log'.chunks
chunks_copied k f old new o log log' zero ws sets takes opened is had = chunks_opened k f old new o log log' sets takes is had
chunks_copied k f old new o log log' (suc n) ws sets takes opened is had = chunks_wrote k f old new o log log' (padded ws) sets takes opened is had

-- where the open chunk has room, there is one
pub room_open : (log : LogState) → 1 ≤ room_of log → is_some log.opened ≡ true
room_open log some = by log.opened refl where
  by : (o : Option ℕ) → log.opened ≡ o → is_some log.opened ≡ true
  by None e = absurd (let none = ap (lines_left log) e in omega (arith, some, none))
  by (Some j) e = ap is_some e

-- no chunk more is free
pub taken_few : (f : Bool) (old new : Sets) (o : Option ℕ) → TakesChunkIf f old new o → free_chunk_count new ≤ free_chunk_count old
taken_few true old new None t = (let same = ap free_chunk_count t.1 in omega (arith, same))
taken_few true old new (Some j) t = (let count = t.chunk_count in omega (arith, count))
taken_few false old new o t = (let same = ap free_chunk_count t.1 in omega (arith, same))

-- What is left is no more than before, and takes no more lines.
pub left_few : (c n : ℕ) → left_after c n ≤ c
left_few c n = by (ltb n 64) where
  by : (b : Bool) → cond {A = ℕ} b 0 (c - n) ≤ c
  by true = omega arith
  by false = omega arith

pub left_short : (c n k : ℕ) → left_words c n k ≤ c
left_short c n k = by (ltb n 64) where
  by : (b : Bool) → cond {A = ℕ} b 0 (c - k) ≤ c
  by true = omega arith
  by false = omega arith

-- The lines of a batch and of what is left are no more than were pledged.
pub batch_lines : (count words n k : ℕ) → 0 < n → n ≤ 64 → n ≤ count → k ≤ words → lines_for k + lines_after count words n k ≤ lines_to_copy count words
batch_lines count words n k some most few short = by (ltb n 64) refl where
  by : (b : Bool) → ltb n 64 ≡ b → lines_for k + lines_after count words n k ≤ lines_to_copy count words
  by true e =
      let is : lines_after count words n k ≡ lines_to_copy 0 0 = (λ t. lines_to_copy (cond {A = ℕ} (e t) 0 (count - n)) (cond {A = ℕ} (e t) 0 (words - k))) in
      omega (arith, is, short, few)
  by false e =
      let is : lines_after count words n k ≡ lines_to_copy (count - n) (words - k) = (λ t. lines_to_copy (cond {A = ℕ} (e t) 0 (count - n)) (cond {A = ℕ} (e t) 0 (words - k))) in
      let full = ltb-false n 64 e in
      omega (arith, is, full, short, few, most)

-- where nothing was copied, nothing is left
pub none_lines : (count words n k : ℕ) → n ≡ 0 → lines_after count words n k ≡ 0
none_lines count words n k none = ap (λ (i : ℕ). lines_after count words i k) none

-- the free lines after a batch
pub room_copied : (n : ℕ) (log : LogState) (ws : List ℕ) → is_some log.opened ≡ true
    → ((0 < n) × (room_of (copied_to n log ws) ≡ room_of log - lines_for (length ws))) ⊎ ((n ≡ 0) × (room_of (copied_to n log ws) ≡ room_of log))
room_copied zero log ws has = inr (refl, refl)
room_copied (suc n) log ws has = inl (omega arith, by log.opened refl) where
  by : (o : Option ℕ) → log.opened ≡ o → room_of (appended_to log (padded ws)) ≡ room_of log - lines_for (length ws)
  by None e = absurd (let both : true ≡ false = sym has ∙ ap is_some e in cc both)
  by (Some j) e = room_appended log ws j e

-- a chunk that was opened has all its lines free
pub room_opened : (log : LogState) (j : ℕ) → room_of (opened_for log (Some j)) ≡ payload_lines log.layout
room_opened log j =
    let none : unwrap_or (tail_of (with_tail log.chunks j 0) j) 0 ≡ 0 = ap (λ o. unwrap_or o 0) (tail_set log.chunks j 0) in
    let is : room_of (opened_for log (Some j)) ≡ payload_lines log.layout - 0 / 8 = ap (λ (t : ℕ). payload_lines log.layout - t / 8) none in
    omega (arith, is)
