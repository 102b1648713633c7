-- What a log keeps to, and that it stands again after a chunk of it was written.
use Rattle.std.proofs.Common.{◌≡◌, ◌≢◌, inl, inr, ⊎_elim, ℕ, ◌+◌, ◌*◌, ◌/◌, ◌≤◌, ◌<◌, true, List, [], ◌∷◌, length, Option, Some, None, is_some, unwrap_or, refl, sym, ◌∙◌, ap, subst, arith}
use Rattle.std.specs.List.{AllByRecursion}
use Rattle.std.proofs.lemmas.Bool.{cases_eq}
use Rattle.pm_region.specs.Cell.{Cell}
use Rattle.pm_region.specs.State.{State, Frame, IsTelling, cell_now, During}
use Rattle.pm_region.specs.Words.{Kept, KeepsOutside, lasts}
use Rattle.pm_region.proofs.Clients.{at_exit, told_at_entry, surely_kept, surely_own}
use Rattle.chunk_map.specs.declared.layouts.Geometry.{Geometry}
use Rattle.chunk_map.specs.Layouts.{IsLayout, chunk_words, payload_lines, part_first}
use Rattle.chunk_map.proofs.Clients.{numbers_of, payload_of, chunks_apart, chunk_in_part, chunk_first_whole, part_within}
use Rattle.log_entry.proofs.Clients.{words_same}
use Rattle.core_log.specs.declared.types.LogChunk.{LogChunk}
use Rattle.core_log.specs.Chunk.{words_now, ChunkLies, IsLog}
use Rattle.core_log.specs.Log.{LogState, tail_of, with_tail, chunk_with, IsRising, IsChunkOf, IsOwn, first_of, Spelled, StandsIn}
use Rattle.core_log.proofs.TailLaws.{tail_set, tail_other, rising_set, all_set, all_of, rising_short}

pub own_chunk : (log : LogState) → IsOwn log → (j t : ℕ) → tail_of log.chunks j ≡ Some t → IsChunkOf log.layout (chunk_with j t)
own_chunk log own j t is = all_of (IsChunkOf log.layout) log.chunks j t own.each is

-- a tail fits in its chunk
pub tail_fits : (l : Geometry) → IsLayout l → (c : LogChunk) → IsChunkOf l c → (c.tail + 32 ≤ chunk_words l) × (c.tail / 8 ≤ payload_lines l)
tail_fits l is c chunk =
    let size = (numbers_of l is).size in
    let payload = payload_of l size in
    let fits = chunk.fits in
    (omega (arith, payload, fits), omega (arith, payload, fits))

pub room_in : (log : LogState) → IsOwn log → (j : ℕ) → unwrap_or (tail_of log.chunks j) 0 / 8 ≤ payload_lines log.layout
room_in log own j = by_tail (tail_of log.chunks j) refl
  where
    by_tail : (o : Option ℕ) → tail_of log.chunks j ≡ o → unwrap_or o 0 / 8 ≤ payload_lines log.layout
    by_tail None is = omega arith
    by_tail (Some t) is = (tail_fits log.layout own.layout (chunk_with j t) (own_chunk log own j t is)).1

within : (l : Geometry) (cs : List LogChunk) → AllByRecursion (IsChunkOf l) cs → AllByRecursion (λ (c : LogChunk). c.chunk < l.chunks) cs
within l [] all = tt
within l (c ∷ cs) all = (all.0.within, within l cs all.1)

-- a rising list of a part's chunks is no longer than the part has chunks
pub kept_short : (l : Geometry) (cs : List LogChunk) → IsRising 0 cs → AllByRecursion (IsChunkOf l) cs → length cs ≤ l.chunks
kept_short l cs rising each = omega (arith, rising_short 0 l.chunks cs (omega arith) rising (within l cs each))

pub has_place : (log : LogState) → IsOwn log → length log.chunks ≤ log.layout.chunks
has_place log own = kept_short log.layout log.chunks own.rising own.each

still_some : (cs : List LogChunk) (j t k : ℕ) → is_some (tail_of cs k) ≡ true → is_some (tail_of (with_tail cs j t) k) ≡ true
still_some cs j t k some = ⊎_elim (λ here. ap is_some (ap (tail_of (with_tail cs j t)) here ∙ tail_set cs j t)) (λ other. ap is_some (tail_other cs j t k other) ∙ some) (cases_eq k j)

pub own_set : (log : LogState) (j t : ℕ) → IsOwn log → IsChunkOf log.layout (chunk_with j t) → IsOwn (record log { chunks = with_tail log.chunks j t })
own_set log j t own is = record {
  layout = own.layout;
  part = own.part;
  rising = rising_set 0 log.chunks j t own.rising (omega arith);
  each = all_set (IsChunkOf log.layout) log.chunks j t own.each is;
  opened = λ k at. still_some log.chunks j t k (own.opened k at);
}

pub own_open : (log : LogState) (j : ℕ) → IsOwn log → j < log.layout.chunks → IsOwn (record log { chunks = with_tail log.chunks j 0; opened = Some j })
own_open log j own lt = record {
  layout = own.layout;
  part = own.part;
  rising = rising_set 0 log.chunks j 0 own.rising (omega arith);
  each = all_set (IsChunkOf log.layout) log.chunks j 0 own.each (record { within = lt; whole = refl; fits = omega arith });
  opened = λ k at. let here : k ≡ j = cc at in ap is_some (ap (tail_of (with_tail log.chunks j 0)) here ∙ tail_set log.chunks j 0);
}

-- where a chunk of the part lies
pub part_lies : (f : Frame) (log : LogState) (j t : ℕ) → IsOwn log → f.first ≤ part_first log.layout log.part → part_first log.layout (log.part + 1) ≤ f.first + f.words
    → IsChunkOf log.layout (chunk_with j t) → ChunkLies f (first_of log j) (chunk_words log.layout) t
part_lies f log j t own low high is =
    let l = log.layout in
    let numbers = numbers_of l own.layout in
    let inside = chunk_in_part l log.part j is.within in
    let total = numbers.total in
    let end : 8 * part_first l (log.part + 1) ≤ 4096 + l.cores * l.chunks * l.chunk_bytes = part_within l log.part own.layout own.part in
    let line = chunk_first_whole l log.part j numbers.size in
    record {
      low = omega (arith, inside, low);
      high = omega (arith, inside, high);
      fits = omega (arith, inside, end, total);
      line = omega (arith, line);
      tail_in = (tail_fits l own.layout (chunk_with j t) is).0;
      tail_whole = is.whole;
    }

pub chunk_lies : (s : State) (log : LogState) (j t : ℕ) → StandsIn s log → IsChunkOf log.layout (chunk_with j t) → ChunkLies s.frame (first_of log j) (chunk_words log.layout) t
chunk_lies s log j t stands is = part_lies s.frame log j t stands.own stands.low stands.high is

pub kept_last : (a b : Cell) → Kept a b → b.last ≡ a.last
kept_last a b kept = ⊎_elim (λ same. ap (λ (c : Cell). c.last) same) (λ after. ap (λ (c : Cell). c.last) after) kept

-- a chunk whose words are kept still is a log
pub log_kept : (old new : ℕ → Cell) (at tail : ℕ) → IsLog old at tail → ((w : ℕ) → at ≤ w → w < at + 32 + tail → Kept (old w) (new w)) → IsLog new at tail
log_kept old new at tail is kept = record {
  kind = surely_kept (old at) (new at) 1 is.kind (kept at (omega arith) (omega arith));
  tail_is = surely_kept (old (at + 1)) (new (at + 1)) tail is.tail_is (kept (at + 1) (omega arith) (omega arith));
  words = λ k lt. let w = at + 32 + k in surely_own (new w) (old w).last (surely_kept (old w) (new w) (old w).last (is.words k lt) (kept w (omega arith) (omega arith)));
}

pub words_kept : (s t : State) (at tail : ℕ) → ((w : ℕ) → at ≤ w → w < at + 32 + tail → Kept (cell_now s w) (cell_now t w)) → words_now t at tail ≡ words_now s at tail
words_kept s t at tail kept = words_same (lasts t) (lasts s) (at + 32) tail (λ k lt. kept_last (cell_now s (at + 32 + k)) (cell_now t (at + 32 + k)) (kept (at + 32 + k) (omega arith) (omega arith)))

-- The log stands in the region after one chunk of its part, and no word outside it, was written.
module _ (s t : State) (log : LogState) (j tail : ℕ) (stands : StandsIn s log)
    (outside : During s t (KeepsOutside (cell_now s) (first_of log j) (first_of log j + chunk_words log.layout)))
    (here : IsTelling t → IsLog (cell_now t) (first_of log j) tail) (spells : IsTelling t → Spelled (words_now t (first_of log j) tail)) where
  told_before : IsTelling t → IsTelling s
  told_before telling = told_at_entry s t (KeepsOutside (cell_now s) (first_of log j) (first_of log j + chunk_words log.layout)) outside telling

  -- the words of another chunk of the log are kept
  kept_else : IsTelling t → (k u : ℕ) → k ≢ j → tail_of log.chunks k ≡ Some u → (w : ℕ) → first_of log k ≤ w → w < first_of log k + 32 + u → Kept (cell_now s w) (cell_now t w)
  kept_else telling k u ne is w low high =
      let fits = (tail_fits log.layout stands.own.layout (chunk_with k u) (own_chunk log stands.own k u is)).0 in
      at_exit s t (KeepsOutside (cell_now s) (first_of log j) (first_of log j + chunk_words log.layout)) outside telling w
      (⊎_elim (λ before. inl (omega (arith, before, fits, high))) (λ behind. inr (omega (arith, behind, low))) (chunks_apart log.layout log.part k j ne))

  logs : IsTelling t → (k u : ℕ) → tail_of (with_tail log.chunks j tail) k ≡ Some u → IsLog (cell_now t) (first_of log k) u
  logs telling k u is = ⊎_elim
      (λ at. let same : tail ≡ u = cc (sym (tail_set log.chunks j tail) ∙ ap (tail_of (with_tail log.chunks j tail)) (sym at) ∙ is) in
      subst (λ (n : ℕ). IsLog (cell_now t) (first_of log k) n) same (subst (λ (n : ℕ). IsLog (cell_now t) (first_of log n) tail) (sym at) (here telling)))
      (λ ne. let was = sym (tail_other log.chunks j tail k ne) ∙ is in
      log_kept (cell_now s) (cell_now t) (first_of log k) u (stands.logs (told_before telling) k u was) (kept_else telling k u ne was))
      (cases_eq k j)

  spelled : IsTelling t → (k u : ℕ) → tail_of (with_tail log.chunks j tail) k ≡ Some u → Spelled (words_now t (first_of log k) u)
  spelled telling k u is = ⊎_elim
      (λ at. let same : tail ≡ u = cc (sym (tail_set log.chunks j tail) ∙ ap (tail_of (with_tail log.chunks j tail)) (sym at) ∙ is) in
      subst (λ (n : ℕ). Spelled (words_now t (first_of log k) n)) same (subst (λ (n : ℕ). Spelled (words_now t (first_of log n) tail)) (sym at) (spells telling)))
      (λ ne. let was = sym (tail_other log.chunks j tail k ne) ∙ is in
      subst Spelled (sym (words_kept s t (first_of log k) u (kept_else telling k u ne was))) (stands.spelled (told_before telling) k u was))
      (cases_eq k j)

  pub stands_set : (opened : Option ℕ) → IsOwn (record { layout = log.layout; part = log.part; chunks = with_tail log.chunks j tail; opened = opened })
      → StandsIn t (record { layout = log.layout; part = log.part; chunks = with_tail log.chunks j tail; opened = opened })
  stands_set opened own = record {
    own = own;
    low = subst (λ (f : Frame). f.first ≤ part_first log.layout log.part) (sym outside.frame) stands.low;
    high = subst (λ (f : Frame). part_first log.layout (log.part + 1) ≤ f.first + f.words) (sym outside.frame) stands.high;
    logs = logs;
    spelled = spelled;
  }
