-- A chunk of a log is made Free.
use Rattle.std.proofs.Common.{◌≡◌, ◌≢◌, inl, inr, ⊎_elim, ℕ, ◌+◌, ◌≤◌, ◌<◌, true, [], Option, Some, None, is_some, unwrap_or, refl, sym, ◌∙◌, ap, subst, arith}
use Rattle.pm_region.specs.Cell.{Cell}
use Rattle.pm_region.specs.State.{State, Frame, IsTelling, cell_now, During}
use Rattle.pm_region.specs.Words.{Kept, KeepsOutside, Surely, EachIn, lasts}
use Rattle.pm_region.proofs.Clients.{weaken, both, at_exit, told_at_entry, may_be_last, surely_kept}
use Rattle.chunk_map.specs.declared.heads.Head.TheVariants.{Free}
use Rattle.chunk_map.specs.Layouts.{chunk_words, part_first, head_by, chunk_first}
use Rattle.chunk_map.specs.Setting.{HeadTurns}
use Rattle.chunk_map.specs.declared.layouts.Geometry.{Geometry}
use Rattle.chunk_map.proofs.Clients.{chunks_apart}
use Rattle.log_entry.proofs.Clients.{words_same}
use Rattle.store_image.specs.Parts.{chunk_entries, scan_behind, placed_in_chunk}
use Rattle.core_log.specs.Chunk.{words_now, FreeOrLog, ChunkLies}
use Rattle.core_log.specs.Log.{LogState, tail_of, without, chunk_with, IsChunkOf, IsOwn, first_of, tail_in, Spelled, StandsIn}
use Rattle.core_log.specs.Opening.{EachInChunk}
use Rattle.core_log.specs.Retiring.{HasSameOrNone, RetiredChunk}
use Rattle.core_log.proofs.Append.{log_reads}
use Rattle.core_log.proofs.LogLaws.{own_chunk, chunk_lies, log_kept, words_kept, tail_fits}
use Rattle.core_log.proofs.BatchLaws.{entries_read}
use Rattle.core_log.proofs.WithoutLaws.{without_other, without_self, rising_without, all_without}

pub is_tail : (o : Option ℕ) → is_some o ≡ true → o ≡ Some (unwrap_or o 0)
is_tail None some = absurd (cc some)
is_tail (Some t) some = refl

pub own_without : (log : LogState) (j : ℕ) → IsOwn log → log.opened ≢ Some j → IsOwn (record log { chunks = without log.chunks j })
own_without log j own closed = record {
  layout = own.layout;
  part = own.part;
  rising = rising_without 0 log.chunks j own.rising;
  each = all_without (IsChunkOf log.layout) log.chunks j own.each;
  opened = λ k at. ap is_some (without_other log.chunks j k (λ e. closed (at ∙ ap Some e))) ∙ own.opened k at;
}

no_entries : (l : Geometry) (image : ℕ → ℕ) (c k : ℕ) → image (chunk_first l c k) ≡ 0 → chunk_entries l image c k ≡ []
no_entries l image c k zero = let at = chunk_first l c k in ap (λ (n : ℕ). placed_in_chunk c k (scan_behind image at (head_by l n (image (at + 1)))).entries) zero

module _ (s t : State) (log : LogState) (j : ℕ) (stands : StandsIn s log) (has : is_some (tail_of log.chunks j) ≡ true) where
  tail_is : tail_of log.chunks j ≡ Some (tail_in log j)
  tail_is = is_tail (tail_of log.chunks j) has

  chunk_of : IsChunkOf log.layout (chunk_with j (tail_in log j))
  chunk_of = own_chunk log stands.own j (tail_in log j) tail_is

  pub retiring_lies : ChunkLies s.frame (first_of log j) (chunk_words log.layout) (tail_in log j)
  retiring_lies = chunk_lies s log j (tail_in log j) stands chunk_of

  module _ (turns : During s t (EachIn (first_of log j) (first_of log j + 2) (HeadTurns (cell_now s) (first_of log j) Free))) (outside : During s t (KeepsOutside (cell_now s) (first_of log j) (first_of log j + 8))) where
    pub free_or_log : During s t (EachInChunk log j (FreeOrLog (first_of log j) (tail_in log j) (words_now s (first_of log j) (tail_in log j))))
    free_or_log = weaken s t (λ m. EachIn (first_of log j) (first_of log j + 2) (HeadTurns (cell_now s) (first_of log j) Free) m × KeepsOutside (cell_now s) (first_of log j) (first_of log j + 8) m)
        (EachInChunk log j (FreeOrLog (first_of log j) (tail_in log j) (words_now s (first_of log j) (tail_in log j)))) implies
        (both s t (EachIn (first_of log j) (first_of log j + 2) (HeadTurns (cell_now s) (first_of log j) Free)) (KeepsOutside (cell_now s) (first_of log j) (first_of log j + 8)) turns outside)
      where
        implies : IsTelling s → (m : ℕ → Cell) → EachIn (first_of log j) (first_of log j + 2) (HeadTurns (cell_now s) (first_of log j) Free) m × KeepsOutside (cell_now s) (first_of log j) (first_of log j + 8) m
            → EachInChunk log j (FreeOrLog (first_of log j) (tail_in log j) (words_now s (first_of log j) (tail_in log j))) m
        implies telling m is image may =
            let at = first_of log j in
            let room = retiring_lies.tail_in in
            let was = stands.logs telling j (tail_in log j) tail_is in
            let words = is.0 image (λ w low high. may w low (omega (arith, high, room))) in
            ⊎_elim
            (λ old. inr (
              was.kind (image at) old,
              was.tail_is (image (at + 1)) words.1,
              words_same image (lasts s) (at + 32) (tail_in log j) (λ k lt. surely_kept (cell_now s (at + 32 + k)) (m (at + 32 + k)) (lasts s (at + 32 + k)) (was.words k lt) (is.1 (at + 32 + k) (inr (omega arith))) (image (at + 32 + k)) (may (at + 32 + k) (omega arith) (omega (arith, lt, room)))),
            ))
            (λ zero. inl zero) words.0

    pub same_or_none : During s t (EachInChunk log j (HasSameOrNone s log j))
    same_or_none = weaken s t (EachInChunk log j (FreeOrLog (first_of log j) (tail_in log j) (words_now s (first_of log j) (tail_in log j)))) (EachInChunk log j (HasSameOrNone s log j))
        (λ telling m each image may.
        let is = chunk_of in
        let ws = words_now s (first_of log j) (tail_in log j) in
        let now = log_reads s (first_of log j) (chunk_words log.layout) (tail_in log j) retiring_lies.tail_in (stands.logs telling j (tail_in log j) tail_is) (lasts s) (λ w low high. may_be_last (cell_now s w) (lasts s w) refl) in
        ⊎_elim (λ zero. inr (no_entries log.layout image log.part j zero))
        (λ same. inl (entries_read log.layout image log.part j (tail_in log j) ws is.whole is.fits same ∙ sym (entries_read log.layout (lasts s) log.part j (tail_in log j) ws is.whole is.fits now)))
        (each image may)) free_or_log

  module _ (closed : log.opened ≢ Some j) (outside : During s t (KeepsOutside (cell_now s) (first_of log j) (first_of log j + 8))) where
    told_before : IsTelling t → IsTelling s
    told_before telling = told_at_entry s t (KeepsOutside (cell_now s) (first_of log j) (first_of log j + 8)) outside telling

    kept_else : IsTelling t → (k u : ℕ) → k ≢ j → tail_of log.chunks k ≡ Some u → (w : ℕ) → first_of log k ≤ w → w < first_of log k + 32 + u → Kept (cell_now s w) (cell_now t w)
    kept_else telling k u ne is w low high =
        let fits = (tail_fits log.layout stands.own.layout (chunk_with k u) (own_chunk log stands.own k u is)).0 in
        let room = retiring_lies.tail_in in
        at_exit s t (KeepsOutside (cell_now s) (first_of log j) (first_of log j + 8)) outside telling w
        (⊎_elim (λ before. inl (omega (arith, before, fits, high))) (λ behind. inr (omega (arith, behind, low, room))) (chunks_apart log.layout log.part k j ne))

    -- the chunks that are left, each another one
    left : (k u : ℕ) → tail_of (without log.chunks j) k ≡ Some u → (k ≢ j) × (tail_of log.chunks k ≡ Some u)
    left k u is =
        let ne : k ≢ j = λ here. let none = sym is ∙ ap (tail_of (without log.chunks j)) here ∙ without_self log.chunks 0 j stands.own.rising in absurd (cc none) in
        (ne, sym (without_other log.chunks j k ne) ∙ is)

    pub retired_chunk : (log' : LogState) → log' ≡ record log { chunks = without log.chunks j } → (IsTelling t → Surely (cell_now t (first_of log j)) 0) → RetiredChunk t log log' j
    retired_chunk log' is sure = record {
      stands = subst (StandsIn t) (sym is) (record {
        own = own_without log j stands.own closed;
        low = subst (λ (f : Frame). f.first ≤ part_first log.layout log.part) (sym outside.frame) stands.low;
        high = subst (λ (f : Frame). part_first log.layout (log.part + 1) ≤ f.first + f.words) (sym outside.frame) stands.high;
        logs = λ telling k u at. let l = left k u at in log_kept (cell_now s) (cell_now t) (first_of log k) u (stands.logs (told_before telling) k u l.1) (kept_else telling k u l.0 l.1);
        spelled = λ telling k u at. let l = left k u at in subst Spelled (sym (words_kept s t (first_of log k) u (kept_else telling k u l.0 l.1))) (stands.spelled (told_before telling) k u l.1);
      });
      log_is = is;
      free = sure;
      none = λ telling image may. let room = retiring_lies.tail_in in no_entries log.layout image log.part j (sure telling (image (first_of log j)) (may (first_of log j) (omega arith) (omega (arith, room))));
    }
