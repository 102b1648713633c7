-- A chunk is opened for a log.
use Rattle.std.proofs.Common.{◌≡◌, inl, inr, ⊎_elim, ℕ, ◌+◌, ◌-◌, ◌/◌, ◌<◌, [], Option, Some, unwrap_or, Result, Ok, refl, sym, ◌∙◌, ap, subst, arith}
use Rattle.pm_region.specs.Cell.{Cell}
use Rattle.pm_region.specs.State.{State, IsTelling, cell_now, During}
use Rattle.pm_region.specs.Words.{KeepsOutside, Surely, EachIn}
use Rattle.pm_region.proofs.Clients.{weaken, wider}
use Rattle.chunk_map.specs.declared.layouts.Geometry.{Geometry}
use Rattle.chunk_map.specs.declared.heads.Head.{Head}
use Rattle.chunk_map.specs.declared.heads.Head.TheVariants.{Log}
use Rattle.chunk_map.specs.Layouts.{chunk_words, payload_lines, head_by, head_at, chunk_first}
use Rattle.chunk_map.specs.Setting.{HeadLies, HeadTurns, SurelyHead}
use Rattle.store_image.specs.Parts.{chunk_entries, scan_behind, placed_in_chunk}
use Rattle.core_log.specs.Chunk.{FreeOrEmpty, ChunkLies, IsLog}
use Rattle.core_log.specs.Log.{LogState, with_tail, first_of, room_of, StandsIn}
use Rattle.core_log.specs.Opening.{EachInChunk, HasNoEntries, OpenedChunk}
use Rattle.core_log.proofs.Append.{log_reads}
use Rattle.core_log.proofs.TailLaws.{tail_set}
use Rattle.core_log.proofs.BatchLaws.{head_of}
use Rattle.core_log.proofs.LogLaws.{chunk_lies, own_open, stands_set}

module _ (s t : State) (log : LogState) (j : ℕ) (stands : StandsIn s log) (lt : j < log.layout.chunks) where
  pub begins : ChunkLies s.frame (first_of log j) (chunk_words log.layout) 0
  begins = chunk_lies s log j 0 stands (record { within = lt; whole = refl; fits = omega arith })

  pub head_lies : HeadLies s.frame (first_of log j)
  head_lies = let is = begins in let low = is.low in let high = is.high in let tail = is.tail_in in record { low = low; high = omega (arith, high, tail); line = is.line }

  module _ (free : IsTelling s → Surely (cell_now s (first_of log j)) 0) (turns : During s t (EachIn (first_of log j) (first_of log j + 2) (HeadTurns (cell_now s) (first_of log j) (Log 0)))) where
    pub free_or_empty : During s t (EachInChunk log j (FreeOrEmpty (first_of log j)))
    free_or_empty = weaken s t (EachIn (first_of log j) (first_of log j + 2) (HeadTurns (cell_now s) (first_of log j) (Log 0))) (EachInChunk log j (FreeOrEmpty (first_of log j))) implies turns
      where
        implies : IsTelling s → (m : ℕ → Cell) → EachIn (first_of log j) (first_of log j + 2) (HeadTurns (cell_now s) (first_of log j) (Log 0)) m → EachInChunk log j (FreeOrEmpty (first_of log j)) m
        implies telling m each image may =
            let room = begins.tail_in in
            ⊎_elim (λ old. inl (free telling (image (first_of log j)) old.0)) (λ new. inr new) (each image (λ w low high. may w low (omega (arith, high, room))))

    none : (l : Geometry) (image : ℕ → ℕ) (c k : ℕ) → FreeOrEmpty (chunk_first l c k) image → chunk_entries l image c k ≡ []
    none l image c k is =
        let at = chunk_first l c k in
        ⊎_elim
        (λ zero. ap (λ (n : ℕ). placed_in_chunk c k (scan_behind image at (head_by l n (image (at + 1)))).entries) zero)
        (λ empty. let head : head_at l image at ≡ Ok (Log 0) = (λ i. head_by l (empty.0 i) (empty.1 i)) ∙ head_of l 0 refl (omega arith) in
        ap (λ (h : Result Head ℕ). placed_in_chunk c k (scan_behind image at h).entries) head) is

    pub no_entries : During s t (EachInChunk log j (HasNoEntries log j))
    no_entries = weaken s t (EachInChunk log j (FreeOrEmpty (first_of log j))) (EachInChunk log j (HasNoEntries log j)) (λ telling m each image may. none log.layout image log.part j (each image may)) free_or_empty

  pub now_log : (IsTelling t → SurelyHead (cell_now t) (first_of log j) (Log 0)) → IsTelling t → IsLog (cell_now t) (first_of log j) 0
  now_log sure telling = record { kind = (sure telling).0; tail_is = (sure telling).1; words = λ k none. absurd (omega arith) }

  pub opened_chunk : (log' : LogState) → log' ≡ record log { chunks = with_tail log.chunks j 0; opened = Some j }
      → During s t (KeepsOutside (cell_now s) (first_of log j) (first_of log j + 8)) → (IsTelling t → SurelyHead (cell_now t) (first_of log j) (Log 0)) → OpenedChunk t log log' j
  opened_chunk log' is outside sure =
      let room = begins.tail_in in
      let after = record log { chunks = with_tail log.chunks j 0; opened = Some j } in
      record {
        stands = subst (StandsIn t) (sym is)
            (stands_set s t log j 0 stands (wider s t (first_of log j) (first_of log j + 8) (first_of log j) (first_of log j + chunk_words log.layout) (omega arith) (omega (arith, room)) outside) (now_log sure)
            (λ telling. record { batches = []; spelled = record { words = refl; each = tt } }) (Some j) (own_open log j stands.own lt));
        log_is = is;
        room = ap room_of is ∙ ap (λ (o : Option ℕ). payload_lines log.layout - unwrap_or o 0 / 8) (tail_set log.chunks j 0) ∙ omega arith;
        has = λ telling. log_reads t (first_of log j) (chunk_words log.layout) 0 (omega (arith, room)) (now_log sure telling);
      }
