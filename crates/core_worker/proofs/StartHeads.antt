-- What the heads of a part say at the start, and that each image of the part is licensed by the opened view.
use Rattle.std.proofs.Common.{◌≡◌, inl, inr, ℕ, ◌+◌, ◌*◌, ◌/◌, ◌%◌, ◌<◌, ◌==◌, ◌&&◌, nat_le, nat_lt, Bool, true, false, cond, Option, Some, None, Result, Ok, Err, refl, sym, ◌∙◌, ap, subst, arith}
use Rattle.std.specs.Prelude.{is_some}
use Rattle.std.proofs.lemmas.Bool.{eqb-true, and_parts, lt-ltb}
use Rattle.pm_region.specs.State.{State, IsTelling, cell_now}
use Rattle.pm_region.specs.Words.{Surely}
use Rattle.chunk_map.specs.declared.layouts.Geometry.{Geometry}
use Rattle.chunk_map.specs.declared.heads.Head.{Head}
use Rattle.chunk_map.specs.declared.heads.Head.TheVariants.{Free, Log, Data}
use Rattle.chunk_map.specs.Layouts.{chunk_first, head_at, head_by, payload_words, is_class}
use Rattle.chunk_map.proofs.Clients.{chunk_in_part}
use Rattle.store_image.specs.Parts.{head_reads, scan_at}
use Rattle.store_image.proofs.Clients.{layout_numbers}
use Rattle.core_log.specs.Log.{tail_of, first_of}
use Rattle.lazy_alloc.specs.Heads.{is_free, class_in}
use Rattle.lazy_alloc.specs.Sets.{chunk_is_free, chunk_class, chunk_is_due}
use Rattle.recover.specs.declared.types.CoreStart.{CoreStart}
use Rattle.recover.specs.Logs.{tail_behind}
use Rattle.group_laws.specs.Places.{Place, core_of}
use Rattle.group_laws.proofs.Clients.{core_low, licensed_words, licensed as opens_licensed}
use Rattle.licence.specs.Licence.{Licensed}
use Rattle.core_worker.specs.OwnChunks.{HasChunk, AreChunks}
use Rattle.core_worker.specs.Openings.{IsStartAt, IsCertainAt, opened_view}

-- A head tells its kind word.

free_kind : (l : Geometry) (kind tail : ℕ) → is_free (head_by l kind tail) ≡ true → (kind ≡ 0) × (head_by l kind tail ≡ Ok Free)
free_kind l kind tail h = by (kind == 0) refl where
  none : (b : Bool) → is_free (cond b (cond (tail % 8 == 0 && nat_le tail (payload_words l)) (Ok (Log tail)) (Err 5)) (cond (kind % 256 == 2 && is_class l (kind / 256)) (Ok (Data (kind / 256))) (Err 4))) ≡ false
  none true = at (tail % 8 == 0 && nat_le tail (payload_words l)) where
    at : (b : Bool) → is_free (cond b (Ok (Log tail)) (Err 5)) ≡ false
    at true = refl
    at false = refl
  none false = at (kind % 256 == 2 && is_class l (kind / 256)) where
    at : (b : Bool) → is_free (cond b (Ok (Data (kind / 256))) (Err 4)) ≡ false
    at true = refl
    at false = refl

  by : (b : Bool) → (kind == 0) ≡ b → (kind ≡ 0) × (head_by l kind tail ≡ Ok Free)
  by true e = (eqb-true kind 0 e, ap (λ b. cond b (Ok Free) (cond (kind == 1) (cond (tail % 8 == 0 && nat_le tail (payload_words l)) (Ok (Log tail)) (Err 5)) (cond (kind % 256 == 2 && is_class l (kind / 256)) (Ok (Data (kind / 256))) (Err 4)))) e)
  by false e = absurd (let bad : true ≡ false = sym h ∙ ap (λ b. is_free (cond b (Ok Free) (cond (kind == 1) (cond (tail % 8 == 0 && nat_le tail (payload_words l)) (Ok (Log tail)) (Err 5)) (cond (kind % 256 == 2 && is_class l (kind / 256)) (Ok (Data (kind / 256))) (Err 4))))) e ∙ none (kind == 1) in cc bad)

data_of : (r : Result Head ℕ) (class : ℕ) → class_in r ≡ Some class → r ≡ Ok (Data class)
data_of (Ok Free) class e = absurd (cc e)
data_of (Ok (Log t)) class e = absurd (cc e)
data_of (Ok (Data c)) class e = ap (λ x. Ok (Data x)) (let same : c ≡ class = cc e in same)
data_of (Err r) class e = absurd (cc e)

data_kind : (l : Geometry) (kind tail class : ℕ) → head_by l kind tail ≡ Ok (Data class) → kind ≡ 2 + 256 * class
data_kind l kind tail class h = zero_or (kind == 0) h where
  last : (b : Bool) → (kind % 256 == 2 && is_class l (kind / 256)) ≡ b → cond {A = Result Head ℕ} b (Ok (Data (kind / 256))) (Err 4) ≡ Ok (Data class) → kind ≡ 2 + 256 * class
  last true e h =
      let two = eqb-true (kind % 256) 2 (and_parts (kind % 256 == 2) (is_class l (kind / 256)) e).0 in
      let same : kind / 256 ≡ class = cc h in
      omega (arith, two, same)
  last false e h = absurd (cc h)

  logs : (b : Bool) → cond {A = Result Head ℕ} b (Ok (Log tail)) (Err 5) ≡ Ok (Data class) → ⊥
  logs true h = cc h
  logs false h = cc h

  one_or : (b : Bool) → cond {A = Result Head ℕ} b (cond (tail % 8 == 0 && nat_le tail (payload_words l)) (Ok (Log tail)) (Err 5)) (cond (kind % 256 == 2 && is_class l (kind / 256)) (Ok (Data (kind / 256))) (Err 4)) ≡ Ok (Data class) → kind ≡ 2 + 256 * class
  one_or true h = absurd (logs (tail % 8 == 0 && nat_le tail (payload_words l)) h)
  one_or false h = last (kind % 256 == 2 && is_class l (kind / 256)) refl h

  zero_or : (b : Bool) → cond {A = Result Head ℕ} b (Ok Free) (cond (kind == 1) (cond (tail % 8 == 0 && nat_le tail (payload_words l)) (Ok (Log tail)) (Err 5)) (cond (kind % 256 == 2 && is_class l (kind / 256)) (Ok (Data (kind / 256))) (Err 4))) ≡ Ok (Data class) → kind ≡ 2 + 256 * class
  zero_or true h = absurd (cc h)
  zero_or false h = one_or (kind == 1) h

-- where a chunk is no log, the log does not have it
no_tail : (b : Bool) (o : Option ℕ) → o ≡ None → cond b o None ≡ None
no_tail true o e = e
no_tail false o e = refl

module _ (p : Place) (m : ℕ) (image : ℕ → ℕ) (start : CoreStart) (at : IsStartAt p m image start) where
  abbrev l : Geometry
  l = p.layout

  abbrev c : ℕ
  c = core_of p m

  no_log : (j : ℕ) → tail_behind (head_at l image (chunk_first l c j)) ≡ None → tail_of start.log.chunks j ≡ None
  no_log j none = at.found.logs j ∙ no_tail (nat_lt j l.chunks) (tail_behind (head_at l image (chunk_first l c j))) none

  below_chunks : (j : ℕ) → j < start.allocator.layout.chunks → j < l.chunks
  below_chunks j lt = subst (λ (g : Geometry). j < g.chunks) at.made.allocator_layout lt

  pub never_due : (j : ℕ) → chunk_is_due start.allocator j ≡ true → ⊥
  never_due j due = let bad : true ≡ false = sym due ∙ at.found.allocator.due j in cc bad

  -- each head is one, and so each chunk is free, Data or the log's
  pub chunks_now : AreChunks l.chunks start.allocator start.log.chunks
  chunks_now j low = by (head_at l image (chunk_first l c j)) refl where
    by : (h : Result Head ℕ) → head_at l image (chunk_first l c j) ≡ h → HasChunk start.allocator start.log.chunks j
    by (Ok Free) e = inl (inl (at.found.allocator.free j low ∙ ap is_free e), no_log j (ap tail_behind e))
    by (Ok (Log tail)) e = inr (
      (at.found.allocator.free j low ∙ ap is_free e, at.found.allocator.class j low ∙ ap class_in e),
      ap is_some (at.found.logs j ∙ ap (λ b. cond b (tail_behind (head_at l image (chunk_first l c j))) None) (lt-ltb j l.chunks low) ∙ ap tail_behind e),
    )
    by (Ok (Data class)) e = inl (inr (ap is_some (at.found.allocator.class j low ∙ ap class_in e)), no_log j (ap tail_behind e))
    by (Err rule) e = absurd (let reads = at.rules.reads c j (core_low p at.place m at.member) low in let both : false ≡ true = sym (ap (λ h. head_reads h (scan_at l image (chunk_first l c j))) e) ∙ reads in cc both)

  module _ (s : State) (here : IsCertainAt s p m image start) where
    sure_at : IsTelling s → (j k : ℕ) → j < l.chunks → image (chunk_first l c j) ≡ k → Surely (cell_now s (first_of start.log j)) k
    sure_at telling j k lt is =
        let own : first_of start.log j ≡ chunk_first l c j = λ i. chunk_first (at.made.layout_is i) (at.made.part_is i) j in
        let area = chunk_in_part l c j lt in
        let size = (layout_numbers l at.place.layout).size in
        let low = area.0 in
        let high = area.1 in
        subst (λ w. Surely (cell_now s w) k) (sym own)
        (subst (λ x. Surely (cell_now s (chunk_first l c j)) x) is (here.words telling (chunk_first l c j) low (omega (arith, high, size))))

    pub free_now : (j : ℕ) → chunk_is_free start.allocator j ≡ true → IsTelling s → (tail_of start.log.chunks j ≡ None) × Surely (cell_now s (first_of start.log j)) 0
    free_now j free telling =
        let lt = below_chunks j (at.made.sets.free_in j free).0 in
        let kind = free_kind l (image (chunk_first l c j)) (image (chunk_first l c j + 1)) (sym (at.found.allocator.free j lt) ∙ free) in
        (no_log j (ap tail_behind kind.1), sure_at telling j 0 lt kind.0)

    pub cut_now : (j k : ℕ) → chunk_class start.allocator j ≡ Some k → IsTelling s → (tail_of start.log.chunks j ≡ None) × Surely (cell_now s (first_of start.log j)) (2 + 256 * k)
    cut_now j k class telling =
        let lt = below_chunks j (at.made.sets.cut_in j k class).0 in
        let head = data_of (head_at l image (chunk_first l c j)) k (sym (at.found.allocator.class j lt) ∙ class) in
        (no_log j (ap tail_behind head), sure_at telling j (2 + 256 * k) lt (data_kind l (image (chunk_first l c j)) (image (chunk_first l c j + 1)) k head))

    -- nothing is in flight, and each image has the words that recovery read
    pub licensed_now : IsTelling s → Licensed p m (opened_view p m image) (cell_now s)
    licensed_now telling other may =
        licensed_words p m (opened_view p m image) other image at.place
        (λ w low high. here.words telling w low high (other w) (may w low high))
        (opens_licensed p image at.place at.rules m at.member)
