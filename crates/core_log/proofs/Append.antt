-- What images read while a batch is appended.
use Rattle.std.proofs.Common.{◌≡◌, inl, inr, ⊎_elim, ℕ, ◌+◌, ◌-◌, ◌*◌, ◌/◌, ◌≤◌, ◌<◌, List, ◌++◌, length, get_or, Result, Ok, Err, OnOk, refl, sym, ◌∙◌, ap, subst, arith}
use Rattle.std.proofs.lemmas.Bool.{cases_lt}
use Rattle.pm_region.specs.Cell.{Cell, certain}
use Rattle.pm_region.specs.State.{State, IsTelling, cell_now, During}
use Rattle.pm_region.specs.Words.{KeepsOutside, Surely, MayLeaveIn, EachIn, Sets, lasts, lines_for}
use Rattle.pm_region.specs.declared.region.RegionFault.{RegionFault}
use Rattle.pm_region.proofs.Clients.{weaken, then_on, at_exit, told_at_entry, may_be_last, surely_narrows, surely_kept, surely_certain, surely_last, surely_own}
use Rattle.log_entry.proofs.Clients.{words_same, words_append, words_list}
use Rattle.log_entry.specs.Words.{words_from}
use Rattle.core_log.specs.Chunk.{padded, words_now, HasLog, HasOrLacks, ChunkLies, IsLog, Appended}
use Rattle.core_log.proofs.Padded.{padded_at, length-padded}

pub on_ok : (r : Result (Unit {0}) RegionFault) (P Q : Type 0) → (P → Q) → OnOk r P → OnOk r Q
on_ok (Ok u) P Q implies holds = implies holds
on_ok (Err e) P Q implies holds = tt

-- the words of the chunk while its tail may turn
pub record Written (s0 : State) (at tail : ℕ) (full : List ℕ) (m : ℕ → Cell) : Type 0 where
  pub kind : Surely (m at) 1
  pub old : (k : ℕ) → k < tail → Surely (m (at + 32 + k)) (lasts s0 (at + 32 + k))
  pub added : (j : ℕ) → j < length full → Surely (m (at + 32 + tail + j)) (get_or full j 0)

-- an image whose tail is the old one has the old words
pub reads_old : (s0 : State) (at words tail : ℕ) (m : ℕ → Cell) (image : ℕ → ℕ) → tail + 32 ≤ words → Surely (m at) 1
    → ((k : ℕ) → k < tail → Surely (m (at + 32 + k)) (lasts s0 (at + 32 + k)))
    → MayLeaveIn m at (at + words) image → image (at + 1) ≡ tail → HasLog at tail (words_now s0 at tail) image
reads_old s0 at words tail m image fits kind old may is = (
  kind (image at) (may at (omega arith) (omega arith)),
  is,
  words_same image (lasts s0) (at + 32) tail (λ k lt. old k lt (image (at + 32 + k)) (may (at + 32 + k) (omega arith) (omega arith))),
)

pub reads_new : (s0 : State) (at words tail : ℕ) (full : List ℕ) (m : ℕ → Cell) (image : ℕ → ℕ) → tail + length full + 32 ≤ words → Written s0 at tail full m
    → MayLeaveIn m at (at + words) image → image (at + 1) ≡ tail + length full
    → HasLog at (tail + length full) (words_now s0 at tail ++ full) image
reads_new s0 at words tail full m image room is may tail_is =
    let base = at + 32 in (
      is.kind (image at) (may at (omega arith) (omega arith)),
      tail_is,
      words_append image base tail (length full)
          ∙ ap (λ (l : List ℕ). l ++ words_from image (base + tail) (length full))
          (words_same image (lasts s0) base tail (λ k lt. is.old k lt (image (base + k)) (may (base + k) (omega arith) (omega arith))))
          ∙ ap (λ (l : List ℕ). words_now s0 at tail ++ l) (words_list image (base + tail) full (λ j lt. is.added j lt (image (base + tail + j)) (may (base + tail + j) (omega arith) (omega arith)))),
    )

-- each image of a chunk that is a log reads its words
pub log_reads : (s : State) (at words tail : ℕ) → tail + 32 ≤ words → IsLog (cell_now s) at tail
    → EachIn at (at + words) (HasLog at tail (words_now s at tail)) (cell_now s)
log_reads s at words tail fits is image may =
    reads_old s at words tail (cell_now s) image fits is.kind is.words may (is.tail_is (image (at + 1)) (may (at + 1) (omega arith) (omega arith)))

module _ (s0 s1 : State) (at words tail : ℕ) (batch : List ℕ) (lies : ChunkLies s0.frame at words tail) (log : IsTelling s0 → IsLog (cell_now s0) at tail)
    (room : tail + 8 * lines_for (length batch) + 32 ≤ words)
    (run : During s0 s1 (KeepsOutside (cell_now s0) (8 * (at / 8 + 4 + tail / 8)) (8 * (at / 8 + 4 + tail / 8 + lines_for (length batch))))) where
  starts : (8 * (at / 8 + 4 + tail / 8) ≡ at + 32 + tail) × (8 * (at / 8 + 4 + tail / 8 + lines_for (length batch)) ≡ at + 32 + tail + length (padded batch))
  starts = let whole = lies.tail_whole in let line = lies.line in let long = length-padded batch in (omega arith, omega arith)

  fits : tail + length (padded batch) + 32 ≤ words
  fits = let long = length-padded batch in omega arith

  -- while the words are written
  pub lacks : During s0 s1 (EachIn at (at + words) (HasOrLacks at tail (words_now s0 at tail) (padded batch)))
  lacks = weaken s0 s1 (KeepsOutside (cell_now s0) (8 * (at / 8 + 4 + tail / 8)) (8 * (at / 8 + 4 + tail / 8 + lines_for (length batch)))) (EachIn at (at + words) (HasOrLacks at tail (words_now s0 at tail) (padded batch))) implies run
    where
      implies : IsTelling s0 → (m : ℕ → Cell) → KeepsOutside (cell_now s0) (8 * (at / 8 + 4 + tail / 8)) (8 * (at / 8 + 4 + tail / 8 + lines_for (length batch))) m → EachIn at (at + words) (HasOrLacks at tail (words_now s0 at tail) (padded batch)) m
      implies telling m kept image may =
          let is = log telling in
          let low = starts.0 in
          inl (reads_old s0 at words tail m image (omega arith)
          (surely_kept (cell_now s0 at) (m at) 1 is.kind (kept at (inl (omega arith))))
          (λ k lt. surely_kept (cell_now s0 (at + 32 + k)) (m (at + 32 + k)) (lasts s0 (at + 32 + k)) (is.words k lt) (kept (at + 32 + k) (inl (omega arith)))) may
          (surely_kept (cell_now s0 (at + 1)) (m (at + 1)) tail is.tail_is (kept (at + 1) (inl (omega arith))) (image (at + 1)) (may (at + 1) (omega arith) (omega arith))))

  -- the tail is certain before it turns
  tail_before : IsTelling s1 → Surely (cell_now s1 (at + 1)) tail
  tail_before telling =
      let low = starts.0 in
      let t0 = told_at_entry s0 s1 (KeepsOutside (cell_now s0) (8 * (at / 8 + 4 + tail / 8)) (8 * (at / 8 + 4 + tail / 8 + lines_for (length batch)))) run telling in
      let kept = at_exit s0 s1 (KeepsOutside (cell_now s0) (8 * (at / 8 + 4 + tail / 8)) (8 * (at / 8 + 4 + tail / 8 + lines_for (length batch)))) run telling in
      let is = log t0 in
      surely_kept (cell_now s0 (at + 1)) (cell_now s1 (at + 1)) tail is.tail_is (kept (at + 1) (inl (omega arith)))

  module _ (ok : IsTelling s1 → (j : ℕ) → j < 8 * lines_for (length batch) → cell_now s1 (8 * (at / 8 + 4 + tail / 8) + j) ≡ certain (get_or batch j 0)) (s2 : State)
      (next : During s1 s2 (Sets (cell_now s1) ((at + 1) / 8) (at + 1) (tail + 8 * lines_for (length batch)))) where
    written : IsTelling s1 → (m : ℕ → Cell) → Sets (cell_now s1) ((at + 1) / 8) (at + 1) (tail + 8 * lines_for (length batch)) m → Written s0 at tail (padded batch) m
    written telling m sets =
        let low = starts.0 in
        let high = starts.1 in
        let line = lies.line in
        let long = length-padded batch in
        let t0 = told_at_entry s0 s1 (KeepsOutside (cell_now s0) (8 * (at / 8 + 4 + tail / 8)) (8 * (at / 8 + 4 + tail / 8 + lines_for (length batch)))) run telling in
        let kept = at_exit s0 s1 (KeepsOutside (cell_now s0) (8 * (at / 8 + 4 + tail / 8)) (8 * (at / 8 + 4 + tail / 8 + lines_for (length batch)))) run telling in
        let is = log t0 in
        record {
          kind = surely_narrows (cell_now s1 at) (m at) 1 (surely_kept (cell_now s0 at) (cell_now s1 at) 1 is.kind (kept at (inl (omega arith)))) (sets.beside at (λ same. omega arith));
          old = λ k lt. let w = at + 32 + k in
              surely_narrows (cell_now s1 w) (m w) (lasts s0 w) (surely_kept (cell_now s0 w) (cell_now s1 w) (lasts s0 w) (is.words k lt) (kept w (inl (omega arith)))) (sets.beside w (λ same. omega arith));
          added = λ j lt. let w = at + 32 + tail + j in
              let e : w ≡ 8 * (at / 8 + 4 + tail / 8) + j = omega arith in
              surely_narrows (cell_now s1 w) (m w) (get_or (padded batch) j 0)
              (surely_certain (cell_now s1 w) (get_or (padded batch) j 0) (ap (λ (x : ℕ). cell_now s1 x) e ∙ ok telling j (omega arith) ∙ ap certain (sym (padded_at batch j)))) (sets.beside w (λ same. omega arith));
        }

    pub has_or_lacks : During s0 s2 (EachIn at (at + words) (HasOrLacks at tail (words_now s0 at tail) (padded batch)))
    has_or_lacks = then_on s0 s1 s2 (EachIn at (at + words) (HasOrLacks at tail (words_now s0 at tail) (padded batch))) lacks
        (weaken s1 s2 (Sets (cell_now s1) ((at + 1) / 8) (at + 1) (tail + 8 * lines_for (length batch))) (EachIn at (at + words) (HasOrLacks at tail (words_now s0 at tail) (padded batch))) implies next)
      where
        implies : IsTelling s1 → (m : ℕ → Cell) → Sets (cell_now s1) ((at + 1) / 8) (at + 1) (tail + 8 * lines_for (length batch)) m → EachIn at (at + words) (HasOrLacks at tail (words_now s0 at tail) (padded batch)) m
        implies telling m sets image may =
            let is = written telling m sets in
            let long = length-padded batch in
            ⊎_elim (λ e. inl (reads_old s0 at words tail m image (omega arith) is.kind is.old may (tail_before telling (image (at + 1)) e)))
            (λ e. inr (reads_new s0 at words tail (padded batch) m image fits is may (omega arith)))
            (sets.either (image (at + 1)) (may (at + 1) (omega arith) (omega arith)))

    pub appended : (IsTelling s2 → cell_now s2 (at + 1) ≡ certain (tail + 8 * lines_for (length batch))) → IsTelling s2 → Appended s0 s2 at tail (padded batch)
    appended turned telling =
        let long = length-padded batch in
        let t1 = told_at_entry s1 s2 (Sets (cell_now s1) ((at + 1) / 8) (at + 1) (tail + 8 * lines_for (length batch))) next telling in
        let sets = at_exit s1 s2 (Sets (cell_now s1) ((at + 1) / 8) (at + 1) (tail + 8 * lines_for (length batch))) next telling in
        let is = written t1 (cell_now s2) sets in
        let new_tail : tail + 8 * lines_for (length batch) ≡ tail + length (padded batch) = omega arith in
        let tail_is = surely_certain (cell_now s2 (at + 1)) (tail + length (padded batch)) (turned telling ∙ ap certain new_tail) in
        record {
          is_log = record {
            kind = is.kind;
            tail_is = tail_is;
            words = λ k lt. ⊎_elim
                (λ below. surely_own (cell_now s2 (at + 32 + k)) (lasts s0 (at + 32 + k)) (is.old k below))
                (λ above.
                let j = k - tail in
                let e : at + 32 + tail + j ≡ at + 32 + k = omega arith in
                surely_own (cell_now s2 (at + 32 + k)) (get_or (padded batch) j 0) (subst (λ (w : ℕ). Surely (cell_now s2 w) (get_or (padded batch) j 0)) e (is.added j (omega arith))))
                (cases_lt k tail);
          };
          words_are = (reads_new s0 at words tail (padded batch) (cell_now s2) (lasts s2) fits is (λ w low high. may_be_last (cell_now s2 w) (lasts s2 w) refl) (surely_last (cell_now s2 (at + 1)) (tail + length (padded batch)) tail_is)).2;
        }
