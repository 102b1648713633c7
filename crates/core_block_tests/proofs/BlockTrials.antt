-- What callers of an allocator start from, in the tests of blocks.
use Rattle.std.proofs.Common.{◌≡◌, ⊎_elim, ℕ, ◌+◌, ◌*◌, ◌<◌, Bool, true, List, length, Option, Some, None, refl, sym, ◌∙◌, ap, subst, arith}
use Rattle.std.proofs.lemmas.Bool.{both_ways, or_left, eq-eqb}
use Rattle.std.proofs.lemmas.Nat.{pow_pos}
use Rattle.store_image.specs.Parts.{chunk_units}
use Rattle.pm_region.specs.Cell.{certain}
use Rattle.pm_region.specs.State.{State, Frame, IsTelling, InRange, cell_now}
use Rattle.pm_region.specs.Words.{lasts}
use Rattle.pm_region.proofs.Clients.{may_be_last, surely_certain}
use Rattle.chunk_map.specs.declared.layouts.Geometry.{Geometry}
use Rattle.chunk_map.specs.Layouts.{IsLayout, has_class, part_first}
use Rattle.lazy_alloc.specs.Sets.{Sets, AreSets, class_at, chunk_class, chunk_of, chunk_is_due, block_is_used, Takes, Cuts}
use Rattle.lazy_alloc.specs.Written.{PartLies, head_of, HasHead, WroteValue}
use Rattle.lazy_alloc.proofs.Clients.{placed_in}
use Rattle.lazy_alloc.proofs.Clients.{SamePart, class_same, free_block, lies_at}
use Rattle.lazy_alloc.proofs.Clients.{lie}

-- the allocator's part lies there still, where layout and part are the same
pub part_still : (f f' : Frame) (a a' : Sets) → f' ≡ f → a'.layout ≡ a.layout → a'.part ≡ a.part → PartLies f a → PartLies f' a'
part_still f f' a a' frame layout part lies =
    let first = ap (λ (x : Frame). x.first) frame in
    let words = ap (λ (x : Frame). x.words) frame in
    let from : part_first a'.layout a'.part ≡ part_first a.layout a.part = (λ i. part_first (layout i) (part i)) in
    let end : part_first a'.layout (a'.part + 1) ≡ part_first a.layout (a.part + 1) = (λ i. part_first (layout i) (part i + 1)) in
    let low = lies.low in
    let high = lies.high in
    let fits = lies.fits in
    record { low = omega arith; high = omega arith; fits = omega arith }

-- What a take gives where no chunk is cut is the first block of a chunk that is due.
pub first_taken : (old new : Sets) (k p : ℕ) → AreSets old → ((j : ℕ) → chunk_class old j ≡ None) → Takes old new k true (Some p) → (j : ℕ) × Cuts old new k j p
first_taken old new k p are uncut takes = ⊎_elim
    (λ block. absurd (let lies = lies_at old p k are (free_block old k p block.was_free).0 in let two : None ≡ Some k = sym (uncut (chunk_of old p)) ∙ lies.class_is in cc two))
    (λ cuts. (cuts.1, cuts.2)) takes

-- It may be written where the region's words are zero.
module _ (old new : Sets) (k j p : ℕ) (are : AreSets old) (are' : AreSets new) (cuts : Cuts old new k j p) where
  pub taken_used : block_is_used new p ≡ true
  taken_used = cuts.used p ∙ or_left _ (block_is_used old p) (eq-eqb p p refl)

  pub taken_class : (class : ℕ) → class_at new p ≡ Some class → (chunk_of new p ≡ j) × (k ≡ class)
  taken_class class at =
      let lies = lies_at new p class are' at in
      let free = are.free_in j cuts.was_free in
      let lt : j < new.layout.chunks = subst (λ (l : Geometry). j < l.chunks) (sym cuts.layout_is) free.0 in
      let first : p ≡ 16 + (new.part * new.layout.chunks + j) * chunk_units new.layout + 1 = cuts.first ∙ (λ i. 16 + (sym cuts.part_is i * (sym cuts.layout_is i).chunks + j) * chunk_units (sym cuts.layout_is i) + 1) in
      let size = lies.last in
      let low = lies.first in
      let some = pow_pos class in
      let here : chunk_of new p ≡ j = placed_in new.layout new.part j 1 p lt (omega (arith, size, low, some)) (omega (arith, first)) in
      let two : Some k ≡ Some class = sym cuts.cut ∙ ap (chunk_class new) (sym here) ∙ lies.class_is in
      (here, cc two)

  pub may_write : (s : State) (n : ℕ) → IsLayout new.layout → has_class n k ≡ true → PartLies s.frame new → (IsTelling s → (w : ℕ) → InRange s.frame w → cell_now s w ≡ certain 0)
      → (class : ℕ) → class_at new p ≡ Some class → (has_class n class ≡ true) × HasHead s new p class
  may_write s n rules room lies zero class at =
      let own = taken_class class at in
      let due : chunk_is_due new (chunk_of new p) ≡ true = ap (chunk_is_due new) own.0 ∙ cuts.due j ∙ or_left _ (chunk_is_due old j) (eq-eqb j j refl) in
      let is = lie new p class rules are' at in
      let low = lies.low in
      let high = lies.high in
      let above = is.low in
      let end = is.high in
      let first = is.first in
      let last = is.last in (
        ap (has_class n) (sym own.1) ∙ room,
        record {
          due = λ _ telling. surely_certain (cell_now s (head_of new p)) 0 (zero telling (head_of new p) (record { low = omega arith; high = omega arith }));
          written = λ off. absurd (both_ways (chunk_is_due new (chunk_of new p)) off due);
        },
      )

-- What was written may be read.
pub may_read : (s : State) (a a' : Sets) (p class : ℕ) (value : List ℕ) → class_at a p ≡ Some class → has_class (length value) class ≡ true → WroteValue s a a' p class value → IsTelling s
    → (class : ℕ) × (class_at a' p ≡ Some class) × (has_class (lasts s (32 * p)) class ≡ true)
may_read s a a' p class value at room wrote telling =
    let holds = wrote.holds telling (lasts s) (λ w low high. may_be_last (cell_now s w) (lasts s w) refl) in
    (class, class_same a a' (record { layout_is = wrote.layout_is; part_is = wrote.part_is }) wrote.classes p ∙ at, ap (λ (n : ℕ). has_class n class) holds.0 ∙ room)

-- layout and part stay
pub takes_same : (old new : Sets) (class : ℕ) (may_cut : Bool) (result : Option ℕ) → Takes old new class may_cut result → SamePart old new
takes_same old new class may_cut None takes = record { layout_is = ap (λ (a : Sets). a.layout) takes.2; part_is = ap (λ (a : Sets). a.part) takes.2 }
takes_same old new class may_cut (Some p) takes = ⊎_elim
    (λ block. record { layout_is = block.chunks.layout_is; part_is = block.chunks.part_is })
    (λ cuts. record { layout_is = cuts.2.layout_is; part_is = cuts.2.part_is }) takes
