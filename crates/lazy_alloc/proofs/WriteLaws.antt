-- What a region holds while a value is written.
use Rattle.std.proofs.Common.{◌≡◌, ◌⊎◌, inl, inr, ⊎_elim, ℕ, ◌+◌, ◌*◌, ◌%◌, ◌^◌, ◌≤◌, ◌<◌, true, false, List, length, get_or, Some, Result, Ok, Err, OnOk, refl, ◌∙◌, ap, arith}
use Rattle.std.proofs.lemmas.Bool.{both_ways}
use Rattle.pm_region.specs.Cell.{Cell, certain}
use Rattle.pm_region.specs.State.{State, Frame, During, IsTelling, cell_now}
use Rattle.pm_region.specs.Words.{EachIn, Kept, KeepsOutside, Surely}
use Rattle.pm_region.specs.declared.region.RegionFault.{RegionFault}
use Rattle.pm_region.proofs.Clients.{started, then_on, weaken, at_exit, told_at_entry, kept_then, surely_kept, surely_certain}
use Rattle.chunk_map.specs.declared.heads.Head.TheVariants.{Free, Data}
use Rattle.chunk_map.specs.Layouts.{IsLayout, chunk_words, part_first, head_by, is_class, has_class}
use Rattle.chunk_map.specs.Setting.{HeadLies, HasEitherHead, HasHead as ReadsHead}
use Rattle.chunk_map.proofs.Clients.{numbers_of, chunk_in_part, chunk_first_whole, chunk_words_whole, data_read}
use Rattle.log_entry.specs.Words.{words_for}
use Rattle.log_entry.proofs.Clients.{AreBytes}
use Rattle.store_image.specs.Parts.{chunk_units}
use Rattle.store_image.proofs.Clients.{class_room}
use Rattle.lazy_alloc.specs.Sets.{Sets, AreSets, class_at, chunk_of, chunk_is_due}
use Rattle.lazy_alloc.specs.Steps.{WritesHead}
use Rattle.lazy_alloc.specs.Written.{PartLies, head_of, HasHead, HeadTurnsTo, KeepsOthers, block_words, block_lines, WroteValue}
use Rattle.lazy_alloc.proofs.SetLaws.{lies_at}
use Rattle.lazy_alloc.proofs.ValueLaws.{holds_value}

-- where a block and the head of its chunk lie
pub record Lie (a : Sets) (p c : ℕ) : Type 0 where
  pub low : head_of a p + 32 ≤ 32 * p
  pub high : 32 * p + 32 * 2 ^ c ≤ head_of a p + chunk_words a.layout
  pub first : part_first a.layout a.part ≤ head_of a p
  pub last : head_of a p + chunk_words a.layout ≤ part_first a.layout (a.part + 1)
  pub line : head_of a p % 8 ≡ 0
  pub fits : is_class a.layout c ≡ true

pub lie : (a : Sets) (p c : ℕ) → IsLayout a.layout → AreSets a → class_at a p ≡ Some c → Lie a p c
lie a p c rules are at =
    let lies = lies_at a p c are at in
    let l = a.layout in
    let n = numbers_of l rules in
    let q = a.part * l.chunks + chunk_of a p in
    let words : chunk_words l ≡ 32 * chunk_units l = omega (arith, n.size.2) in
    let start : q * chunk_words l ≡ 32 * (q * chunk_units l) = ap (λ (x : ℕ). q * x) words ∙ omega arith in
    let place = lies.place in
    let first = lies.first in
    let end = lies.last in
    let part = chunk_in_part l a.part (chunk_of a p) lies.within in
    let whole = chunk_first_whole l a.part (chunk_of a p) n.size in
    record {
      low = omega (arith, start, place, first);
      high = omega (arith, start, place, end, words);
      first = part.0;
      last = part.1;
      line = omega (arith, whole);
      fits = (are.cut_in (chunk_of a p) c lies.class_is).1;
    }

pub head_lies : (f : Frame) (a : Sets) (p c : ℕ) → Lie a p c → IsLayout a.layout → PartLies f a → HeadLies f (head_of a p)
head_lies f a p c is rules lies =
    let size = (chunk_words_whole a.layout (numbers_of a.layout rules).size).2 in
    let low = lies.low in
    let high = lies.high in
    let first = is.first in
    let last = is.last in
    record { low = omega (arith, low, first); high = omega (arith, high, last, size); line = is.line }

-- an image whose head is certainly that of the class reads it
reads_data : (a : Sets) (p c : ℕ) → is_class a.layout c ≡ true → (m : ℕ → Cell) → Surely (m (head_of a p)) (2 + 256 * c) → EachIn (head_of a p) (head_of a p + 2) (HeadTurnsTo a p c) m
reads_data a p c fits m sure image may =
    inl (ap (λ (k : ℕ). head_by a.layout k (image (head_of a p + 1))) (sure (image (head_of a p)) (may (head_of a p) (omega arith) (omega arith))) ∙ data_read a.layout c (image (head_of a p + 1)) fits)

-- the head is written, where it is due
module _ (a : Sets) (p c : ℕ) (s t : State) (is : Lie a p c) (due : chunk_is_due a (chunk_of a p) ≡ true) (has : HasHead s a p c) where
  pub due_outside : During s t (KeepsOutside (cell_now s) (head_of a p) (head_of a p + 8)) → During s t (KeepsOthers a p c (cell_now s))
  due_outside run = weaken s t (KeepsOutside (cell_now s) (head_of a p) (head_of a p + 8)) (KeepsOthers a p c (cell_now s))
      (λ telling m kept. record { outside = λ w out head. kept w head; head = λ written. absurd (both_ways (chunk_is_due a (chunk_of a p)) written due) }) run

  pub was_free : IsTelling s → EachIn (head_of a p) (head_of a p + 2) (ReadsHead a.layout (head_of a p) (Ok Free)) (cell_now s)
  was_free telling image may = ap (λ (k : ℕ). head_by a.layout k (image (head_of a p + 1))) (has.due due telling (image (head_of a p)) (may (head_of a p) (omega arith) (omega arith)))

  pub due_head : During s t (EachIn (head_of a p) (head_of a p + 2) (HasEitherHead a.layout (head_of a p) (Ok Free) (Data c))) → During s t (EachIn (head_of a p) (head_of a p + 2) (HeadTurnsTo a p c))
  due_head run = weaken s t (EachIn (head_of a p) (head_of a p + 2) (HasEitherHead a.layout (head_of a p) (Ok Free) (Data c))) (EachIn (head_of a p) (head_of a p + 2) (HeadTurnsTo a p c))
      (λ telling m each image may. ⊎_elim (λ free. inr (due, free)) (λ now. inl now) (each image may)) run

-- it is written already
module _ (a : Sets) (p c : ℕ) (s : State) (is : Lie a p c) (written : chunk_is_due a (chunk_of a p) ≡ false) (has : HasHead s a p c) where
  pub written_outside : During s s (KeepsOthers a p c (cell_now s))
  written_outside = started s (KeepsOthers a p c (cell_now s)) (λ telling. record { outside = λ w out head. inl refl; head = λ _ w out. inl refl })

  pub written_head : During s s (EachIn (head_of a p) (head_of a p + 2) (HeadTurnsTo a p c))
  written_head = started s (EachIn (head_of a p) (head_of a p + 2) (HeadTurnsTo a p c)) (λ telling. reads_data a p c is.fits (cell_now s) (has.written written telling))

-- the value is written behind
module _ (a : Sets) (p c : ℕ) (value : List ℕ) (s0 s1 s2 : State) (is : Lie a p c) (room : has_class (length value) c ≡ true)
    (outside : During s0 s1 (KeepsOthers a p c (cell_now s0))) (run : During s1 s2 (KeepsOutside (cell_now s1) (8 * (4 * p)) (8 * (4 * p + block_lines value)))) where
  within : 8 * (4 * p + block_lines value) ≤ 32 * p + 32 * 2 ^ c
  within = let r = class_room (length value) c room in omega (arith, r)

  keeps : (w : ℕ) → (w < 32 * p) ⊎ (32 * p + 32 * 2 ^ c ≤ w) → (m : ℕ → Cell) → KeepsOutside (cell_now s1) (8 * (4 * p)) (8 * (4 * p + block_lines value)) m → Kept (cell_now s1 w) (m w)
  keeps w out m kept = kept w (⊎_elim (λ lt. inl (omega arith)) (λ ge. inr (let le = within in omega arith)) out)

  pub value_outside : During s0 s2 (KeepsOthers a p c (cell_now s0))
  value_outside = then_on s0 s1 s2 (KeepsOthers a p c (cell_now s0)) outside (weaken s1 s2 (KeepsOutside (cell_now s1) (8 * (4 * p)) (8 * (4 * p + block_lines value))) (KeepsOthers a p c (cell_now s0)) implies run)
    where
      implies : IsTelling s1 → (m : ℕ → Cell) → KeepsOutside (cell_now s1) (8 * (4 * p)) (8 * (4 * p + block_lines value)) m → KeepsOthers a p c (cell_now s0) m
      implies telling m kept =
          let before = at_exit s0 s1 (KeepsOthers a p c (cell_now s0)) outside telling in
          record {
            outside = λ w out head. kept_then (cell_now s0 w) (cell_now s1 w) (m w) (before.outside w out head) (keeps w out m kept);
            head = λ written w out. kept_then (cell_now s0 w) (cell_now s1 w) (m w) (before.head written w out) (keeps w out m kept);
          }

  module _ (sure : IsTelling s1 → Surely (cell_now s1 (head_of a p)) (2 + 256 * c)) where
    still : IsTelling s1 → (m : ℕ → Cell) → KeepsOutside (cell_now s1) (8 * (4 * p)) (8 * (4 * p + block_lines value)) m → Surely (m (head_of a p)) (2 + 256 * c)
    still telling m kept = surely_kept (cell_now s1 (head_of a p)) (m (head_of a p)) (2 + 256 * c) (sure telling) (keeps (head_of a p) (inl (let low = is.low in omega arith)) m kept)

    pub value_head : During s0 s1 (EachIn (head_of a p) (head_of a p + 2) (HeadTurnsTo a p c)) → During s0 s2 (EachIn (head_of a p) (head_of a p + 2) (HeadTurnsTo a p c))
    value_head first = then_on s0 s1 s2 (EachIn (head_of a p) (head_of a p + 2) (HeadTurnsTo a p c)) first (weaken s1 s2 (KeepsOutside (cell_now s1) (8 * (4 * p)) (8 * (4 * p + block_lines value))) (EachIn (head_of a p) (head_of a p + 2) (HeadTurnsTo a p c))
        (λ telling m kept. reads_data a p c is.fits m (still telling m kept)) run)

    pub wrote : (new : Sets) → AreBytes value → WritesHead a new p → (IsTelling s2 → (j : ℕ) → j < 1 + words_for (length value) → cell_now s2 (8 * (4 * p) + j) ≡ certain (get_or (block_words value) j 0)) → WroteValue s2 a new p c value
    wrote new are writes ok = record {
      head = λ telling. still (told_at_entry s1 s2 (KeepsOutside (cell_now s1) (8 * (4 * p)) (8 * (4 * p + block_lines value))) run telling) (cell_now s2) (at_exit s1 s2 (KeepsOutside (cell_now s1) (8 * (4 * p)) (8 * (4 * p + block_lines value))) run telling);
      holds = λ telling image may. holds_value image p value are (λ j lt.
          let e : 32 * p + j ≡ 8 * (4 * p) + j = omega arith in
          let r = class_room (length value) c room in
          surely_certain (cell_now s2 (32 * p + j)) (get_or (block_words value) j 0) (ap (cell_now s2) e ∙ ok telling j lt) (image (32 * p + j)) (may (32 * p + j) (omega arith) (omega (arith, lt, r))));
      layout_is = writes.layout_is;
      part_is = writes.part_is;
      free = writes.free;
      classes = writes.classes;
      due = writes.due;
      used = writes.used;
    }

pub on_ok : (r : Result (Unit {0}) RegionFault) (P Q : Type 0) → (P → Q) → OnOk r P → OnOk r Q
on_ok (Ok u) P Q implies holds = implies holds
on_ok (Err e) P Q implies holds = tt
