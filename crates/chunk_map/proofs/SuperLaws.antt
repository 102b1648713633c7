-- Words of one line are made certain, and the superblock by two such steps.
use Rattle.std.proofs.Common.{◌≡◌, inl, inr, ⊎_elim, ℕ, ◌+◌, ◌*◌, ◌%◌, ◌≤◌, ◌<◌, ◌==◌, ◌&&◌, nat_le, true, false, List, [], ◌∷◌, length, get_or, is_none, Some, None, Result, Ok, Err, OnOk, OnErr, sym, ◌∙◌, ap, arith}
use Rattle.pm_region.specs.Cell.{Cell, certain, fenced, flush_line, fence_range, unchanged}
use Rattle.pm_region.specs.State.{State, Frame, IsTelling, cell_now, Goes, During}
use Rattle.pm_region.specs.Words.{KeepsOutside, Surely, MayLeaveIn, EachIn, Sets}
use Rattle.pm_region.specs.declared.region.RegionFault.{RegionFault}
use Rattle.pm_region.proofs.Clients.{weaken, goes_on, then_on, at_exit, told_at_entry, kept_narrows, surely_narrows, surely_certain, flush_narrows, fence_narrows, flush_here, fence_here, fence_on}
use Rattle.std.proofs.lemmas.Bool.{and_from, and_left, eq-eqb, le-leb, cond-true, cond-false}
use Rattle.chunk_map.specs.declared.layouts.Geometry.{Geometry}
use Rattle.chunk_map.specs.Layouts.{magic, layout_of, layout_rule, IsLayout, total_bytes, superblock_rule}
use Rattle.chunk_map.specs.Superblock.{IsSuperblock, MayHaveSuperblock, IsRefusedOrWhole, NarrowsOutside}
use Rattle.chunk_map.proofs.LayoutLaws.{numbers_of as layout_numbers, parts_end}

pub on_ok : (r : Result (Unit {0}) RegionFault) (P Q : Type 0) → (P → Q) → OnOk r P → OnOk r Q
on_ok (Ok u) P Q implies holds = implies holds
on_ok (Err e) P Q implies holds = tt

-- words are stored, their line flushed, and a fence tried
module _ (s0 s1 s2 s3 : State) (at line : ℕ) (words : List ℕ) (r : Result (Unit {0}) RegionFault) (run : During s0 s1 (KeepsOutside (cell_now s0) at (at + length words)))
    (flush : Goes s1 s2 (flush_line line)) (ok : OnOk r (Goes s2 s3 (fence_range s2.frame.first s2.frame.words))) where
  pub narrows_run : OnErr r (Goes s2 s3 unchanged) → During s0 s3 (NarrowsOutside (cell_now s0) at (at + length words))
  narrows_run err = fence_on s0 s2 s3 (NarrowsOutside (cell_now s0) at (at + length words)) r
      (goes_on s0 s1 s2 (NarrowsOutside (cell_now s0) at (at + length words)) (flush_line line)
      (weaken s0 s1 (KeepsOutside (cell_now s0) at (at + length words)) (NarrowsOutside (cell_now s0) at (at + length words)) (λ telling m kept w out. kept_narrows (cell_now s0 w) (m w) (kept w out)) run) flush
      (λ telling is w out v may. is w out v (flush_narrows line w (cell_now s1 w) v may)))
      ok err (λ telling is w out v may. is w out v (fence_narrows s2.frame.first s2.frame.words w (cell_now s2 w) v may))

  pub certain_words : (IsTelling s1 → (j : ℕ) → j < length words → (cell_now s1 (at + j)).last ≡ get_or words j 0) → s0.frame.first ≤ 8 * line → 8 * line + 8 ≤ s0.frame.first + s0.frame.words → 8 * line ≤ at → at + length words ≤ 8 * line + 8
      → OnOk r (IsTelling s3 → (j : ℕ) → j < length words → cell_now s3 (at + j) ≡ certain (get_or words j 0))
  certain_words stored low high from end = on_ok r (Goes s2 s3 (fence_range s2.frame.first s2.frame.words)) _ now ok
    where
      now : Goes s2 s3 (fence_range s2.frame.first s2.frame.words) → IsTelling s3 → (j : ℕ) → j < length words → cell_now s3 (at + j) ≡ certain (get_or words j 0)
      now fence telling j lt =
          let t2 = fence.was telling in
          let t1 = flush.was t2 in
          let frame : s2.frame ≡ s0.frame = flush.frame ∙ run.frame in
          let first : s2.frame.first ≡ s0.frame.first = ap (λ (f : Frame). f.first) frame in
          let long : s2.frame.words ≡ s0.frame.words = ap (λ (f : Frame). f.words) frame in
          fence.now (at + j) telling
          ∙ fence_here s2.frame.first s2.frame.words (at + j) (cell_now s2 (at + j)) (omega (arith, first, low, from)) (omega (arith, first, long, high, end, lt))
          ∙ ap fenced (flush.now (at + j) t2 ∙ flush_here line (at + j) (cell_now s1 (at + j)) (omega (arith, from)) (omega (arith, lt, end)))
          ∙ ap certain (stored t1 j lt)

abbrev pub numbers_of : Geometry → List ℕ
numbers_of l = 1 ∷ l.cores ∷ l.group ∷ l.chunks ∷ l.chunk_bytes ∷ []

-- the numbers, and then the magic word
module _ (s0 s1 s2 : State) (l : Geometry) (first : During s0 s1 (NarrowsOutside (cell_now s0) 1 6)) (ok : IsTelling s1 → (j : ℕ) → j < 5 → cell_now s1 (1 + j) ≡ certain (get_or (numbers_of l) j 0))
    (next : During s1 s2 (Sets (cell_now s1) 0 0 magic)) where
  number_at : IsTelling s1 → (m : ℕ → Cell) → Sets (cell_now s1) 0 0 magic m → (image : ℕ → ℕ) → MayLeaveIn m 0 6 image → (j : ℕ) → j < 5 → image (1 + j) ≡ get_or (numbers_of l) j 0
  number_at telling m is image may j lt =
      surely_narrows (cell_now s1 (1 + j)) (m (1 + j)) (get_or (numbers_of l) j 0) (surely_certain (cell_now s1 (1 + j)) (get_or (numbers_of l) j 0) (ok telling j lt)) (is.beside (1 + j) (λ same. omega arith))
      (image (1 + j)) (may (1 + j) (omega arith) (omega arith))

  whole : IsTelling s1 → (m : ℕ → Cell) → Sets (cell_now s1) 0 0 magic m → (image : ℕ → ℕ) → MayLeaveIn m 0 6 image → image 0 ≡ magic → IsSuperblock l image
  whole telling m is image may here =
      let at = number_at telling m is image may in
      let two = at 1 (omega arith) in
      let three = at 2 (omega arith) in
      let four = at 3 (omega arith) in
      let five = at 4 (omega arith) in
      record { magic_is = here; format = at 0 (omega arith); layout = λ i. record { cores = two i; group = three i; chunks = four i; chunk_bytes = five i } }

  pub superblock_turns : During s0 s2 (EachIn 0 6 (MayHaveSuperblock (cell_now s0) l))
  superblock_turns = then_on s0 s1 s2 (EachIn 0 6 (MayHaveSuperblock (cell_now s0) l))
      (weaken s0 s1 (NarrowsOutside (cell_now s0) 1 6) (EachIn 0 6 (MayHaveSuperblock (cell_now s0) l)) (λ telling m is image may. inl (is 0 (inl (omega arith)) (image 0) (may 0 (omega arith) (omega arith)))) first)
      (weaken s1 s2 (Sets (cell_now s1) 0 0 magic) (EachIn 0 6 (MayHaveSuperblock (cell_now s0) l)) implies next)
    where
      implies : IsTelling s1 → (m : ℕ → Cell) → Sets (cell_now s1) 0 0 magic m → EachIn 0 6 (MayHaveSuperblock (cell_now s0) l) m
      implies telling m is image may = ⊎_elim
          (λ before. inl (at_exit s0 s1 (NarrowsOutside (cell_now s0) 1 6) first telling 0 (inl (omega arith)) (image 0) before))
          (λ here. inr (whole telling m is image may here)) (is.either (image 0) (may 0 (omega arith) (omega arith)))

  pub superblock_stands : (IsTelling s2 → cell_now s2 0 ≡ certain magic) → IsTelling s2 → EachIn 0 6 (IsSuperblock l) (cell_now s2)
  superblock_stands set telling image may =
      whole (told_at_entry s1 s2 (Sets (cell_now s1) 0 0 magic) next telling) (cell_now s2) (at_exit s1 s2 (Sets (cell_now s1) 0 0 magic) next telling) image may
      (surely_certain (cell_now s2 0) magic (set telling) (image 0) (may 0 (omega arith) (omega arith)))

-- rule 1 is kept by a layout's length
length_kept : (l : Geometry) → IsLayout l → (total_bytes l % 8 == 0 && nat_le 4096 (total_bytes l) && nat_le (total_bytes l) 268439552) ≡ true
length_kept l is =
    let n = layout_numbers l is in
    let total = n.total in
    let end = parts_end l n.size in
    and_from _ _ (and_from _ _ (eq-eqb (total_bytes l % 8) 0 (omega (arith, end))) (le-leb 4096 (total_bytes l) (omega arith))) (le-leb (total_bytes l) 268439552 (omega (arith, total)))

no_magic : (l : Geometry) → IsLayout l → (image : ℕ → ℕ) → image 0 ≡ 0 → superblock_rule (total_bytes l) image ≡ Some 2
no_magic l is image zero =
    let other : (image 0 == magic) ≡ false = ap (λ (n : ℕ). n == magic) zero in
    cond-true _ _ _ (length_kept l is) ∙ cond-false (image 0 == magic && image 1 == 1) _ _ (and_left (image 0 == magic) (image 1 == 1) other)

pub keeps_rules : (l : Geometry) → IsLayout l → (image : ℕ → ℕ) → IsSuperblock l image → superblock_rule (total_bytes l) image ≡ None
keeps_rules l is image has =
    let first = and_from (image 0 == magic) (image 1 == 1) (eq-eqb (image 0) magic has.magic_is) (eq-eqb (image 1) 1 has.format) in
    let same : (is_none (layout_rule (layout_of image)) && total_bytes l == total_bytes (layout_of image)) ≡ true =
    and_from _ _ (ap (λ (g : Geometry). is_none (layout_rule g)) has.layout ∙ ap is_none is) (eq-eqb (total_bytes l) (total_bytes (layout_of image)) (ap total_bytes (sym has.layout))) in
    cond-true _ _ _ (length_kept l is) ∙ cond-true _ _ _ first ∙ cond-true _ _ _ same

pub refused_or_whole : (s t : State) (l : Geometry) → IsLayout l → During s t (EachIn 0 6 (MayHaveSuperblock (cell_now s) l)) → (IsTelling s → Surely (cell_now s 0) 0)
    → During s t (EachIn 0 6 (IsRefusedOrWhole l (total_bytes l)))
refused_or_whole s t l is run zero = weaken s t (EachIn 0 6 (MayHaveSuperblock (cell_now s) l)) (EachIn 0 6 (IsRefusedOrWhole l (total_bytes l)))
    (λ telling m each image may. ⊎_elim (λ before. inl (no_magic l is image (zero telling (image 0) before))) (λ has. inr (has, keeps_rules l is image has)) (each image may)) run
