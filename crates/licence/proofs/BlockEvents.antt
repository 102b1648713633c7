-- Writing a value to a block keeps the licence, and the view may have the block in the end.
use Rattle.std.proofs.Common.{◌≡◌, ◌⊎◌, inl, inr, ⊎_elim, ℕ, ◌+◌, ◌-◌, ◌*◌, ◌/◌, ◌%◌, ◌^◌, ◌≤◌, ◌<◌, ◌==◌, ◌&&◌, leb, Bool, true, false, cond, length, Option, Some, None, Ok, refl, sym, ◌∙◌, ap, subst, arith}
use Rattle.std.proofs.lemmas.Bool.{cases_eq, cases_lt, eq-eqb, ne_eqb}
use Rattle.std.proofs.lemmas.Nat.{pow_pos}
use Rattle.pm_region.specs.Cell.{Cell, MayBe}
use Rattle.pm_region.specs.State.{State, IsTelling, cell_now, During}
use Rattle.pm_region.specs.Words.{KeepsOutside, MayLeaveIn, EachIn, Surely, lasts}
use Rattle.pm_region.proofs.Clients.{may_be_last, kept_narrows, patch, patch_in, patch_out, surely_last, weaken, both, at_exit}
use Rattle.chunk_map.specs.declared.heads.Head.TheVariants.{Free, Data}
use Rattle.chunk_map.specs.declared.layouts.Geometry.{Geometry}
use Rattle.chunk_map.specs.Layouts.{chunk_words, chunk_first, head_at, head_by, has_class, is_class}
use Rattle.chunk_map.proofs.Clients.{data_read, chunk_in_part}
use Rattle.store_image.specs.Parts.{chunk_at, unit_at, is_start, class_behind, block_class, value_by_class, block_bytes}
use Rattle.store_image.specs.Facts.{In}
use Rattle.store_image.proofs.Clients.{chosen, Numbers, LiesIn, chunk_of, block_lies, layout_numbers}
use Rattle.lazy_alloc.specs.Sets.{Sets, AreSets, class_at, chunk_class, chunk_is_due, block_is_used}
use Rattle.lazy_alloc.specs.Sets as sets
use Rattle.lazy_alloc.specs.Written.{KeepsOthers, HeadTurnsTo, HoldsValue, WroteValue, head_of}
use Rattle.lazy_alloc.proofs.Clients.{lies_at}
use Rattle.group_laws.specs.declared.types.Block.{Block}
use Rattle.group_laws.specs.Places.{Place, core_of}
use Rattle.group_laws.specs.Images.{block_of, IsLicensedBy}
use Rattle.std.specs.Option.{option_and_then}
use Rattle.group_laws.specs.Steps.{bytes_of}
use Rattle.group_laws.specs.Updates.{put}
use Rattle.group_laws.specs.MemberViews.{View}
use Rattle.licence.specs.Licence.{Licensed, part_at, part_end}
use Rattle.licence.specs.ViewChanges.{GainsBlock}
use Rattle.licence.specs.Writes.{IsUnused, WritesBlock}
use Rattle.licence.proofs.Gained.{not_true}
use Rattle.licence.proofs.Blocks.{Start, numbers_of, licensed_block}

started : (l : Geometry) (u k : ℕ) (o : Option ℕ) → option_and_then (sets.start_in l u) o ≡ Some k → is_start l k u ≡ true
started l u k None e = absurd (cc e)
started l u k (Some d) e = elim (chosen (is_start l d u) _ _ _ e) [
  | inl a ↦ (let same : d ≡ k = cc (a.1) in ap (λ x. is_start l x u) (sym same) ∙ a.0)
  | inr a ↦ absurd (cc (a.1))
]

pub start_at : (a : Sets) (q class : ℕ) → class_at a q ≡ Some class → Start a.layout a.part q class
start_at a q class e = elim (chosen (leb 16 q && (chunk_at a.layout q / a.layout.chunks == a.part)) _ _ _ e) [
  | inl b ↦ record { in_part = b.0; start = started a.layout (unit_at a.layout q) class (chunk_class a (chunk_at a.layout q % a.layout.chunks)) b.1 }
  | inr b ↦ absurd (cc (b.1))
]

free_head : (l : Geometry) (image : ℕ → ℕ) (at : ℕ) → image at ≡ 0 → head_at l image at ≡ Ok Free
free_head l image at e = ap (λ k. head_by l k (image (at + 1))) e

-- Over the call that writes a value.
module _ (s t : State) (p : Place) (m : ℕ) (v : View) (a : Sets) (q class : ℕ) (block : IsUnused s p m v a q class) (writes : WritesBlock s t a q class) where
  is : Numbers p.layout
  is = layout_numbers p.layout block.place.layout

  abbrev layout : a.layout ≡ p.layout
  layout = block.layout

  abbrev part : a.part ≡ core_of p m
  part = block.part

  are : AreSets a
  are = block.sets

  at : class_at a q ≡ Some class
  at = block.at

  others : During s t (KeepsOthers a q class (cell_now s))
  others = writes.outside

  turns : During s t (EachIn (head_of a q) (head_of a q + 2) (HeadTurnsTo a q class))
  turns = writes.head

  to_place : (P : Geometry → ℕ → Type 0) → P a.layout a.part → P p.layout (core_of p m)
  to_place P h = subst (λ c. P p.layout c) part (subst (λ l. P l a.part) layout h)

  abbrev l : Geometry
  l = p.layout

  abbrev c : ℕ
  c = core_of p m

  abbrev j : ℕ
  j = chunk_of p.layout q

  abbrev hd : ℕ
  hd = chunk_first p.layout (core_of p m) (chunk_of p.layout q)

  hd_is : head_of a q ≡ hd
  hd_is = to_place (λ l c. head_of a q ≡ chunk_first l c (chunk_of l q)) refl

  low : c < l.cores
  low = to_place (λ l c. c < l.cores) are.part_is

  starts : Start l c q class
  starts = to_place (λ l c. Start l c q class) (start_at a q class at)

  fits : is_class l class ≡ true
  fits = to_place (λ l c. is_class l class ≡ true) (are.cut_in (sets.chunk_of a q) class (lies_at a q class are at).class_is).1

  room : 32 ≤ chunk_words l
  room = let size = is.size in omega (arith, size)

  within : j < l.chunks
  within = let some = is.chunks in omega (arith, some)

  lies : LiesIn l (λ w. 2 + 256 * class) c q class
  lies = block_lies l is (λ w. 2 + 256 * class) c q class low (ap (λ b. cond b (class_behind l (unit_at l q) (head_at l (λ w. 2 + 256 * class) (512 + chunk_at l q * chunk_words l))) None) starts.in_part
      ∙ ap (class_behind l (unit_at l q)) (data_read l class (2 + 256 * class) fits) ∙ ap (λ b. cond b (Some class) None) starts.start)

  outside_of : (cells : ℕ → Cell) → KeepsOthers a q class (cell_now s) cells → KeepsOutside (cell_now s) (part_at p m) (part_end p m) cells
  outside_of cells kept w out =
      let size : 0 < 32 * 2 ^ class = (let pos : 0 < 2 ^ class = pow_pos class in omega (arith, pos)) in
      let first = lies.words 0 size in
      let last = lies.words (32 * 2 ^ class - 1) (omega (arith, size)) in
      let area = chunk_in_part l c j within in
      let f1 = first.1 in
      let f3 = first.3 in
      let l2 = last.2 in
      let l3 = last.3 in
      let a0 = area.0 in
      let a1 = area.1 in
      let at_hd = hd_is in
      kept.outside w (⊎_elim (λ lo. inl (omega (arith, lo, f1, f3, a0))) (λ hi. inr (omega (arith, hi, l2, l3, size, a1))) out)
      (⊎_elim (λ lo. inl (omega (arith, lo, a0, at_hd))) (λ hi. inr (omega (arith, hi, a1, at_hd, room))) out)

  pub block_outside : During s t (KeepsOutside (cell_now s) (part_at p m) (part_end p m))
  block_outside = weaken s t (KeepsOthers a q class (cell_now s)) (KeepsOutside (cell_now s) (part_at p m) (part_end p m)) (λ telling cells kept. outside_of cells kept) others

  chunk_of_words : (cells : ℕ → Cell) → KeepsOthers a q class (cell_now s) cells → KeepsOutside (cell_now s) hd (hd + chunk_words l) cells
  chunk_of_words cells kept w out =
      let size : 0 < 32 * 2 ^ class = (let pos : 0 < 2 ^ class = pow_pos class in omega (arith, pos)) in
      let first = lies.words 0 size in
      let last = lies.words (32 * 2 ^ class - 1) (omega (arith, size)) in
      let f1 = first.1 in
      let f3 = first.3 in
      let l2 = last.2 in
      let l3 = last.3 in
      let at_hd = hd_is in
      kept.outside w (⊎_elim (λ lo. inl (omega (arith, lo, f1, f3))) (λ hi. inr (omega (arith, hi, l2, l3, size))) out)
      (⊎_elim (λ lo. inl (omega (arith, lo, at_hd))) (λ hi. inr (omega (arith, hi, at_hd, room))) out)

  pub block_chunk : During s t (KeepsOutside (cell_now s) hd (hd + chunk_words l))
  block_chunk = weaken s t (KeepsOthers a q class (cell_now s)) (KeepsOutside (cell_now s) hd (hd + chunk_words l)) (λ telling cells kept. chunk_of_words cells kept) others

  module _ (telling : IsTelling s) (cells : ℕ → Cell) (kept : KeepsOthers a q class (cell_now s) cells) (image : ℕ → ℕ) (may : MayLeaveIn cells (part_at p m) (part_end p m) image) (turn : HeadTurnsTo a q class image) where
    before : ℕ → ℕ
    before = patch hd (hd + 8) (lasts s) (patch (32 * q) (32 * q + 32 * 2 ^ class) (lasts s) image)

    outside_both : (w : ℕ) → (w < 32 * q) ⊎ (32 * q + 32 * 2 ^ class ≤ w) → (w < hd) ⊎ (hd + 8 ≤ w) → before w ≡ image w
    unfolding before
    outside_both w block head = patch_out hd (hd + 8) (lasts s) _ w head ∙ patch_out (32 * q) (32 * q + 32 * 2 ^ class) (lasts s) image w block

    in_head : (w : ℕ) → hd ≤ w → w < hd + 8 → before w ≡ lasts s w
    unfolding before
    in_head w lo hi = patch_in hd (hd + 8) (lasts s) _ w lo hi

    in_block : (w : ℕ) → 32 * q ≤ w → w < 32 * q + 32 * 2 ^ class → (w < hd) ⊎ (hd + 8 ≤ w) → before w ≡ lasts s w
    unfolding before
    in_block w lo hi head = patch_out hd (hd + 8) (lasts s) _ w head ∙ patch_in (32 * q) (32 * q + 32 * 2 ^ class) (lasts s) image w lo hi

    place_of : (w from end : ℕ) → ((w < from) ⊎ (end ≤ w)) ⊎ ((from ≤ w) × (w < end))
    place_of w from end = ⊎_elim (λ lt. inl (inl lt)) (λ ge. ⊎_elim (λ lt. inr (ge, lt)) (λ out. inl (inr out)) (cases_lt w end)) (cases_lt w from)

    may_before : MayLeaveIn (cell_now s) (part_at p m) (part_end p m) before
    may_before w lo hi = ⊎_elim
        (λ out. ⊎_elim
        (λ aside. subst (λ x. MayBe (cell_now s w) x) (sym (outside_both w aside out))
        (kept_narrows (cell_now s w) (cells w) (kept.outside w aside (subst (λ (h : ℕ). (w < h) ⊎ (h + 8 ≤ w)) (sym hd_is) out)) (image w) (may w lo hi)))
        (λ inner. may_be_last (cell_now s w) (before w) (in_block w inner.0 inner.1 out))
        (place_of w (32 * q) (32 * q + 32 * 2 ^ class)))
        (λ inner. may_be_last (cell_now s w) (before w) (in_head w inner.0 inner.1))
        (place_of w hd (hd + 8))

    turn_here : (head_at l image hd ≡ Ok (Data class)) ⊎ ((chunk_is_due a (sets.chunk_of a q) ≡ true) × (head_at l image hd ≡ Ok Free))
    turn_here = to_place (λ l c. (head_at l image (chunk_first l c (chunk_of l q)) ≡ Ok (Data class)) ⊎ ((chunk_is_due a (sets.chunk_of a q) ≡ true) × (head_at l image (chunk_first l c (chunk_of l q)) ≡ Ok Free))) turn

    kind_was : (k : ℕ) → Surely (cell_now s (head_of a q)) k → before hd ≡ k
    kind_was k sure = in_head hd (omega arith) (omega arith) ∙ ap (lasts s) (sym hd_is) ∙ surely_last (cell_now s (head_of a q)) k sure

    head_before : (head_at l before hd ≡ Ok Free) ⊎ ((head_at l before hd ≡ Ok (Data class)) × (head_at l image hd ≡ Ok (Data class)))
    head_before = by_due (chunk_is_due a (sets.chunk_of a q)) refl where
      by_due : (b : Bool) → chunk_is_due a (sets.chunk_of a q) ≡ b → (head_at l before hd ≡ Ok Free) ⊎ ((head_at l before hd ≡ Ok (Data class)) × (head_at l image hd ≡ Ok (Data class)))
      by_due true due = inl (free_head l before hd (kind_was 0 (block.head.due due telling)))
      by_due false due = inr (
        ap (λ k. head_by l k (before (hd + 1))) (kind_was (2 + 256 * class) (block.head.written due telling)) ∙ data_read l class (before (hd + 1)) fits,
        ⊎_elim (λ h. h) (λ free. absurd (let both : true ≡ false = sym free.0 ∙ due in cc both)) turn_here,
      )

    moment : IsLicensedBy p m v image
    moment = licensed_block p m v is low q class starts fits image before (block.licensed telling before may_before) block.unused (λ w block head. sym (outside_both w block head)) head_before (⊎_elim (λ h. inl h) (λ free. inr free.1) turn_here)

  of_head : (cells : ℕ → Cell) (image : ℕ → ℕ) → MayLeaveIn cells (part_at p m) (part_end p m) image → MayLeaveIn cells (head_of a q) (head_of a q + 2) image
  of_head cells image may w lo hi =
      let lies = chunk_in_part l c j within in
      let at_hd = hd_is in
      may w (omega (arith, lies.0, at_hd, lo)) (omega (arith, lies.1, at_hd, hi, room))

  pub block_licensed : During s t (Licensed p m v)
  block_licensed = weaken s t (λ cells. KeepsOthers a q class (cell_now s) cells × EachIn (head_of a q) (head_of a q + 2) (HeadTurnsTo a q class) cells) (Licensed p m v)
      (λ telling cells h image may. moment telling cells h.0 image may (h.1 image (of_head cells image may)))
      (both s t (KeepsOthers a q class (cell_now s)) (EachIn (head_of a q) (head_of a q + 2) (HeadTurnsTo a q class)) others turns)

  -- in the end the view may have the block
  pub block_gained : (u : View) (b : Sets) (d : Block) → has_class (length d.bytes) class ≡ true → WroteValue t a b q class d.bytes → GainsBlock q d v u → IsTelling t → Licensed p m u (cell_now t)
  block_gained u b d long wrote gains telling image may = record {
    well = L.well;
    has = λ e k live. L.has e (subst (In e) gains.kept k) (not_true (v.doomed e.key e.version) (u.doomed e.key e.version) (gains.doomed e.key e.version) live);
    only = λ e i. ⊎_elim (λ k. inl (subst (In e) (sym gains.kept) k)) (λ f. inr (subst (In e) (sym gains.flying) f)) (L.only e i);
    whole = ⊎_elim (λ all. inl (λ e f. all e (subst (In e) gains.flying f))) (λ none. inr (λ e f i. subst (In e) (sym gains.kept) (none e (subst (In e) gains.flying f) i))) L.whole;
    blocks = λ r x has. ⊎_elim (λ here. mine r x here (gains.blocks r x has)) (λ ne. L.blocks r x (sym (ap (λ z. cond z (Some d) (v.blocks r)) (ne_eqb r q ne)) ∙ gains.blocks r x has)) (cases_eq r q);
  }
    where
      L : IsLicensedBy p m v image
      L = at_exit s t (Licensed p m v) block_licensed telling image may

      head_sure : image hd ≡ 2 + 256 * class
      head_sure = subst (λ (h : ℕ). image h ≡ 2 + 256 * class) hd_is (wrote.head telling (image (head_of a q)) (of_head (cell_now t) image may (head_of a q) (omega arith) (omega arith)))

      block_here : block_class l image c q ≡ Some class
      block_here = ap (λ z. cond z (class_behind l (unit_at l q) (head_at l image (512 + chunk_at l q * chunk_words l))) None) starts.in_part
          ∙ ap (class_behind l (unit_at l q)) (ap (λ n. head_at l image (512 + n * chunk_words l)) (numbers_of l is c q class starts).number ∙ ap (λ k. head_by l k (image (hd + 1))) head_sure ∙ data_read l class (image (hd + 1)) fits)
          ∙ ap (λ z. cond z (Some class) None) starts.start

      block_words_lie : (k : ℕ) → k < 32 * 2 ^ class → (n : ℕ) × (32 ≤ n) × (n < chunk_words l) × (32 * q + k ≡ chunk_first l c j + n)
      block_words_lie = (block_lies l is image c q class low block_here).words

      in_block : MayLeaveIn (cell_now t) (32 * q) (32 * q + 32 * 2 ^ class) image
      in_block w lo hi =
          let size : 0 < 32 * 2 ^ class = (let pos : 0 < 2 ^ class = pow_pos class in omega (arith, pos)) in
          let lies = block_words_lie 0 size in
          let last = block_words_lie (32 * 2 ^ class - 1) (omega (arith, size)) in
          let area = chunk_in_part l c j within in
          let f1 = lies.1 in
          let f3 = lies.3 in
          let l2 = last.2 in
          let l3 = last.3 in
          may w (omega (arith, area.0, lo, f1, f3)) (omega (arith, area.1, hi, l2, l3, size))

      holds : HoldsValue q d.bytes image
      holds = wrote.holds telling image in_block

      mine : (r : ℕ) (x : Block) → r ≡ q → put v.blocks q (Some d) r ≡ Some x → block_of p image m r ≡ Some x.bytes
      mine r x here has =
          let at_r : Some d ≡ Some x = sym (ap (λ z. cond z (Some d) (v.blocks r)) (eq-eqb r q here)) ∙ has in
          let bytes : Some d.bytes ≡ Some x.bytes = ap bytes_of at_r in
          ap (block_of p image m) here ∙ ap (value_by_class image q) block_here
          ∙ ap (λ n. cond (has_class n class) (Some (block_bytes image q)) None) holds.0 ∙ ap (λ z. cond z (Some (block_bytes image q)) None) long ∙ ap Some holds.1 ∙ bytes
