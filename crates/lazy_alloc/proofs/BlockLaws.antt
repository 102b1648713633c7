-- The free blocks of one chunk, by its bits.
use Rattle.std.proofs.Common.{◌≡◌, ⊎_elim, ℕ, ◌+◌, ◌-◌, ◌*◌, ◌/◌, ◌%◌, ◌^◌, ◌≤◌, ◌<◌, Bool, true, false, List, Option, Some, refl, sym, ◌∙◌, ap, arith}
use Rattle.std.proofs.Math.Nat.{mul-le-mul_right}
use Rattle.std.proofs.lemmas.Bool.{cases_lt, eq-eqb, le-leb, and_from, both_ways}
use Rattle.std.proofs.lemmas.Nat.{pow_pos, div-add-mod', div-mul-add, mod-mul-add, le-div}
use Rattle.chunk_map.specs.declared.layouts.Geometry.{Geometry}
use Rattle.store_image.specs.Parts.{chunk_units, chunk_at, unit_at, is_start}
use Rattle.lazy_alloc.specs.Bits.{has_bit}
use Rattle.lazy_alloc.specs.Sets.{class_at, is_free_block, blocks_in}
use Rattle.lazy_alloc.specs.Form.{room_words, chunk_in, bit_of, class_in, class_of_block, sets_of, IsForm}
use Rattle.lazy_alloc.proofs.PlaceLaws.{Lies}
use Rattle.lazy_alloc.proofs.SetLaws.{free_block, is_free}
use Rattle.lazy_alloc.proofs.FormLaws.{block_lies, class_at_is, marked_at, has_start}

module _ (l : Geometry) (part free due : ℕ) (classes : List (Option ℕ)) (bits : List ℕ) (is : IsForm l part free due classes bits) (j c : ℕ) (at : class_in classes j ≡ Some c) where
  -- a free block of the chunk has a bit that is not set, and which its place tells
  pub record FreeAt (q : ℕ) : Type 0 where
    pub lies : Lies l part (class_in classes) q c
    pub bit : ℕ
    pub unit : unit_at l q ≡ 1 + bit * 2 ^ c
    pub below : bit < blocks_in l c
    pub unset : has_bit bits (64 * (j * room_words l) + bit) ≡ false

  pub free_at : (q : ℕ) → chunk_in l q ≡ j → is_free_block (sets_of l part free due classes bits) c q ≡ true → FreeAt q
  free_at q here e =
      let f = free_block (sets_of l part free due classes bits) c q e in
      let class : class_of_block l part classes q ≡ Some c = sym (class_at_is l part free due classes bits is q) ∙ f.0 in
      let lies = block_lies l part free due classes bits is q c class in
      let b = (unit_at l q - 1) / 2 ^ c in
      let whole = lies.whole in
      let first = lies.first in
      let last = lies.last in
      let split = div-add-mod' (unit_at l q - 1) (2 ^ c) in
      let some = pow_pos c in
      record {
        lies = lies;
        bit = b;
        unit = omega (arith, split, whole, first);
        below = let le = le-div (b + 1) (chunk_units l - 1) (2 ^ c) some (omega (arith, split, whole, first, last)) in omega (arith, le);
        unset = ap (λ (x : ℕ). has_bit bits (64 * (x * room_words l) + b)) (sym here) ∙ sym (marked_at l part free due classes bits is q c class) ∙ f.1;
      }

  pub none_in : ((i : ℕ) → i < blocks_in l c → has_bit bits (64 * (j * room_words l) + i) ≡ true) → (q : ℕ) → chunk_in l q ≡ j → is_free_block (sets_of l part free due classes bits) c q ≡ false
  none_in all q here = by (is_free_block (sets_of l part free due classes bits) c q) refl
    where
      by : (b : Bool) → is_free_block (sets_of l part free due classes bits) c q ≡ b → b ≡ false
      by false e = refl
      by true e = let f = free_at q here e in absurd (both_ways (has_bit bits (64 * (j * room_words l) + f.bit)) f.unset (all f.bit f.below))

  module _ (b p : ℕ) (lt : j < l.chunks) (fits : b * 2 ^ c + 2 ^ c < chunk_units l) (unset : has_bit bits (64 * (j * room_words l) + b) ≡ false) (place : p ≡ 16 + (part * l.chunks + j) * chunk_units l + (1 + b * 2 ^ c)) where
    inside : 1 + b * 2 ^ c < chunk_units l
    inside = let some = pow_pos c in omega (arith, fits, some)

    before : p - 16 ≡ (part * l.chunks + j) * chunk_units l + (1 + b * 2 ^ c)
    before = omega (arith, place)

    chunk : chunk_at l p ≡ part * l.chunks + j
    chunk = ap (λ (x : ℕ). x / chunk_units l) before ∙ div-mul-add (part * l.chunks + j) (chunk_units l) (1 + b * 2 ^ c) inside

    unit : unit_at l p ≡ 1 + b * 2 ^ c
    unit = ap (λ (x : ℕ). x % chunk_units l) before ∙ mod-mul-add (part * l.chunks + j) (chunk_units l) (1 + b * 2 ^ c) inside

    pub own_chunk : chunk_in l p ≡ j
    own_chunk = ap (λ (x : ℕ). x % l.chunks) chunk ∙ mod-mul-add part l.chunks j lt

    own_part : chunk_at l p / l.chunks ≡ part
    own_part = ap (λ (x : ℕ). x / l.chunks) chunk ∙ div-mul-add part l.chunks j lt

    starts : is_start l c (unit_at l p) ≡ true
    starts =
        let some = pow_pos c in
        let rest : (unit_at l p - 1) % 2 ^ c ≡ 0 = (let e : unit_at l p - 1 ≡ b * 2 ^ c + 0 = omega (arith, unit) in ap (λ (x : ℕ). x % 2 ^ c) e ∙ mod-mul-add b (2 ^ c) 0 some) in
        and_from _ _ (and_from _ _ (le-leb 1 (unit_at l p) (omega (arith, unit))) (eq-eqb ((unit_at l p - 1) % 2 ^ c) 0 rest)) (le-leb (unit_at l p + 2 ^ c) (chunk_units l) (omega (arith, unit, fits)))

    pub class_there : class_at (sets_of l part free due classes bits) p ≡ Some c
    class_there = has_start l part free due classes bits is p c (and_from _ _ (le-leb 16 p (omega (arith, place))) (eq-eqb (chunk_at l p / l.chunks) part own_part)) (ap (class_in classes) own_chunk ∙ at) starts

    bit_there : bit_of l p c ≡ 64 * (j * room_words l) + b
    bit_there =
        let some = pow_pos c in
        let e : unit_at l p - 1 ≡ b * 2 ^ c + 0 = omega (arith, unit) in
        let low : (unit_at l p - 1) / 2 ^ c ≡ b = ap (λ (x : ℕ). x / 2 ^ c) e ∙ div-mul-add b (2 ^ c) 0 some in
        (λ i. 64 * (own_chunk i * room_words l) + low i)

    pub free_there : is_free_block (sets_of l part free due classes bits) c p ≡ true
    free_there =
        let class : class_of_block l part classes p ≡ Some c = sym (class_at_is l part free due classes bits is p) ∙ class_there in
        is_free (sets_of l part free due classes bits) c p class_there (marked_at l part free due classes bits is p c class ∙ ap (has_bit bits) bit_there ∙ unset)

    pub lowest_there : ((i : ℕ) → i < b → has_bit bits (64 * (j * room_words l) + i) ≡ true) → (q : ℕ) → q < p → chunk_in l q ≡ j → is_free_block (sets_of l part free due classes bits) c q ≡ false
    lowest_there all q less here = by (is_free_block (sets_of l part free due classes bits) c q) refl
      where
        by : (t : Bool) → is_free_block (sets_of l part free due classes bits) c q ≡ t → t ≡ false
        by false e = refl
        by true e =
            let f = free_at q here e in
            let lies = f.lies in
            let own : q ≡ 16 + (part * l.chunks + j) * chunk_units l + unit_at l q = lies.place ∙ ap (λ (x : ℕ). 16 + (part * l.chunks + x) * chunk_units l + unit_at l q) here in
            let u = f.unit in
            let low : f.bit * 2 ^ c < b * 2 ^ c = omega (arith, own, u, place, less) in
            ⊎_elim (λ lt. absurd (both_ways (has_bit bits (64 * (j * room_words l) + f.bit)) f.unset (all f.bit lt)))
            (λ ge. let le : b * 2 ^ c ≤ f.bit * 2 ^ c = mul-le-mul_right {m = b} {n = f.bit} (2 ^ c) ge in absurd (omega (arith, low, le)))
            (cases_lt f.bit b)
