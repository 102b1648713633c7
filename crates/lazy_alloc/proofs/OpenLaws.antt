-- Which chunks have a free block, by their bits.
use Rattle.std.proofs.Common.{◌≡◌, ◌≢◌, ℕ, ◌+◌, ◌-◌, ◌*◌, ◌^◌, ◌≤◌, ◌<◌, ◌==◌, ◌&&◌, not, nat_le, Bool, true, false, List, Option, Some, None, refl, sym, ◌∙◌, ap, subst, arith}
use Rattle.std.specs.Option.{option_map_or}
use Rattle.std.proofs.lemmas.Bool.{both_ways, and_parts, leb-true, not-true, eqb-true, eq-eqb, ne_eqb}
use Rattle.chunk_map.specs.declared.layouts.Geometry.{Geometry}
use Rattle.chunk_map.specs.Layouts.{is_class}
use Rattle.store_image.specs.Parts.{chunk_units}
use Rattle.chunk_map.proofs.Clients.{numbers_of}
use Rattle.lazy_alloc.specs.Bits.{has_bit}
use Rattle.lazy_alloc.specs.Sets.{is_free_block, blocks_in}
use Rattle.lazy_alloc.specs.Form.{room_words, chunk_in, bit_of, class_in, class_of_block, is_full, is_open, sets_of, IsForm}
use Rattle.lazy_alloc.proofs.CountLaws.{all_run, run_all, run_some}
use Rattle.lazy_alloc.proofs.PlaceLaws.{bit_within, blocks_room, blocks_fit}
use Rattle.lazy_alloc.proofs.FormLaws.{block_lies, class_from, class_bounds}
use Rattle.lazy_alloc.proofs.StepLaws.{one_chunk}
use Rattle.std.proofs.lemmas.Nat.{pow_pos, le-div}
use Rattle.lazy_alloc.proofs.CutLaws.{class_fits}
use Rattle.lazy_alloc.proofs.BlockLaws.{free_at}

pub all_full : (l : Geometry) (bits : List ℕ) (j c : ℕ) → ((b : ℕ) → b < blocks_in l c → has_bit bits (64 * (j * room_words l) + b) ≡ true) → is_full l bits j c ≡ true
unfolding is_full
all_full l bits j c all = all_run (λ b. has_bit bits (64 * (j * room_words l) + b)) 0 (blocks_in l c) (λ b low high. all b (omega arith))

pub full_all : (l : Geometry) (bits : List ℕ) (j c : ℕ) → is_full l bits j c ≡ true → (b : ℕ) → b < blocks_in l c → has_bit bits (64 * (j * room_words l) + b) ≡ true
unfolding is_full
full_all l bits j c full b lt = run_all (λ b. has_bit bits (64 * (j * room_words l) + b)) 0 (blocks_in l c) full b (omega arith) (omega arith)

pub some_unset : (l : Geometry) (bits : List ℕ) (j c : ℕ) → is_full l bits j c ≡ false → (b : ℕ) × (b < blocks_in l c) × (has_bit bits (64 * (j * room_words l) + b) ≡ false)
unfolding is_full
some_unset l bits j c e = let r = run_some (λ b. has_bit bits (64 * (j * room_words l) + b)) 0 (blocks_in l c) e in (r.0, (let high = r.2 in omega arith), r.3)

pub not_full : (l : Geometry) (bits : List ℕ) (j c b : ℕ) → b < blocks_in l c → has_bit bits (64 * (j * room_words l) + b) ≡ false → is_full l bits j c ≡ false
not_full l bits j c b lt unset = by (is_full l bits j c) refl
  where
    by : (t : Bool) → is_full l bits j c ≡ t → t ≡ false
    by false e = refl
    by true e = absurd (both_ways (has_bit bits (64 * (j * room_words l) + b)) unset (full_all l bits j c e b lt))

class_test : (o : Option ℕ) (c : ℕ) → option_map_or (λ k. k == c) o false ≡ true → o ≡ Some c
class_test None c e = cc e
class_test (Some k) c e = ap Some (eqb-true k c e)

class_off : (o : Option ℕ) (c : ℕ) → (o ≡ Some c → ⊥) → option_map_or (λ k. k == c) o false ≡ false
class_off None c ne = refl
class_off (Some k) c ne = ne_eqb k c (λ e. ne (ap Some e))

pub open_is : (l : Geometry) (classes : List (Option ℕ)) (bits : List ℕ) (c j : ℕ) → class_in classes j ≡ Some c → is_full l bits j c ≡ false → is_open l classes bits c j ≡ true
unfolding is_open
open_is l classes bits c j class full = (λ t. option_map_or (λ k. k == c) (class t) false && not (full t)) ∙ ap (λ (b : Bool). b && true) (eq-eqb c c refl)

pub open_parts : (l : Geometry) (classes : List (Option ℕ)) (bits : List ℕ) (c j : ℕ) → is_open l classes bits c j ≡ true → (class_in classes j ≡ Some c) × (is_full l bits j c ≡ false)
unfolding is_open
open_parts l classes bits c j e = let both = and_parts (option_map_or (λ k. k == c) (class_in classes j) false) (not (is_full l bits j c)) e in (class_test (class_in classes j) c both.0, not-true (is_full l bits j c) both.1)

pub closed : (l : Geometry) (classes : List (Option ℕ)) (bits : List ℕ) (c j : ℕ) → (class_in classes j ≡ Some c → ⊥) → is_open l classes bits c j ≡ false
unfolding is_open
closed l classes bits c j ne = ap (λ (b : Bool). b && not (is_full l bits j c)) (class_off (class_in classes j) c ne)

pub closed_full : (l : Geometry) (classes : List (Option ℕ)) (bits : List ℕ) (c j : ℕ) → is_full l bits j c ≡ true → is_open l classes bits c j ≡ false
closed_full l classes bits c j full = by (is_open l classes bits c j) refl
  where
    by : (t : Bool) → is_open l classes bits c j ≡ t → t ≡ false
    by false e = refl
    by true e = absurd (both_ways (is_full l bits j c) (open_parts l classes bits c j e).1 full)

-- whether a chunk is open depends on its class and its bits
pub open_same : (l : Geometry) (classes classes' : List (Option ℕ)) (bits bits' : List ℕ) (c j : ℕ) → class_in classes' j ≡ class_in classes j → (class_in classes j ≡ Some c → (b : ℕ) → b < blocks_in l c → has_bit bits' (64 * (j * room_words l) + b) ≡ has_bit bits (64 * (j * room_words l) + b))
    → is_open l classes' bits' c j ≡ is_open l classes bits c j
open_same l classes classes' bits bits' c j class same = by (is_open l classes bits c j) refl
  where
    by : (t : Bool) → is_open l classes bits c j ≡ t → is_open l classes' bits' c j ≡ t
    by true e =
        let o = open_parts l classes bits c j e in
        let u = some_unset l bits j c o.1 in
        open_is l classes' bits' c j (class ∙ o.0) (not_full l bits' j c u.0 u.1 (same o.0 u.0 u.1 ∙ u.2))
    by false e = other (is_open l classes' bits' c j) refl
      where
        other : (s : Bool) → is_open l classes' bits' c j ≡ s → s ≡ false
        other false q = refl
        other true q = absurd (
            let o = open_parts l classes' bits' c j q in
            let was = sym class ∙ o.0 in
            let u = some_unset l bits' j c o.1 in
            both_ways (is_open l classes bits c j) e (open_is l classes bits c j was (not_full l bits j c u.0 u.1 (sym (same was u.0 u.1) ∙ u.2)))
            )

module _ (l : Geometry) (part free due : ℕ) (classes : List (Option ℕ)) (bits : List ℕ) (is : IsForm l part free due classes bits) where
  pub units_some : 1 ≤ chunk_units l
  units_some = let size = (numbers_of l is.layout).size.0 in omega (arith, size)

  -- a chunk with a free block of a class is open
  pub open_free : (c q : ℕ) → is_free_block (sets_of l part free due classes bits) c q ≡ true → class_in classes (chunk_in l q) ≡ Some c → is_open l classes bits c (chunk_in l q) ≡ true
  open_free c q e class = let f = free_at l part free due classes bits is (chunk_in l q) c class q refl e in open_is l classes bits c (chunk_in l q) class (not_full l bits (chunk_in l q) c f.bit f.below f.unset)

  -- the bit of a block is one of the chunk's first, and no other chunk's
  module _ (p c : ℕ) (at : class_of_block l part classes p ≡ Some c) where
    pub apart : (i d b : ℕ) → class_in classes i ≡ Some d → b < blocks_in l d → i ≢ chunk_in l p → 64 * (i * room_words l) + b ≢ bit_of l p c
    apart i d b class lt ne e =
        let lies = block_lies l part free due classes bits is p c at in
        let within = bit_within l part (class_in classes) p c (class_from l part free due classes bits is p c at) lies in
        let some = (class_bounds l part free due classes bits is i d class).0 in
        let room = blocks_room l d (blocks_in l d) some (blocks_fit l d units_some) in
        let next : (i + 1) * room_words l ≡ i * room_words l + room_words l = omega arith in
        ne (one_chunk (room_words l) i (chunk_in l p) (bit_of l p c) (omega (arith, e)) (omega (arith, e, lt, room, next)) within.0 within.1)

pub class_bound : (l : Geometry) (c : ℕ) → is_class l c ≡ true → c ≤ 12
class_bound l c e = leb-true c 12 (and_parts (nat_le 1 c) (nat_le c 12) (and_parts (nat_le 1 c && nat_le c 12) (nat_le (1024 * 2 ^ c) l.chunk_bytes) e).0).1

pub blocks_some : (l : Geometry) (c : ℕ) → is_class l c ≡ true → 0 < blocks_in l c
blocks_some l c e = let fits = class_fits l c e in let some = pow_pos c in let le = le-div 1 (chunk_units l - 1) (2 ^ c) some (omega (arith, fits, some)) in omega (arith, le)

-- a chunk that is not cut has a bit that is not set
pub first_bit : (l : Geometry) (part free due : ℕ) (classes : List (Option ℕ)) (bits : List ℕ) → IsForm l part free due classes bits → (j : ℕ) → class_in classes j ≡ None → has_bit bits (64 * (j * room_words l) + 0) ≡ false
first_bit l part free due classes bits is j none =
    let some = units_some l part free due classes bits is in
    let room : 1 ≤ room_words l = omega (arith, some) in
    let next : (j + 1) * room_words l ≡ j * room_words l + room_words l = omega arith in
    is.blank j none (64 * (j * room_words l) + 0) (omega arith) (omega (arith, room, next))

-- what the first bit that is not set tells
pub full_none : (l : Geometry) (bits : List ℕ) (j c from n : ℕ) → from ≡ j * room_words l → n ≡ blocks_in l c → ((i : ℕ) → i < n → has_bit bits (64 * from + i) ≡ true) → true ≡ is_full l bits j c
full_none l bits j c from n start many all = sym (all_full l bits j c (λ b lt. ap (λ (x : ℕ). has_bit bits (64 * x + b)) (sym start) ∙ all b (subst (λ (x : ℕ). b < x) (sym many) lt)))

pub full_some : (l : Geometry) (bits : List ℕ) (j c from n b : ℕ) → from ≡ j * room_words l → n ≡ blocks_in l c → b < n → has_bit bits (64 * from + b) ≡ false → false ≡ is_full l bits j c
full_some l bits j c from n b start many lt unset = sym (not_full l bits j c b (subst (λ (x : ℕ). b < x) many lt) (ap (λ (x : ℕ). has_bit bits (64 * x + b)) (sym start) ∙ unset))
