-- Where blocks lie, and where their bits do.
use Rattle.std.proofs.Common.{◌≡◌, inl, inr, ℕ, ◌+◌, ◌-◌, ◌*◌, ◌/◌, ◌%◌, ◌^◌, ◌≤◌, ◌<◌, ◌==◌, ◌&&◌, nat_le, true, Option, Some, None, sym, ◌∙◌, ap, arith}
use Rattle.std.specs.Option.{option_and_then}
use Rattle.std.proofs.Math.Nat.{mul-le-mul_right, mul-le-mul_left, add-mul}
use Rattle.std.proofs.lemmas.Nat.{div-add-mod', div-mul-add, mod-mul-add, pow_pos, div_below, le-div, same_from_place, pow-add}
use Rattle.std.proofs.lemmas.Bool.{and_parts, and_from, leb-true, le-leb, eqb-true, eq-eqb, cond-true}
use Rattle.chunk_map.specs.declared.layouts.Geometry.{Geometry}
use Rattle.store_image.specs.Parts.{chunk_units, chunk_at, unit_at, is_start}
use Rattle.store_image.proofs.Clients.{chosen, start_facts}
use Rattle.lazy_alloc.specs.Sets.{start_in, blocks_in}
use Rattle.lazy_alloc.specs.Form.{room_words, chunk_in, bit_of, class_by}

-- where a block lies
pub record Lies (l : Geometry) (part : ℕ) (class : ℕ → Option ℕ) (p c : ℕ) : Type 0 where
  pub low : 16 ≤ p
  pub class_is : class (chunk_in l p) ≡ Some c
  pub within : chunk_in l p < l.chunks
  pub first : 1 ≤ unit_at l p
  pub whole : (unit_at l p - 1) % 2 ^ c ≡ 0
  pub last : unit_at l p + 2 ^ c ≤ chunk_units l
  pub number : chunk_at l p ≡ part * l.chunks + chunk_in l p
  pub place : p ≡ 16 + (part * l.chunks + chunk_in l p) * chunk_units l + unit_at l p

started : (l : Geometry) (u c k : ℕ) → start_in l u k ≡ Some c → (is_start l c u ≡ true) × (k ≡ c)
started l u c k e = elim (chosen (is_start l k u) _ _ _ e) [
  | inl a ↦ (let same : k ≡ c = cc (a.1) in (ap (λ (x : ℕ). is_start l x u) (sym same) ∙ a.0, same))
  | inr a ↦ cc (a.1)
]

classed : (o : Option ℕ) (l : Geometry) (u c : ℕ) → option_and_then (start_in l u) o ≡ Some c → (o ≡ Some c) × (is_start l c u ≡ true)
classed None l u c e = cc e
classed (Some k) l u c e = let s = started l u c k e in (ap Some s.1, s.0)

pub lies : (l : Geometry) (part : ℕ) (class : ℕ → Option ℕ) (p c : ℕ) → ((j k : ℕ) → class j ≡ Some k → j < l.chunks) → class_by l part class p ≡ Some c → Lies l part class p c
lies l part class p c bound e = elim (chosen (nat_le 16 p && (chunk_at l p / l.chunks == part)) _ _ _ e) [
  | inr a ↦ cc (a.1)
  | inl a ↦
      let tests = and_parts (nat_le 16 p) (chunk_at l p / l.chunks == part) a.0 in
      let low = leb-true 16 p tests.0 in
      let own : chunk_at l p / l.chunks ≡ part = eqb-true (chunk_at l p / l.chunks) part tests.1 in
      let k = classed (class (chunk_in l p)) l (unit_at l p) c a.1 in
      let s = start_facts l c (unit_at l p) k.1 in
      let outer = and_parts (nat_le 1 (unit_at l p) && ((unit_at l p - 1) % 2 ^ c == 0)) (nat_le (unit_at l p + 2 ^ c) (chunk_units l)) k.1 in
      let inner = and_parts (nat_le 1 (unit_at l p)) ((unit_at l p - 1) % 2 ^ c == 0) outer.0 in
      let number : chunk_at l p ≡ part * l.chunks + chunk_in l p = sym (div-add-mod' (chunk_at l p) l.chunks) ∙ ap (λ (x : ℕ). x * l.chunks + chunk_in l p) own in
      let split : chunk_at l p * chunk_units l + unit_at l p ≡ p - 16 = div-add-mod' (p - 16) (chunk_units l) in
      let moved = ap (λ (x : ℕ). x * chunk_units l) number in
      record {
        low = low;
        class_is = k.0;
        within = bound (chunk_in l p) c k.0;
        first = s.0;
        whole = eqb-true ((unit_at l p - 1) % 2 ^ c) 0 inner.1;
        last = s.1;
        number = number;
        place = omega (arith, split, moved, low);
      }
]

-- a block lies in the part
pub in_part : (l : Geometry) (part : ℕ) (class : ℕ → Option ℕ) (p c : ℕ) → Lies l part class p c
    → (16 + part * l.chunks * chunk_units l ≤ p) × (p < 16 + part * l.chunks * chunk_units l + l.chunks * chunk_units l)
in_part l part class p c is =
    let sum = add-mul (part * l.chunks) (chunk_in l p) (chunk_units l) in
    let le : (chunk_in l p + 1) * chunk_units l ≤ l.chunks * chunk_units l = mul-le-mul_right {m = chunk_in l p + 1} {n = l.chunks} (chunk_units l) (let w = is.within in omega (arith, w)) in
    let next = add-mul (chunk_in l p) 1 (chunk_units l) in
    let place = is.place in
    let last = is.last in
    let some = pow_pos c in
    (omega (arith, place, sum), omega (arith, place, sum, le, next, last, some))

two : (c : ℕ) → 1 ≤ c → 2 ≤ 2 ^ c
two c le = let e = pow-add 2 1 (c - 1) in let d : 1 + (c - 1) ≡ c = omega arith in let some = pow_pos (c - 1) in let same = ap (λ (x : ℕ). 2 ^ x) d in omega (arith, e, same, some)

-- its bit is one of its chunk's
pub bit_low : (l : Geometry) (part : ℕ) (class : ℕ → Option ℕ) (p c : ℕ) → 1 ≤ c → Lies l part class p c → (unit_at l p - 1) / 2 ^ c < 64 * room_words l
bit_low l part class p c le is =
    let t = two c le in
    let first = is.first in
    let last = is.last in
    let n = 64 * room_words l in
    let more : n * 2 ≤ n * 2 ^ c = mul-le-mul_left {m = 2} {n = 2 ^ c} n t in
    let wide : chunk_units l ≤ n * 2 = omega arith in
    div_below (unit_at l p - 1) (2 ^ c) n (pow_pos c) (omega (arith, more, wide, first, last, t))

pub bit_within : (l : Geometry) (part : ℕ) (class : ℕ → Option ℕ) (p c : ℕ) → 1 ≤ c → Lies l part class p c
    → (64 * (chunk_in l p * room_words l) ≤ bit_of l p c) × (bit_of l p c < 64 * ((chunk_in l p + 1) * room_words l))
bit_within l part class p c le is =
    let low = bit_low l part class p c le is in
    let next = add-mul (chunk_in l p) 1 (room_words l) in
    (omega arith, omega (arith, low, next))

-- two blocks with one bit are one
pub bit_own : (l : Geometry) (part : ℕ) (class : ℕ → Option ℕ) (p c q d : ℕ) → 1 ≤ c → 1 ≤ d → Lies l part class p c → Lies l part class q d → bit_of l p c ≡ bit_of l q d → p ≡ q
bit_own l part class p c q d some some' is is' e =
    let n = 64 * room_words l in
    let low = bit_low l part class p c some is in
    let low' = bit_low l part class q d some' is' in
    let turn : chunk_in l p * n ≡ 64 * (chunk_in l p * room_words l) = omega arith in
    let turn' : chunk_in l q * n ≡ 64 * (chunk_in l q * room_words l) = omega arith in
    let both = same_from_place (chunk_in l p) ((unit_at l p - 1) / 2 ^ c) (chunk_in l q) ((unit_at l q - 1) / 2 ^ d) n low low' (omega (arith, e, turn, turn')) in
    let same : Some c ≡ Some d = sym is.class_is ∙ ap class both.0 ∙ is'.class_is in
    let one_class : c ≡ d = cc same in
    let one = div-add-mod' (unit_at l p - 1) (2 ^ c) in
    let other = div-add-mod' (unit_at l q - 1) (2 ^ d) in
    let blocks : (unit_at l p - 1) / 2 ^ c * 2 ^ c ≡ (unit_at l q - 1) / 2 ^ d * 2 ^ d = (λ i. both.1 i * 2 ^ one_class i) in
    let whole = is.whole in
    let whole' = is'.whole in
    let first = is.first in
    let first' = is'.first in
    let units : unit_at l p ≡ unit_at l q = omega (arith, one, other, blocks, whole, whole', first, first') in
    is.place ∙ (λ i. 16 + (part * l.chunks + both.0 i) * chunk_units l + units i) ∙ sym is'.place

-- the blocks of a chunk have room in its words
pub blocks_room : (l : Geometry) (c n : ℕ) → 1 ≤ c → n * 2 ^ c + 1 ≤ chunk_units l → n ≤ 64 * room_words l
blocks_room l c n le fits = let t = two c le in let more : n * 2 ≤ n * 2 ^ c = mul-le-mul_left {m = 2} {n = 2 ^ c} n t in omega (arith, more, fits)

-- a block before the last one ends where the chunk does, or before
pub block_fits : (l : Geometry) (c b n : ℕ) → b < n → n * 2 ^ c + 1 ≤ chunk_units l → b * 2 ^ c + 2 ^ c < chunk_units l
block_fits l c b n lt fits =
    let le : (b + 1) * 2 ^ c ≤ n * 2 ^ c = mul-le-mul_right {m = b + 1} {n = n} (2 ^ c) (omega (arith, lt)) in
    let next = add-mul b 1 (2 ^ c) in
    omega (arith, le, next, fits)

-- a pointer by its chunk and unit
module _ (l : Geometry) (part j t p : ℕ) (lt : j < l.chunks) (low : t < chunk_units l) (place : p ≡ 16 + (part * l.chunks + j) * chunk_units l + t) where
  before : p - 16 ≡ (part * l.chunks + j) * chunk_units l + t
  before = omega (arith, place)

  placed_chunk : chunk_at l p ≡ part * l.chunks + j
  placed_chunk = ap (λ (x : ℕ). x / chunk_units l) before ∙ div-mul-add (part * l.chunks + j) (chunk_units l) t low

  pub placed_unit : unit_at l p ≡ t
  placed_unit = ap (λ (x : ℕ). x % chunk_units l) before ∙ mod-mul-add (part * l.chunks + j) (chunk_units l) t low

  pub placed_in : chunk_in l p ≡ j
  placed_in = ap (λ (x : ℕ). x % l.chunks) placed_chunk ∙ mod-mul-add part l.chunks j lt

  placed_part : chunk_at l p / l.chunks ≡ part
  placed_part = ap (λ (x : ℕ). x / l.chunks) placed_chunk ∙ div-mul-add part l.chunks j lt

  -- the class of the block there is that of the chunk, where it begins there
  pub placed_class : (class : ℕ → Option ℕ) → class_by l part class p ≡ option_and_then (start_in l t) (class j)
  placed_class class =
      cond-true (nat_le 16 p && (chunk_at l p / l.chunks == part)) (option_and_then (start_in l (unit_at l p)) (class (chunk_in l p))) None (and_from _ _ (le-leb 16 p (omega (arith, place))) (eq-eqb (chunk_at l p / l.chunks) part placed_part))
      ∙ (λ i. option_and_then (start_in l (placed_unit i)) (class (placed_in i)))

-- a block's place is that of its chunk
pub in_chunk : (l : Geometry) (part : ℕ) (class : ℕ → Option ℕ) (p c : ℕ) → Lies l part class p c → (16 + (part * l.chunks + chunk_in l p) * chunk_units l ≤ p) × (p < 16 + (part * l.chunks + chunk_in l p) * chunk_units l + chunk_units l)
in_chunk l part class p c is = let place = is.place in let last = is.last in let some = pow_pos c in (omega (arith, place), omega (arith, place, last, some))

pub blocks_fit : (l : Geometry) (c : ℕ) → 1 ≤ chunk_units l → blocks_in l c * 2 ^ c + 1 ≤ chunk_units l
blocks_fit l c some = let whole = div-add-mod' (chunk_units l - 1) (2 ^ c) in omega (arith, whole, some)

-- the number of a block in its chunk
pub block_number : (l : Geometry) (part : ℕ) (class : ℕ → Option ℕ) (p c : ℕ) → Lies l part class p c → (unit_at l p - 1) / 2 ^ c < blocks_in l c
block_number l part class p c is =
    let some = pow_pos c in
    let split = div-add-mod' (unit_at l p - 1) (2 ^ c) in
    let whole = is.whole in
    let first = is.first in
    let last = is.last in
    let b = (unit_at l p - 1) / 2 ^ c in
    let next = add-mul b 1 (2 ^ c) in
    let le = le-div (b + 1) (chunk_units l - 1) (2 ^ c) some (omega (arith, split, whole, first, last, next)) in
    omega (arith, le)
