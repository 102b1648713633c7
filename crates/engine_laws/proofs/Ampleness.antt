-- An ample input has room: the numbers alone.
use Rattle.std.proofs.Common.{◌≡◌, ⊎_elim, ℕ, ◌+◌, ◌-◌, ◌*◌, ◌/◌, ◌^◌, ◌<◌, ◌≤◌, ◌==◌, ◌&&◌, ◌||◌, leb, ltb, length, true, false, Bool, refl, ap, arith}
use Rattle.std.proofs.lemmas.Bool.{and_parts, leb-true, ltb-true, eqb-true, cases_lt}
use Rattle.std.proofs.lemmas.Nat.{pow_pos, le-div}
use Rattle.std.proofs.Math.Nat.{mul-le-mul_left, mul-le-mul_right}
use Rattle.chunk_map.specs.declared.layout_sizes.TheConstants.{GREATEST_CLASS}
use Rattle.chunk_map.specs.declared.layouts.Geometry.{Geometry}
use Rattle.chunk_map.specs.Chunks.{blocks_in, chunk_units}
use Rattle.chunk_map.specs.Layouts.{payload_lines, is_class, has_class, IsLayout}
use Rattle.chunk_map.proofs.Clients.{numbers_of}
use Rattle.fs_model.specs.declared.model.Request.{Request}
use Rattle.fs_model.specs.declared.model.Request.TheVariants.{Put, Get, Delete}
use Rattle.engine_laws.specs.FreeStock.{NeedsBlock}
use Rattle.headline.specs.Ample.{parts_of}

-- rounding up
pub parts_least : (m n d : ℕ) → 0 < d → m * d + 1 ≤ n + d → m ≤ parts_of n d
parts_least m n d some le = le-div m (n + (d - 1)) d some (omega (arith, le, some))

pub parts_cover : (n d : ℕ) → 0 < d → n ≤ parts_of n d * d
parts_cover n d some = let up = div_up (n + (d - 1)) d some in omega (arith, up, some) where
  div_up : (n d : ℕ) → 0 < d → n < (n / d + 1) * d
  div_up n d some = ⊎_elim (λ lt. lt) (λ ge. absurd (let more = le-div (n / d + 1) n d some ge in omega (arith, more))) (cases_lt n ((n / d + 1) * d))

-- a chunk has a block of each class of the layout
pub block_some : (l : Geometry) (k : ℕ) → is_class l k ≡ true → 0 < blocks_in l k
block_some l k e =
    let fits = leb-true (1024 * 2 ^ k) l.chunk_bytes (and_parts (leb 1 k && leb k GREATEST_CLASS) (leb (1024 * 2 ^ k) l.chunk_bytes) e).1 in
    let some : 0 < 2 ^ k = pow_pos k in
    let one = le-div 1 (chunk_units l - 1) (2 ^ k) some (let units = le-div (4 * 2 ^ k) l.chunk_bytes 256 (omega arith) (omega (arith, fits)) in omega (arith, units, some)) in
    omega (arith, one)

pub class_bounds : (l : Geometry) (k : ℕ) → is_class l k ≡ true → (1 ≤ k) × (k ≤ GREATEST_CLASS)
class_bounds l k e =
    let outer = and_parts (leb 1 k && leb k GREATEST_CLASS) (leb (1024 * 2 ^ k) l.chunk_bytes) e in
    let inner = and_parts (leb 1 k) (leb k GREATEST_CLASS) outer.0 in
    (leb-true 1 k inner.0, leb-true k GREATEST_CLASS inner.1)

-- A core whose log took so many lines at most, and has so many in its open chunk, opened fewer chunks than an ample input leaves it.
pub few_opened : (l : Geometry) (opened used open_lines bytes : ℕ) → 4096 ≤ l.chunk_bytes → opened * (payload_lines l - 4) ≤ used + open_lines → open_lines ≤ payload_lines l → 64 * used ≤ bytes → parts_of bytes (l.chunk_bytes - 576) + 2 ≤ opened → ⊥
few_opened l opened used open_lines bytes large lines small within many =
    few (parts_of bytes (l.chunk_bytes - 576)) (payload_lines l - 4) (l.chunk_bytes - 576) (parts_cover bytes (l.chunk_bytes - 576) (omega (arith, large))) many (omega (arith, large)) (omega (arith, large)) lines (omega (arith, small))
  where
    few : (a q d : ℕ) → bytes ≤ a * d → a + 2 ≤ opened → d ≤ 64 * q → 56 ≤ q → opened * q ≤ used + open_lines → open_lines ≤ q + 4 → ⊥
    few a q d cover many wide large lines small =
        let one : a * d ≤ a * (64 * q) = mul-le-mul_left a wide in
        let turn : a * (64 * q) ≡ 64 * (a * q) = omega arith in
        let two : (a + 2) * q ≤ opened * q = mul-le-mul_right q many in
        let split : (a + 2) * q ≡ a * q + 2 * q = omega arith in
        by (a * q) (opened * q) (a * d) (a * (64 * q)) ((a + 2) * q) cover one turn two split lines
      where
        by : (aq oq ad aw pq : ℕ) → bytes ≤ ad → ad ≤ aw → aw ≡ 64 * aq → pq ≤ oq → pq ≡ aq + 2 * q → oq ≤ used + open_lines → ⊥
        by aq oq ad aw pq cover one turn two split lines = omega (arith, cover, one, turn, two, split, lines, within, small, large)

pub chunk_big : (l : Geometry) → IsLayout l → 4096 ≤ l.chunk_bytes
chunk_big l is = (numbers_of l is).size.0

-- a chunk has a block for each value that is not too long
pub needed_some : (l : Geometry) → 4096 ≤ l.chunk_bytes → (class : ℕ) (q : Request) → NeedsBlock l class q → 0 < blocks_in l class
needed_some l big class (Get k) N = absurd (let no_put = N.put in cc no_put)
needed_some l big class (Delete k) N = absurd (let no_put = N.put in cc no_put)
needed_some l big class (Put k v) N =
    let both = and_parts (has_class (length v) class) (leb (length v) (l.chunk_bytes / 4 - 8)) N.put in
    let short = leb-true (length v) (l.chunk_bytes / 4 - 8) both.1 in
    let parts = and_parts (leb 256 (length v) && leb (length v + 8) (256 * 2 ^ class)) ((class == 1) || ltb (128 * 2 ^ class) (length v + 8)) both.0 in
    by short (class == 1) refl (ltb (128 * 2 ^ class) (length v + 8)) refl parts.1 where
      some : 0 < 2 ^ class
      some = pow_pos class

      fits : 2 ^ class ≤ chunk_units l - 1 → 0 < blocks_in l class
      fits le = le-div 1 (chunk_units l - 1) (2 ^ class) some (omega (arith, le))

      by : length v ≤ l.chunk_bytes / 4 - 8 → (a : Bool) → (class == 1) ≡ a → (b : Bool) → ltb (128 * 2 ^ class) (length v + 8) ≡ b → (a || b) ≡ true → 0 < blocks_in l class
      by short true is b less h = fits (let two : 2 ^ class ≡ 2 = ap (λ e. 2 ^ e) (eqb-true class 1 is) in omega (arith, two, big))
      by short false is true less h = fits (let more = ltb-true (128 * 2 ^ class) (length v + 8) less in omega (arith, more, short, big, some))
      by short false is false less h = absurd (cc h)
