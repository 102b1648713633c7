-- The block of a staged change lies in the part, and shares no unit with another one.
use Rattle.std.proofs.Common.{◌≡◌, ◌≢◌, ◌⊎◌, inl, inr, ⊎_elim, ℕ, zero, suc, ◌+◌, ◌-◌, ◌*◌, ◌%◌, ◌^◌, ◌≤◌, ◌<◌, ◌==◌, ◌&&◌, ◌||◌, leb, ltb, cond, Bool, true, false, List, length, Some, None, unwrap_or, refl, sym, ◌∙◌, ap, subst, arith}
use Rattle.std.specs.Prelude.{find}
use Rattle.std.proofs.lemmas.Bool.{cases_eq, cases_lt, and_parts, leb-true}
use Rattle.std.proofs.Math.Nat.{mul-le-mul_left, pow-le-pow_right}
use Rattle.log_entry.specs.declared.entry.Entry.{Entry}
use Rattle.chunk_map.specs.declared.layouts.Geometry.{Geometry}
use Rattle.chunk_map.specs.Layouts.{numbers, has_class, is_class}
use Rattle.store_image.specs.Parts.{chunk_at, unit_at, chunk_units, is_start}
use Rattle.store_image.proofs.Clients.{Numbers, layout_numbers, chunk_of}
use Rattle.lazy_alloc.specs.Sets.{Sets, AreSets, chunk_class}
use Rattle.lazy_alloc.proofs.Clients.{lies_at}
use Rattle.group_laws.specs.Places.{Place, core_of, first_unit, units, LiesIn, GetsBlock}
use Rattle.group_laws.specs.MemberViews.{View}
use Rattle.group_board.specs.Conditions.{IsClearIn}
use Rattle.core_worker.specs.declared.worker.Worker.{Worker}
use Rattle.core_worker.specs.declared.types.Place.TheVariants.{Staged}
use Rattle.core_worker.specs.OwnPlaces.{place_at}
use Rattle.core_worker.specs.KeyTies.{IsBlockFor}
use Rattle.core_worker.specs.Posting.{IsStagedWith}
use Rattle.core_worker.specs.Ties.{Holds}
use Rattle.licence.proofs.Clients.{Start, numbers_of, apart, start_at}
use Rattle.core_worker.proofs.BlockStands.{staged_block}

-- the first number that passes is no greater than any that does
first_passing : (f : ℕ → Bool) (from n k : ℕ) → from ≤ k → k < from + n → f k ≡ true → unwrap_or (find f (numbers from n)) 13 ≤ k
first_passing f from zero k low high t = absurd (omega (arith, low, high))
first_passing f from (suc n) k low high t = elim (f from) as (λ b. f from ≡ b → unwrap_or (cond b (Some from) (find f (numbers (suc from) n))) 13 ≤ k) [
  | true ↦ λ e. low
  | false ↦ λ e. first_passing f (suc from) n k (elim (cases_eq from k) [ inl same ↦ absurd (let here = ap f same in cc (here, e, t)) | inr other ↦ omega (arith, low, other) ]) (omega (arith, high)) t
] refl

enough : (n class : ℕ) → 1 ≤ class → class ≤ 12 → has_class n class ≡ true → units n ≤ 2 ^ class
unfolding units
enough n class low high e =
    let outer = and_parts (leb 256 n && leb (n + 8) (256 * 2 ^ class)) ((class == 1) || ltb (128 * 2 ^ class) (n + 8)) e in
    let inner = and_parts (leb 256 n) (leb (n + 8) (256 * 2 ^ class)) outer.0 in
    pow-le-pow_right (omega arith) (first_passing (λ k. leb (n + 8) (256 * 2 ^ k)) 1 12 class low (omega (arith, high)) inner.1)

gets : (n class : ℕ) → class ≤ 12 → has_class n class ≡ true → GetsBlock n
gets n class high e =
    let outer = and_parts (leb 256 n && leb (n + 8) (256 * 2 ^ class)) ((class == 1) || ltb (128 * 2 ^ class) (n + 8)) e in
    let inner = and_parts (leb 256 n) (leb (n + 8) (256 * 2 ^ class)) outer.0 in
    let least = leb-true 256 n inner.0 in
    let most = leb-true (n + 8) (256 * 2 ^ class) inner.1 in
    let bound : 2 ^ class ≤ 2 ^ 12 = pow-le-pow_right (omega arith) high in
    let number : 2 ^ 12 ≡ 4096 = refl in
    (least, omega (arith, most, bound, number))

ends : (l : Geometry) (u k : ℕ) → is_start l k u ≡ true → u + 2 ^ k ≤ chunk_units l
ends l u k s = leb-true (u + 2 ^ k) (chunk_units l) (and_parts (leb 1 u && ((u - 1) % 2 ^ k == 0)) (leb (u + 2 ^ k) (chunk_units l)) s).1

bounds : (l : Geometry) (c : ℕ) → is_class l c ≡ true → (1 ≤ c) × (c ≤ 12)
bounds l c e =
    let inner = and_parts (leb 1 c) (leb c 12) (and_parts (leb 1 c && leb c 12) (leb (1024 * 2 ^ c) l.chunk_bytes) e).0 in
    (leb-true 1 c inner.0, leb-true c 12 inner.1)

-- two blocks of one part share no unit
apart_any : (l : Geometry) (is : Numbers l) (c q r k d : ℕ) → Start l c q k → Start l c r d → (chunk_of l q ≡ chunk_of l r → k ≡ d) → q ≢ r → (q + 2 ^ k ≤ r) ⊎ (r + 2 ^ d ≤ q)
apart_any l is c q r k d sq sr classes ne = ⊎_elim
    (λ same.
    let e = classes same in
    ⊎_elim (λ a. inl a) (λ b. inr (subst (λ (x : ℕ). r + 2 ^ x ≤ q) e b)) (apart l is c q r k sq (subst (Start l c r) (sym e) sr) same ne))
    (λ other.
    let a = numbers_of l is c q k sq in
    let b = numbers_of l is c r d sr in
    let ea = ends l (unit_at l q) k sq.start in
    let eb = ends l (unit_at l r) d sr.start in
    let pa = a.place in
    let pb = b.place in
    let na = a.number in
    let nb = b.number in
    ⊎_elim
    (λ less.
    let more : chunk_units l * (chunk_at l q + 1) ≤ chunk_units l * chunk_at l r = mul-le-mul_left (chunk_units l) (omega (arith, less)) in
    let one : chunk_units l * (chunk_at l q + 1) ≡ chunk_units l * chunk_at l q + chunk_units l = omega arith in
    inl (omega (arith, more, one, pa, pb, ea)))
    (λ ge.
    let strict : chunk_at l r < chunk_at l q = omega (arith, ge, other, na, nb) in
    let more : chunk_units l * (chunk_at l r + 1) ≤ chunk_units l * chunk_at l q = mul-le-mul_left (chunk_units l) (omega (arith, strict)) in
    let one : chunk_units l * (chunk_at l r + 1) ≡ chunk_units l * chunk_at l r + chunk_units l = omega arith in
    inr (omega (arith, more, one, pa, pb, eb)))
    (cases_lt (chunk_at l q) (chunk_at l r)))
    (cases_eq (chunk_of l q) (chunk_of l r))

lies_start : (p : Place) (m q k n : ℕ) → Numbers p.layout → Start p.layout (core_of p m) q k → units n ≤ 2 ^ k → LiesIn p m q (units n)
unfolding first_unit core_of
lies_start p m q class n is s few =
    let l = p.layout in
    let a = numbers_of l is (core_of p m) q class s in
    let top = ends l (unit_at l q) class s.start in
    let k : ℕ = p.group * l.group + m in
    let size : ℕ = chunk_units l in
    let rows = is.chunks in
    let within : chunk_at l q % l.chunks < l.chunks = omega (arith, rows) in
    let number : chunk_at l q ≡ k * l.chunks + chunk_at l q % l.chunks = a.number in
    let row : l.chunks * k + chunk_at l q % l.chunks ≡ chunk_at l q = omega (arith, number) in
    let below : size * (l.chunks * k) ≤ size * chunk_at l q = mul-le-mul_left size (omega (arith, row)) in
    let above : size * (chunk_at l q + 1) ≤ size * (l.chunks * k + l.chunks) = mul-le-mul_left size (omega (arith, row, within)) in
    let first : size * (l.chunks * k) ≡ k * (l.chunks * size) = omega arith in
    let next : size * (l.chunks * k + l.chunks) ≡ k * (l.chunks * size) + l.chunks * size = omega arith in
    let last : (p.group * l.group + (m + 1)) * (l.chunks * size) ≡ k * (l.chunks * size) + l.chunks * size = omega arith in
    let start = a.place in
    (omega (arith, below, first, start), omega (arith, above, next, last, start, top, few))

-- what an allocated block is, in the place's words
record Block_at (p : Place) (m : ℕ) (a : Sets) (q n : ℕ) : Type 0 where
  class : ℕ
  starts : Start p.layout (core_of p m) q class
  cut : chunk_class a (chunk_of p.layout q) ≡ Some class
  few : units n ≤ 2 ^ class
  gets : GetsBlock n

block_at : (p : Place) (m : ℕ) (a : Sets) → AreSets a → a.layout ≡ p.layout → a.part ≡ core_of p m → (q n : ℕ) → IsBlockFor a q n → Block_at p m a q n
block_at p m a are layout part q n is =
    let L = lies_at a q is.class are is.class_is in
    let range = bounds a.layout is.class (are.cut_in (chunk_of a.layout q) is.class L.class_is).1 in
    record {
      class = is.class;
      starts = subst (λ c. Start p.layout c q is.class) part (subst (λ l. Start l a.part q is.class) layout (start_at a q is.class is.class_is));
      cut = subst (λ (l : Geometry). chunk_class a (chunk_of l q) ≡ Some is.class) layout L.class_is;
      few = enough n is.class range.0 range.1 is.fits;
      gets = gets n is.class range.1 is.fits;
    }

pub clear_for : (p : Place) (m : ℕ) (v : View) (w : Worker) → Holds p m v w → (slot n q : ℕ) (e : Entry) (u : List ℕ) → place_at w.places.items slot ≡ Staged n e u → IsStagedWith (place_at w.places.items slot) q → GetsBlock (length u) × IsClearIn p m v q u
clear_for p m v w H slot n q e u was staged =
    let is = layout_numbers p.layout H.place.layout in
    let x = staged_block p m v w H slot n q e u was staged in
    let b = block_at p m w.allocator H.sets H.allocator_layout H.allocator_part q (length u) x.0 in (
      b.gets,
      (
        lies_start p m q b.class (length u) is b.starts b.few,
        λ r d has.
            let o = block_at p m w.allocator H.sets H.allocator_layout H.allocator_part r (length d.bytes) (H.blocks.held r d has) in
            let fb = b.few in
            let fo = o.few in
            ⊎_elim (λ lo. inl (omega (arith, lo, fb))) (λ hi. inr (omega (arith, hi, fo)))
            (apart_any p.layout is (core_of p m) q r b.class o.class b.starts o.starts
            (λ same. (let both : Some b.class ≡ Some o.class = sym b.cut ∙ ap (chunk_class w.allocator) same ∙ o.cut in cc both))
            (λ same. (let both : Some d ≡ None = sym has ∙ ap v.blocks (sym same) ∙ x.1 in cc both))),
      ),
    )
