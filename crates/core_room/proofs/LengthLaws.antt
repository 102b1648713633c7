-- What a length needs: its class, and the lines of its entry.
use Rattle.std.proofs.Common.{◌≡◌, ◌⊎◌, inl, inr, ⊎_elim, ℕ, zero, suc, ◌+◌, ◌-◌, ◌*◌, ◌/◌, ◌%◌, ◌^◌, ◌<◌, ◌≤◌, refl, sym, ◌∙◌, ap, arith, ◌==◌, ◌&&◌, ◌||◌, true, false, cond, Bool, List, [], ◌∷◌, Option, Some, None, leb, ltb, nat_le, if◌then◌else◌}
use Rattle.std.specs.Prelude.{find, unwrap_or}
use Rattle.std.specs.List.{list_any}
use Rattle.std.proofs.Math.Nat.{pow-le-pow_right}
use Rattle.std.proofs.Math.Pow.{pow-lt}
use Rattle.std.proofs.lemmas.Nat.{pow-add}
use Rattle.std.proofs.lemmas.Bool.{eqb-true, and_parts, and_from, leb-true, le-leb, lt-leb, ltb-true, or_cases, cases_lt, cases_eq}
use Rattle.chunk_map.specs.declared.layouts.Geometry.{Geometry}
use Rattle.chunk_map.specs.Layouts.{IsLayout, is_chunk_size, is_class, has_class, numbers}
use Rattle.chunk_map.proofs.Clients.{numbers_of}
use Rattle.store_image.specs.Facts.{In}
use Rattle.store_image.proofs.Clients.{in_numbers}
use Rattle.core_room.specs.Lengths.{class_for}

-- what a class says of a length
pub record Fit (n class : ℕ) : Type 0 where
  pub long : 256 ≤ n
  pub fits : n + 8 ≤ 256 * 2 ^ class
  pub least : (class ≡ 1) ⊎ (128 * 2 ^ class < n + 8)

pub fit_of : (n class : ℕ) → has_class n class ≡ true → Fit n class
fit_of n class e =
    let outer = and_parts (leb 256 n && leb (n + 8) (256 * 2 ^ class)) ((class == 1) || ltb (128 * 2 ^ class) (n + 8)) e in
    let inner = and_parts (leb 256 n) (leb (n + 8) (256 * 2 ^ class)) outer.0 in
    record {
      long = leb-true 256 n inner.0;
      fits = leb-true (n + 8) (256 * 2 ^ class) inner.1;
      least = ⊎_elim (λ one. inl (eqb-true class 1 one)) (λ more. inr (ltb-true (128 * 2 ^ class) (n + 8) more)) (or_cases (class == 1) (ltb (128 * 2 ^ class) (n + 8)) outer.1);
    }

pub class_some : (n class : ℕ) → has_class n class ≡ true → 1 ≤ class
class_some n zero e = let f = fit_of n zero e in let a = f.long in let b = f.fits in absurd (omega (arith, a, b))
class_some n (suc c) e = omega arith

-- no length has two
below : (n c d : ℕ) → has_class n c ≡ true → has_class n d ≡ true → c < d → ⊥
below n c d ec ed lt =
    let fc = fit_of n c ec in
    let fd = fit_of n d ed in
    let some = class_some n c ec in
    let top = fc.fits in
    let up : 2 ^ (c + 1) ≤ 2 ^ d = pow-le-pow_right (omega arith) (omega (arith, lt)) in
    let twice : 2 ^ (c + 1) ≡ 2 ^ c * 2 = pow-add 2 c 1 in
    ⊎_elim (λ one. omega (arith, one, some, lt)) (λ more. omega (arith, more, up, twice, top)) fd.least

pub one_class : (n c d : ℕ) → has_class n c ≡ true → has_class n d ≡ true → c ≡ d
one_class n c d ec ed = ⊎_elim (λ lt. absurd (below n c d ec ed lt)) (λ ge. ⊎_elim (λ e. e) (λ ne. absurd (below n d c ed ec (omega (arith, ge, ne)))) (cases_eq c d)) (cases_lt c d)

find_none : (p : ℕ → Bool) (xs : List ℕ) → ((x : ℕ) → p x ≡ false) → find p xs ≡ None
find_none p [] none = refl
find_none p (x ∷ xs) none = ap (λ b. cond b (Some x) (find p xs)) (none x) ∙ find_none p xs none

find_one : (p : ℕ → Bool) (xs : List ℕ) (x : ℕ) → In x xs → p x ≡ true → ((y : ℕ) → p y ≡ true → y ≡ x) → find p xs ≡ Some x
find_one p [] x h e only = absurd h
find_one p (y ∷ ys) x h e only = by (p y) refl h (λ rest. find_one p ys x rest e only) where
  by : (b : Bool) → p y ≡ b → (x ≡ y) ⊎ In x ys → (In x ys → find p ys ≡ Some x) → cond b (Some y) (find p ys) ≡ Some x
  by true q k again = ap Some (only y q)
  by false q (inl is) again = absurd (let bad : true ≡ false = sym e ∙ ap p is ∙ q in cc bad)
  by false q (inr rest) again = again rest

pub class_for_short : (n : ℕ) → n < 256 → class_for n ≡ 0
class_for_short n lt = ap (λ o. unwrap_or o 0) (find_none (has_class n) (numbers 1 12) (λ c.
    ap (λ b. b && leb (n + 8) (256 * 2 ^ c) && ((c == 1) || ltb (128 * 2 ^ c) (n + 8))) (lt-leb 256 n lt)))

pub class_for_long : (n class : ℕ) → has_class n class ≡ true → class ≤ 12 → class_for n ≡ class
class_for_long n class e le = ap (λ o. unwrap_or o 0) (find_one (has_class n) (numbers 1 12) class (in_numbers 1 12 class (class_some n class e) (omega (arith, le))) e (λ y ey. one_class n y class ey e))

-- the bytes of a chunk are a power of two
kept : (b : Bool) (x : Option ℕ) (rule : ℕ) → (if b then x else Some rule) ≡ None → (b ≡ true) × (x ≡ None)
kept true x rule e = (refl, e)
kept false x rule e = absurd (cc e)

power_in : (n : ℕ) (es : List ℕ) → list_any (λ e. n == 2 ^ e) es ≡ true → (e : ℕ) × (n ≡ 2 ^ e)
power_in n [] is = absurd (cc is)
power_in n (e ∷ es) is = by (n == 2 ^ e) refl is (power_in n es) where
  by : (b : Bool) → (n == 2 ^ e) ≡ b → (b || list_any (λ e. n == 2 ^ e) es) ≡ true → (list_any (λ e. n == 2 ^ e) es ≡ true → (e : ℕ) × (n ≡ 2 ^ e)) → (e : ℕ) × (n ≡ 2 ^ e)
  by true q rest again = (e, eqb-true n (2 ^ e) q)
  by false q rest again = again rest

size_power : (l : Geometry) → IsLayout l → (e : ℕ) × (l.chunk_bytes ≡ 2 ^ e)
size_power l is =
    let one = kept (nat_le 1 l.cores && nat_le l.cores 16) _ 1 is in
    let two = kept (nat_le 1 l.group && nat_le l.group 8 && l.cores % l.group == 0) _ 2 one.1 in
    let three = kept (nat_le 4 l.chunks && nat_le l.chunks 64) _ 3 two.1 in
    let four = kept (is_chunk_size l.chunk_bytes) _ 4 three.1 in
    power_in l.chunk_bytes (12 ∷ 13 ∷ 14 ∷ 15 ∷ 16 ∷ 17 ∷ 18 ∷ 19 ∷ 20 ∷ 21 ∷ 22 ∷ []) four.0

is_class_from : (l : Geometry) (class : ℕ) → 1 ≤ class → class ≤ 12 → 1024 * 2 ^ class ≤ l.chunk_bytes → is_class l class ≡ true
is_class_from l class low high fits = and_from _ _ (and_from _ _ (le-leb 1 class low) (le-leb class 12 high)) (le-leb (1024 * 2 ^ class) l.chunk_bytes fits)

-- the class of a value that is not too long is one of the layout's
module _ (l : Geometry) (is : IsLayout l) (n class : ℕ) (short : n ≤ l.chunk_bytes / 4 - 8) (e : has_class n class ≡ true) where
  within : (x : ℕ) → l.chunk_bytes ≡ 2 ^ x → (class ≤ 12) × (1024 * 2 ^ class ≤ l.chunk_bytes)
  within x bytes =
      let f = fit_of n class e in
      let size = (numbers_of l is).size in
      let low = size.0 in
      let high = size.1 in
      let long = f.long in
      ⊎_elim (λ one.
      let two : 2 ^ class ≡ 2 = ap (λ c. 2 ^ c) one in
      (omega (arith, one), omega (arith, two, low))) (λ more.
      let nine : 2 ^ (class + 9) ≡ 2 ^ class * 512 = pow-add 2 class 9 in
      let ten : 2 ^ (class + 10) ≡ 2 ^ class * 1024 = pow-add 2 class 10 in
      ⊎_elim (λ lt.
      let up : 2 ^ (class + 10) ≤ 2 ^ x = pow-le-pow_right (omega arith) (omega (arith, lt)) in
      let few : x ≤ 22 = ⊎_elim (λ big. absurd (let p : 2 ^ 22 < 2 ^ x = pow-lt big in omega (arith, p, bytes, high))) (λ le. le) (cases_lt 22 x) in
      (omega (arith, lt, few), omega (arith, up, ten, bytes))) (λ ge.
      let up : 2 ^ x ≤ 2 ^ (class + 9) = pow-le-pow_right (omega arith) ge in
      absurd (omega (arith, up, nine, bytes, more, short, long))) (cases_lt (class + 9) x)) f.least

  both : (class ≤ 12) × (1024 * 2 ^ class ≤ l.chunk_bytes)
  both = let p = size_power l is in within p.0 p.1

  pub class_fits : is_class l class ≡ true
  class_fits = is_class_from l class (class_some n class e) both.0 both.1

  pub class_small : class ≤ 12
  class_small = both.0

-- a class of a length in the greatest bounds
pub class_twelve : (n class : ℕ) → n ≤ 1048568 → has_class n class ≡ true → class ≤ 12
class_twelve n class short e =
    let f = fit_of n class e in
    ⊎_elim (λ one. omega (arith, one)) (λ more. ⊎_elim (λ big.
    let up : 2 ^ 13 ≤ 2 ^ class = pow-le-pow_right (omega arith) (let le : 13 ≤ class = omega (arith, big) in le) in
    absurd (omega (arith, up, more, short))) (λ le. le) (cases_lt 12 class)) f.least

found : (p : ℕ → Bool) (xs : List ℕ) (c : ℕ) → find p xs ≡ Some c → p c ≡ true
found p [] c e = absurd (cc e)
found p (x ∷ xs) c e = by (p x) refl e (found p xs c) where
  by : (b : Bool) → p x ≡ b → cond b (Some x) (find p xs) ≡ Some c → (find p xs ≡ Some c → p c ≡ true) → p c ≡ true
  by true q h again = ap p (let same : x ≡ c = cc h in sym same) ∙ q
  by false q h again = again h

-- the class of a value that is not too long is none or one of the layout's
pub class_in_layout : (l : Geometry) → IsLayout l → (n : ℕ) → n ≤ l.chunk_bytes / 4 - 8 → (class_for n ≡ 0) ⊎ (is_class l (class_for n) ≡ true)
class_in_layout l is n short = by (find (has_class n) (numbers 1 12)) refl where
  by : (o : Option ℕ) → find (has_class n) (numbers 1 12) ≡ o → (unwrap_or o 0 ≡ 0) ⊎ (is_class l (unwrap_or o 0) ≡ true)
  by None e = inl refl
  by (Some c) e = inr (class_fits l is n c short (found (has_class n) (numbers 1 12) c e))

pub longest_small : (l : Geometry) → IsLayout l → (8 ≤ l.chunk_bytes / 4) × (l.chunk_bytes / 4 - 8 ≤ 1048568)
longest_small l is = let size = (numbers_of l is).size in let low = size.0 in let high = size.1 in (omega (arith, low), omega (arith, high))
