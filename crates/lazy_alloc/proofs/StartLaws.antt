-- How many blocks a chunk holds.
use Rattle.std.proofs.Common.{◌≡◌, ℕ, zero, suc, ◌+◌, ◌-◌, ◌*◌, ◌/◌, ◌%◌, ◌^◌, ◌≤◌, ◌<◌, nat_le, Bool, true, false, cond, count_by, refl, ◌∙◌, ap, arith}
use Rattle.std.proofs.Math.Nat.{add-mul}
use Rattle.std.proofs.lemmas.Nat.{pow_pos, div-add-mod', mod-mul-add, mod_below}
use Rattle.std.proofs.lemmas.Bool.{eq-eqb, ne_eqb, le-leb, lt-leb, and_from, and_left, and_right}
use Rattle.chunk_map.specs.declared.layouts.Geometry.{Geometry}
use Rattle.chunk_map.specs.Layouts.{numbers}
use Rattle.store_image.specs.Parts.{chunk_units, is_start}
use Rattle.lazy_alloc.specs.Sets.{blocks_in}
use Rattle.lazy_alloc.proofs.CountLaws.{one, count_none, count_split}

module _ (l : Geometry) (c from : ℕ) (some : 1 ≤ chunk_units l) where
  w : ℕ
  w = 2 ^ c

  P : ℕ → Bool
  P q = is_start l c (q - from)

  at_start : (k q : ℕ) → q ≡ from + (1 + k * 2 ^ c) → 1 + k * 2 ^ c + 2 ^ c ≤ chunk_units l → is_start l c (q - from) ≡ true
  at_start k q e fits =
      let pos = pow_pos c in
      let t : q - from ≡ 1 + k * 2 ^ c = omega arith in
      let u : 1 + k * 2 ^ c - 1 ≡ k * 2 ^ c + 0 = omega arith in
      ap (is_start l c) t ∙ and_from _ _ (and_from _ _ (le-leb 1 (1 + k * 2 ^ c) (omega arith)) (eq-eqb ((1 + k * 2 ^ c - 1) % 2 ^ c) 0 (ap (λ (x : ℕ). x % 2 ^ c) u ∙ mod-mul-add k (2 ^ c) 0 pos))) (le-leb (1 + k * 2 ^ c + 2 ^ c) (chunk_units l) fits)

  between : (k r q : ℕ) → r < 2 ^ c → 1 ≤ r → q ≡ from + (1 + k * 2 ^ c + r) → is_start l c (q - from) ≡ false
  between k r q lt ge e =
      let t : q - from ≡ 1 + k * 2 ^ c + r = omega arith in
      let u : 1 + k * 2 ^ c + r - 1 ≡ k * 2 ^ c + r = omega arith in
      ap (is_start l c) t ∙ and_left _ _ (and_right (nat_le 1 (1 + k * 2 ^ c + r)) _ (ne_eqb ((1 + k * 2 ^ c + r - 1) % 2 ^ c) 0 (λ z. let rest = ap (λ (x : ℕ). x % 2 ^ c) u ∙ mod-mul-add k (2 ^ c) r lt in absurd (omega (arith, z, rest, ge)))))

  -- from one block to the next
  next_one : (k : ℕ) → 1 + k * 2 ^ c + 2 ^ c ≤ chunk_units l → (n : ℕ) → n ≡ 2 ^ c → count_by (λ q. is_start l c (q - from)) (numbers (from + (1 + k * 2 ^ c)) n) ≡ 1
  next_one k fits zero e = absurd (let pos = pow_pos c in omega (arith, pos, e))
  next_one k fits (suc n) e =
      let first : cond {A = ℕ} (is_start l c (from + (1 + k * 2 ^ c) - from)) 1 0 ≡ 1 = ap (λ (b : Bool). cond {A = ℕ} b 1 0) (at_start k (from + (1 + k * 2 ^ c)) refl fits) in
      let rest = count_none (λ q. is_start l c (q - from)) (suc (from + (1 + k * 2 ^ c))) n (λ q low high. between k (q - (from + (1 + k * 2 ^ c))) q (omega arith) (omega arith) (omega arith)) in
      let head = one (λ q. is_start l c (q - from)) (from + (1 + k * 2 ^ c)) n in
      omega (arith, first, rest, head)

  first_many : (k : ℕ) → k * 2 ^ c + 1 ≤ chunk_units l → count_by (λ q. is_start l c (q - from)) (numbers from (1 + k * 2 ^ c)) ≡ k
  first_many zero fits =
      let z : 1 + 0 * 2 ^ c ≡ suc 0 = omega arith in
      let first : cond {A = ℕ} (is_start l c (from - from)) 1 0 ≡ 0 = (let t : from - from ≡ 0 = omega arith in ap (λ (x : ℕ). cond {A = ℕ} (is_start l c x) 1 0) t) in
      let head = one (λ q. is_start l c (q - from)) from 0 in
      ap (λ (n : ℕ). count_by (λ q. is_start l c (q - from)) (numbers from n)) z ∙ omega (arith, first, head)
  first_many (suc k) fits =
      let next = add-mul k 1 (2 ^ c) in
      let e : 1 + suc k * 2 ^ c ≡ 1 + k * 2 ^ c + 2 ^ c = (let s : suc k ≡ k + 1 = omega arith in let t = ap (λ (x : ℕ). x * 2 ^ c) s in omega (arith, next, t)) in
      let before = first_many k (omega (arith, fits, e)) in
      let block = next_one k (omega (arith, fits, e)) (2 ^ c) refl in
      let split = count_split (λ q. is_start l c (q - from)) from (1 + k * 2 ^ c) (2 ^ c) in
      ap (λ (n : ℕ). count_by (λ q. is_start l c (q - from)) (numbers from n)) e ∙ (let z : count_by (λ q. is_start l c (q - from)) (numbers from (1 + k * 2 ^ c + 2 ^ c)) ≡ suc k = omega (arith, before, block, split) in z)

  pub count_starts : count_by (λ q. is_start l c (q - from)) (numbers from (chunk_units l)) ≡ blocks_in l c
  count_starts =
      let n = (chunk_units l - 1) / 2 ^ c in
      let whole = div-add-mod' (chunk_units l - 1) (2 ^ c) in
      let less = mod_below (chunk_units l - 1) (2 ^ c) (pow_pos c) in
      let before = first_many n (omega (arith, whole, some)) in
      let rest = chunk_units l - (1 + n * 2 ^ c) in
      let e : chunk_units l ≡ 1 + n * 2 ^ c + rest = omega (arith, whole, some) in
      let past = count_none (λ q. is_start l c (q - from)) (from + (1 + n * 2 ^ c)) rest (λ q low high. and_right _ (nat_le (q - from + 2 ^ c) (chunk_units l)) (lt-leb (q - from + 2 ^ c) (chunk_units l) (omega (arith, low, whole, less, some)))) in
      let split = count_split (λ q. is_start l c (q - from)) from (1 + n * 2 ^ c) rest in
      ap (λ (k : ℕ). count_by (λ q. is_start l c (q - from)) (numbers from k)) e ∙ (let z : count_by (λ q. is_start l c (q - from)) (numbers from (1 + n * 2 ^ c + rest)) ≡ n = omega (arith, before, past, split) in z)
