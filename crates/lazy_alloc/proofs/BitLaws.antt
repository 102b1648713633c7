-- What is set of bits after one of them changes, and the lowest of them.
use Rattle.std.proofs.Common.{subst, ◌≡◌, ◌≢◌, ⊎_elim, ℕ, zero, suc, cond, count_by, ◌+◌, ◌-◌, ◌*◌, ◌/◌, ◌%◌, ◌^◌, ◌<◌, ◌≤◌, ◌==◌, ◌||◌, ◌&&◌, not, Bool, true, false, List, length, get_or, set, refl, sym, ◌∙◌, ap, arith, get_or-set_other, get_or-set_same}
use Rattle.std.proofs.lemmas.List.{get_or_read}
use Rattle.std.specs.Int.{w64, bit_at, trailing_zeros, trailing_ones}
use Rattle.std.specs.Int.RustNames.{bit_or}
use Rattle.std.specs.Int.Bits.{bit_and}
use Rattle.std.specs.Int.Count.{ones}
use Rattle.std.proofs.lemmas.Bool.{cases_eq, cases_lt, eq-eqb, ne_eqb, or_left, and_left, and_right}
use Rattle.std.proofs.Math.Nat.{mod-eq_of_lt}
use Rattle.std.proofs.lemmas.Nat.{and_le_l, div-add-mod', mod_below, pow_pos, shr_below, ones_cat}
use Rattle.std.proofs.lemmas.Nat.Bits.{bit_at_set_same, bit_at_set_other, bit_at_clear_same, bit_at_clear_other, bit_at-zero, bit_at-trailing_zeros, bit_at-trailing_ones, bit_at_ones, bit_at_above, shr_and_one, bit_at_cat_low, bit_at_cat_high, bit_at_lowest}
use Rattle.chunk_map.specs.Layouts.{numbers}
use Rattle.lazy_alloc.specs.Bits.{has, has_bit}
use Rattle.lazy_alloc.proofs.CountLaws.{count_same, count_more}

pub has_shifted : (n k : ℕ) → (bit_and (n / 2 ^ k) 1 == 1) ≡ has n k
unfolding has
has_shifted n k = ap (λ (x : ℕ). x == 1) (shr_and_one n k)

has_one : (n i : ℕ) → bit_at n i ≡ 1 → has n i ≡ true
unfolding has
has_one n i is = eq-eqb (bit_at n i) 1 is

has_zero : (n i : ℕ) → bit_at n i ≡ 0 → has n i ≡ false
unfolding has
has_zero n i is = ne_eqb (bit_at n i) 1 (λ one. absurd (omega (arith, is, one)))

has_same : (n m i j : ℕ) → bit_at n i ≡ bit_at m j → has n i ≡ has m j
unfolding has
has_same n m i j same = ap (λ (x : ℕ). x == 1) same

or_false : (a b : Bool) → a ≡ false → (a || b) ≡ b
or_false a b e = ap (λ (x : Bool). x || b) e

pub and_true : (a b : Bool) → b ≡ true → (a && b) ≡ a
and_true true b e = e
and_true false b e = refl

pub has_with : (n k : ℕ) → k < 64 → (i : ℕ) → has (bit_or n (1 * 2 ^ k % 18446744073709551616)) i ≡ (i == k || has n i)
has_with n k lt i = ⊎_elim here other (cases_eq i k)
  where
    here : i ≡ k → has (bit_or n (1 * 2 ^ k % 18446744073709551616)) i ≡ (i == k || has n i)
    here e = has_one _ i (ap (λ (x : ℕ). bit_at (bit_or n (1 * 2 ^ k % 18446744073709551616)) x) e ∙ bit_at_set_same w64 n k lt) ∙ sym (or_left (i == k) (has n i) (eq-eqb i k e))

    other : i ≢ k → has (bit_or n (1 * 2 ^ k % 18446744073709551616)) i ≡ (i == k || has n i)
    other ne = has_same _ n i i (bit_at_set_other w64 n k lt i ne) ∙ sym (or_false (i == k) (has n i) (ne_eqb i k ne))

pub has_high : (n i : ℕ) → n < 2 ^ 64 → 64 ≤ i → has n i ≡ false
has_high n i small ge = has_zero n i (bit_at_above n 64 i small ge)

pub has_without : (n k : ℕ) → n < 2 ^ 64 → k < 64 → (i : ℕ) → has (bit_and n (18446744073709551615 - 1 * 2 ^ k % 18446744073709551616)) i ≡ (has n i && not (i == k))
has_without n k small lt i = ⊎_elim here other (cases_eq i k)
  where
    here : i ≡ k → has (bit_and n (18446744073709551615 - 1 * 2 ^ k % 18446744073709551616)) i ≡ (has n i && not (i == k))
    here e = has_zero _ i (ap (λ (x : ℕ). bit_at (bit_and n (18446744073709551615 - 1 * 2 ^ k % 18446744073709551616)) x) e ∙ bit_at_clear_same w64 n k lt) ∙ sym (and_right (has n i) (not (i == k)) (ap not (eq-eqb i k e)))

    other : i ≢ k → has (bit_and n (18446744073709551615 - 1 * 2 ^ k % 18446744073709551616)) i ≡ (has n i && not (i == k))
    other ne = ⊎_elim
        (λ low. has_same _ n i i (bit_at_clear_other w64 n k lt i low ne) ∙ sym (and_true (has n i) (not (i == k)) (ap not (ne_eqb i k ne))))
        (λ high. has_high _ i (let le = and_le_l n (18446744073709551615 - 1 * 2 ^ k % 18446744073709551616) in omega (arith, le, small)) high ∙ sym (and_left (has n i) (not (i == k)) (has_high n i small high)))
        (cases_lt i 64)

pub lowest_zero : (n : ℕ) → n ≡ 0 → (i : ℕ) → has n i ≡ false
lowest_zero n is i = ap (λ (x : ℕ). has x i) is ∙ has_zero 0 i (bit_at-zero i)

pub lowest_is : (n : ℕ) → n < 2 ^ 64 → n ≢ 0 → (trailing_zeros w64 n < 64) × (has n (trailing_zeros w64 n) ≡ true) × ((i : ℕ) → i < trailing_zeros w64 n → has n i ≡ false)
lowest_is n small ne =
    let is = bit_at-trailing_zeros w64 n (omega arith) small in
    (is.0, has_one n (trailing_zeros w64 n) is.1, λ i lt. has_zero n i (is.2 i lt))

pub all_set : (n : ℕ) → n ≡ 18446744073709551615 → (i : ℕ) → i < 64 → has n i ≡ true
all_set n is i lt = ap (λ (x : ℕ). has x i) is ∙ has_one 18446744073709551615 i (bit_at_ones 64 i lt)

pub lowest_unset_is : (n : ℕ) → n < 2 ^ 64 → n ≢ 18446744073709551615 → (trailing_ones w64 n < 64) × (has n (trailing_ones w64 n) ≡ false) × ((i : ℕ) → i < trailing_ones w64 n → has n i ≡ true)
lowest_unset_is n small ne =
    let is = bit_at-trailing_ones w64 n (omega arith) in
    (is.0, has_zero n (trailing_ones w64 n) is.1, λ i lt. has_one n i (is.2 i lt))

-- a bit of a list is set by its word alone
pub has_bit_is : (words : List ℕ) (i : ℕ) → has_bit words i ≡ has (get_or words (i / 64) 0) (i % 64)
unfolding has_bit
has_bit_is words i = refl

-- one word changes at one bit
pub changed : (words : List ℕ) (at v : ℕ) (f : Bool → Bool → Bool) → at < 64 * length words → ((b : Bool) → f false b ≡ b)
    → ((i : ℕ) → has v i ≡ f (i == at % 64) (has (get_or words (at / 64) 0) i))
    → (i : ℕ) → has_bit (set words (at / 64) v) i ≡ f (i == at) (has_bit words i)
changed words at v f lt keeps is i = ⊎_elim same other (cases_eq (i / 64) (at / 64))
  where
    within : at / 64 < length words
    within = omega arith

    same : i / 64 ≡ at / 64 → has_bit (set words (at / 64) v) i ≡ f (i == at) (has_bit words i)
    same e =
        let read : get_or (set words (at / 64) v) (i / 64) 0 ≡ v = ap (λ (k : ℕ). get_or (set words (at / 64) v) k 0) e ∙ get_or-set_same words (at / 64) v 0 within in
        has_bit_is (set words (at / 64) v) i ∙ ap (λ (x : ℕ). has x (i % 64)) read ∙ is (i % 64)
        ∙ ap (λ (b : Bool). f b (has (get_or words (at / 64) 0) (i % 64))) (tests e)
        ∙ ap (λ (k : ℕ). f (i == at) (has (get_or words k 0) (i % 64))) (sym e) ∙ ap (f (i == at)) (sym (has_bit_is words i))
      where
        tests : i / 64 ≡ at / 64 → (i % 64 == at % 64) ≡ (i == at)
        tests e = ⊎_elim (λ q. eq-eqb (i % 64) (at % 64) q ∙ sym (eq-eqb i at (omega (arith, e, q)))) (λ q. ne_eqb (i % 64) (at % 64) q ∙ sym (ne_eqb i at (λ r. q (ap (λ (x : ℕ). x % 64) r)))) (cases_eq (i % 64) (at % 64))

    other : i / 64 ≢ at / 64 → has_bit (set words (at / 64) v) i ≡ f (i == at) (has_bit words i)
    other ne =
        has_bit_is (set words (at / 64) v) i ∙ ap (λ (x : ℕ). has x (i % 64)) (get_or-set_other words (at / 64) (i / 64) v 0 ne) ∙ sym (has_bit_is words i)
        ∙ sym (ap (λ (b : Bool). f b (has_bit words i)) (ne_eqb i at (λ r. ne (ap (λ (x : ℕ). x / 64) r))) ∙ keeps (has_bit words i))

-- the same where the word was read
pub changed_from : (words : List ℕ) (at v word : ℕ) (f : Bool → Bool → Bool) → word ≡ get_or words (at / 64) word → at < 64 * length words → ((b : Bool) → f false b ≡ b)
    → ((i : ℕ) → has v i ≡ f (i == at % 64) (has word i)) → (i : ℕ) → has_bit (set words (at / 64) v) i ≡ f (i == at) (has_bit words i)
changed_from words at v word f read lt keeps is =
    changed words at v f lt keeps (λ i. is i ∙ ap (λ (x : ℕ). f (i == at % 64) (has x i)) (get_or_read words (at / 64) word (omega arith) read 0))

-- a bit of the word at a place
pub bit_in : (words : List ℕ) (from i b word : ℕ) → word ≡ get_or words (from + i) 0 → b < 64 → has_bit words (64 * from + (64 * i + b)) ≡ has word b
bit_in words from i b word is lt =
    let at : (64 * from + (64 * i + b)) / 64 ≡ from + i = omega arith in
    let low : (64 * from + (64 * i + b)) % 64 ≡ b = omega arith in
    has_bit_is words (64 * from + (64 * i + b)) ∙ ap (λ (k : ℕ). has (get_or words k 0) ((64 * from + (64 * i + b)) % 64)) at ∙ ap (λ (w : ℕ). has w ((64 * from + (64 * i + b)) % 64)) (sym is) ∙ ap (has word) low

-- the bits of n words before and the first of the next word
pub more_set : (words : List ℕ) (from i n word : ℕ) → word ≡ get_or words (from + i) 0 → n ≤ 64 → ((b : ℕ) → b < n → has word b ≡ true)
    → ((k : ℕ) → k < 64 * i → has_bit words (64 * from + k) ≡ true) → (k : ℕ) → k < 64 * i + n → has_bit words (64 * from + k) ≡ true
more_set words from i n word is le set so_far k lt = ⊎_elim
    (λ low. so_far k low)
    (λ high.
    let b : ℕ = k - 64 * i in
    let e : 64 * from + k ≡ 64 * from + (64 * i + b) = omega arith in
    ap (has_bit words) e ∙ bit_in words from i b word is (omega arith) ∙ set b (omega arith))
    (cases_lt k (64 * i))

-- one bit, counted
one_bit : (a b : ℕ) → a < 2 → b ≡ a → cond {A = ℕ} (b == 1) 1 0 ≡ ones a
unfolding ones
one_bit zero b lt is = ap (λ (x : ℕ). cond {A = ℕ} (x == 1) 1 0) is
one_bit (suc zero) b lt is = ap (λ (x : ℕ). cond {A = ℕ} (x == 1) 1 0) is
one_bit (suc (suc a)) b lt is = absurd (omega (arith, lt))

-- so many of the lowest bits of a word are set as the word has ones
pub ones_counted : (k n : ℕ) → n < 2 ^ k → count_by (has n) (numbers 0 k) ≡ ones n
unfolding has ones
ones_counted zero n lt = let e : n ≡ 0 = omega (arith, lt) in sym (ap ones e)
ones_counted (suc k) n lt =
    let a = n / 2 ^ k in
    let r = n % 2 ^ k in
    let parts : a * 2 ^ k + r ≡ n = div-add-mod' n (2 ^ k) in
    let low : r < 2 ^ k = mod_below n (2 ^ k) (pow_pos k) in
    let next : 1 + k ≡ suc k = omega arith in
    let high : a < 2 ^ 1 = shr_below n 1 k (subst (λ (m : ℕ). n < 2 ^ m) (sym next) lt) in
    let rest = ones_counted k r low in
    let same = count_same (has n) (has r) 0 k (λ i from below. ap (λ (x : ℕ). x == 1) (ap (λ (x : ℕ). bit_at x i) (sym parts) ∙ bit_at_cat_low a k r i (omega (arith, below)))) in
    let last : suc k ≡ k + 1 = omega arith in
    let more = ap (λ (m : ℕ). count_by (has n) (numbers 0 m)) last ∙ count_more (has n) 0 k in
    let sum : ones n ≡ ones a + ones r = ap ones (sym parts) ∙ ones_cat k a r low in
    let at : bit_at n (0 + k) ≡ a = ap (λ (x : ℕ). bit_at x (0 + k)) (sym parts) ∙ bit_at_cat_high a k r (0 + k) low (omega arith) ∙ ap (bit_at a) (let e : 0 + k - k ≡ 0 = omega arith in e) ∙ bit_at_lowest a ∙ mod-eq_of_lt high in
    let top = one_bit a (bit_at n (0 + k)) high at in
    omega (arith, rest, same, more, sum, top)
