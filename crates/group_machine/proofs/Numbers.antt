-- Each word of a table has one number.
use Rattle.std.proofs.Common.{◌≡◌, ℕ, ◌+◌, ◌*◌, ◌<◌, inl, inr, arith, ap, sym}
use Rattle.std.proofs.Math.Nat.{mul-le-mul_left}
use Rattle.std.proofs.lemmas.Bool.{cases_lt}
use Rattle.group_board.specs.WordNumbers.{slot_word, mail_word}

pub slot_once : (n a s b t : ℕ) → s < 8 → t < 8 → slot_word n a s ≡ slot_word n b t → (a ≡ b) × (s ≡ t)
slot_once n a s b t i j e = (omega (arith, i, j, e), omega (arith, i, j, e))

pub not_both : {A : Type 0} (n a s c d : ℕ) → a < n → s < 8 → slot_word n a s ≡ mail_word n c d → A
not_both n a s c d i j e = absurd (omega (arith, i, j, e))

not_below : (n a b c d : ℕ) → b < n → n * a + b ≡ n * c + d → a < c → ⊥
not_below n a b c d low e less = let more = mul-le-mul_left {m = a + 1} {n = c} n (omega (arith, less)) in let one : n * (a + 1) ≡ n * a + n = omega arith in omega (arith, more, one, low, e)

same_row : (n a b c d : ℕ) → b < n → d < n → n * a + b ≡ n * c + d → a ≡ c
same_row n a b c d i j e = elim (cases_lt a c) [
  | inl less ↦ absurd (not_below n a b c d i e less)
  | inr more ↦ elim (cases_lt c a) [
    | inl less ↦ absurd (not_below n c d a b j (sym e) less)
    | inr same ↦ omega (arith, more, same)
  ]
]

pub mail_once : (n a b c d : ℕ) → b < n → d < n → mail_word n a b ≡ mail_word n c d → (a ≡ c) × (b ≡ d)
mail_once n a b c d i j e =
    let flat : n * a + b ≡ n * c + d = omega (arith, e) in
    let row = same_row n a b c d i j flat in
    (row, let same : n * a ≡ n * c = ap (λ (x : ℕ). n * x) row in omega (arith, flat, same))
