-- The least class that has room for a value.
use Rattle.std.proofs.Common.{◌≡◌, ◌⊎◌, inr, ⊎_elim, ℕ, ◌+◌, ◌*◌, ◌^◌, ◌≤◌, ◌<◌, ◌==◌, true, false, nat_lt, arith}
use Rattle.std.proofs.lemmas.Bool.{cases_lt, both_ways, and_from, or_left, or_right, le-leb, lt-ltb, eq-eqb}
use Rattle.std.proofs.lemmas.Nat.{pow-add}
use Rattle.chunk_map.specs.Layouts.{has_class}

pub fits_class : (n c : ℕ) → 256 ≤ n → n + 8 ≤ 256 * 2 ^ c → (c ≡ 1) ⊎ (128 * 2 ^ c < n + 8) → has_class n c ≡ true
fits_class n c long fits least =
    and_from _ _ (and_from _ _ (le-leb 256 n long) (le-leb (n + 8) (256 * 2 ^ c) fits))
    (⊎_elim (λ one. or_left (c == 1) (nat_lt (128 * 2 ^ c) (n + 8)) (eq-eqb c 1 one)) (λ lt. or_right (c == 1) (nat_lt (128 * 2 ^ c) (n + 8)) (lt-ltb (128 * 2 ^ c) (n + 8) lt)) least)

pub next_class : (n c : ℕ) → 256 ≤ n → has_class n c ≡ false → (c ≡ 1) ⊎ (128 * 2 ^ c < n + 8) → (c + 1 ≡ 1) ⊎ (128 * 2 ^ (c + 1) < n + 8)
next_class n c long off least = ⊎_elim
    (λ lt. inr (let e = pow-add 2 c 1 in omega (arith, e, lt)))
    (λ ge. absurd (both_ways (has_class n c) off (fits_class n c long ge least)))
    (cases_lt (256 * 2 ^ c) (n + 8))
