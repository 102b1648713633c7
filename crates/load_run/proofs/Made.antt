-- How many requests a load has, from a number on.
use Rattle.std.proofs.Common.{◌≡◌, ℕ, zero, suc, ◌+◌, length, refl, ap}
use Rattle.load_requests.specs.Generated.{requests_from}

pub made_long : (start first count : ℕ) → length (requests_from start first count) ≡ count
made_long start first zero = refl
made_long start first (suc n) = ap suc (made_long start (first + 1) n)
