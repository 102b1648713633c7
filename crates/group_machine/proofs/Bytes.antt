-- Bytes, one by one.
use Rattle.std.proofs.Common.{ℕ, suc, ◌<◌, List, [], ◌∷◌, length, get_or, arith}
use Rattle.std.specs.List.{AllByRecursion}

pub each_byte : (xs : List ℕ) → ((k : ℕ) → k < length xs → get_or xs k 0 < 256) → AllByRecursion (λ b. b < 256) xs
each_byte [] h = tt
each_byte (x ∷ xs) h = (h 0 (omega arith), each_byte xs (λ k lt. h (suc k) (omega (arith, lt))))
