-- Amounts that stand by the number of a chunk.
use Rattle.std.proofs.Common.{◌≡◌, ℕ, zero, suc, Option, None, replicate, get_or, refl}
use Rattle.log_standing.specs.declared.types.Amount.{Amount}

pub none_yet : (n j : ℕ) → get_or (replicate {A = Option Amount} n None) j None ≡ None
none_yet zero j = refl
none_yet (suc n) zero = refl
none_yet (suc n) (suc j) = none_yet n j
