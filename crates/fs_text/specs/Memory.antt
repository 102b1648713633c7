-- What a sink of memory holds.
use Rattle.std.specs.Prelude.{ℕ, List, Option}

-- the bytes taken, where no more came than there was room for
pub record Kept : Type 0 where
  pub bytes : Option (List ℕ)
  pub room : ℕ
