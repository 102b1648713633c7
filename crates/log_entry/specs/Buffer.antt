-- A buffer of words, as its owner sees it.
use Rattle.std.specs.Prelude.{ℕ, List}

-- the words in it, and how many it has room for in all
pub record Buffer : Type 0 where
  pub words : List ℕ
  pub room : ℕ
