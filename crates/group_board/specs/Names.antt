-- A list of names, as its owner sees it.
use Rattle.std.specs.Prelude.{ℕ, List}
use Rattle.log_entry.specs.declared.entry.EntryName.{EntryName}

-- the names in order, and how many there is room for in all
pub record NameList : Type 0 where
  pub names : List EntryName
  pub room : ℕ
