-- A list of entries in the order of their names.
use Rattle.std.specs.Prelude.{◌≡◌, ℕ, ◌==◌, ◌&&◌, Bool, List, filter}
use Rattle.std.specs.List.Sorted.{IsSortedByKey}
use Rattle.store_image.specs.declared.types.PlacedEntry.{PlacedEntry}
use Rattle.recover.specs.Clashes.{name_cmp}

-- the key and the version
abbrev pub name_of : PlacedEntry → ℕ × ℕ
name_of x = (x.entry.key, x.entry.version)

abbrev pub is_named : ℕ → ℕ → PlacedEntry → Bool
is_named k v x = x.entry.key == k && x.entry.version == v

-- by rising key, and those of a key by rising version
abbrev pub IsInOrder : List PlacedEntry → Type 0
IsInOrder xs = IsSortedByKey name_of name_cmp xs

-- The entries of a list by their names. Those of one name stand in the order that they had.
pub record IsByName (es xs : List PlacedEntry) : Type 0 where
  pub same : (k v : ℕ) → filter (is_named k v) xs ≡ filter (is_named k v) es
  pub rising : IsInOrder xs
