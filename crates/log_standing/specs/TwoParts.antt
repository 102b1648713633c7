-- Names in two parts: a table that was made at the start, and a map of later ones.
use Rattle.std.specs.Prelude.{◌≡◌, ℕ, true, List, None, is_some}
use Rattle.log_standing.specs.declared.types.Copies.{Copies}
use Rattle.log_standing.specs.NameItems.{copies_among}

-- the names with what they have, and how many more there is room for
pub record NamesState : Type 0 where
  pub entries : List ((ℕ × ℕ) × Copies)
  pub spare : ℕ

-- no name is in both
abbrev pub AreApart : List ((ℕ × ℕ) × Copies) → List ((ℕ × ℕ) × Copies) → Type 0
AreApart table later = (k v : ℕ) → is_some (copies_among table k v) ≡ true
    → copies_among later k v ≡ None
