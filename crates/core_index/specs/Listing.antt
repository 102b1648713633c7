-- The live keys among those of the start.
use Rattle.std.specs.Prelude.{ℕ, List, [], ◌∷◌, ◌++◌, Option, Some, None, is_some, if◌then◌else◌}
use Rattle.log_entry.specs.declared.entry.EntryName.{EntryName}
use Rattle.core_index.specs.declared.types.LiveFate.{LiveFate}
use Rattle.core_index.specs.declared.types.LiveFate.TheVariants.{Stands, Gone, Moved}
use Rattle.core_index.specs.declared.types.LiveKey.{LiveKey}
use Rattle.core_index.specs.Slots.{Place}
use Rattle.core_index.specs.Lives.{entry_version, live_key}
use Rattle.core_index.specs.Index.{place_at, live_name}

abbrev pub version_by : LiveFate → ℕ → Option ℕ
version_by Stands v = Some v
version_by Gone v = Some v
version_by Moved v = None

-- the version of a live key that the map has no place for
abbrev pub version_left : List (ℕ × Place) → LiveKey → Option ℕ
version_left es x = if is_some (place_at es (live_key x)) then None else version_by x.fate (entry_version x)

-- their names, in the order of the list
abbrev pub start_names : List (ℕ × Place) → List LiveKey → List EntryName
start_names es [] = []
start_names es (x ∷ xs) = live_name (live_key x) (version_left es x) ++ start_names es xs
