-- Keys that are as they were at the start, each by the entry of its last version: those with a value, and those that were deleted.
use Rattle.std.specs.Prelude.{ℕ, List, ◌++◌}
use Rattle.log_entry.specs.declared.entry.EntryName.{EntryName}
use Rattle.core_index.specs.declared.lone_keys.LoneKeys.{LoneKeys}
use Rattle.core_index.specs.Slots.{Place}
use Rattle.core_index.specs.Tombs.{Ahead, tomb_places}
use Rattle.core_index.specs.Lives.{placed_lives}

-- what the index keeps of them: a key with a value is there, whatever the list of deleted keys has of it
abbrev pub lones : LoneKeys → List (ℕ × Place)
lones a = placed_lives a.live ++ tomb_places a.deleted.items

-- The name is that of a deleted key's entry which its home was not asked about.
abbrev pub LoneAhead : LoneKeys → ℕ → EntryName → Type 0
LoneAhead a home n = Ahead a.deleted home n
