-- The slots of all keys, as their callers see them.
use Rattle.std.specs.Prelude.{ℕ, List}
use Rattle.std.specs.Ordering.{nat_cmp}
use Rattle.std.specs.FinMap.{entries, from_entries}
use Rattle.core_index.specs.Slots.{Place}

-- the keys with their slots, by rising key; of a key that stands twice the first counts
unfoldable pub by_key : List (ℕ × Place) → List (ℕ × Place)
by_key es = entries (from_entries {R = nat_cmp} es)

-- a map from keys to slots
pub record Slab : Type 0 where
  pub entries : List (ℕ × Place)
