-- The keys that have a value by the indexes of the cores.
use Rattle.std.specs.Prelude.{◌≡◌, ℕ, List, Bool, is_some}
use Rattle.std.specs.List.{list_any}
use Rattle.store_image.specs.Listing.{IsRising}
use Rattle.core_index.specs.Records.{live_version}
use Rattle.core_index.specs.Index.{known_at}
use Rattle.core_index.specs.Slots.{Place}
use Rattle.recover.specs.declared.types.CoreStart.{CoreStart}
use Rattle.range_scan.specs.Keys.{has}

-- those of one index, rising
pub record AreLiveIn (index : List (ℕ × Place)) (keys : List ℕ) : Type 0 where
  pub rising : IsRising keys
  pub each : (k : ℕ) → has keys k ≡ is_some (live_version (known_at index k))

-- the key has a value by the index of this core
abbrev pub is_live : ℕ → CoreStart → Bool
is_live k start = is_some (live_version (known_at start.index k))

-- those of some cores, rising
pub record AreLiveKeys (starts : List CoreStart) (keys : List ℕ) : Type 0 where
  pub rising : IsRising keys
  pub each : (k : ℕ) → has keys k ≡ list_any (is_live k) starts
