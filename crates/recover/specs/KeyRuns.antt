-- The entries of one key, where they stand in a list by names.
use Rattle.std.specs.Prelude.{◌≡◌, ◌≢◌, ℕ, ◌<◌, ◌≤◌, List, length, slice_index_or}
use Rattle.recover.specs.declared.found_entries.Found.{Found}
use Rattle.recover.specs.declared.key_runs.KeyRun.{KeyRun}

-- those of the key that stands at a place are all up to the end; the winner is the first of the greatest version
pub record IsRun (fs : List Found) (at : ℕ) (r : KeyRun) : Type 0 where
  pub low : at ≤ r.winner
  pub high : r.winner < r.end
  pub end : r.end ≤ length fs
  pub same : (i : ℕ) (d : Found) → at ≤ i → i < r.end
      → (slice_index_or fs i d).key ≡ (slice_index_or fs at d).key
  pub other : (d : Found) → r.end < length fs
      → (slice_index_or fs r.end d).key ≢ (slice_index_or fs at d).key
  pub newest : (i : ℕ) (d : Found) → r.winner ≤ i → i < r.end
      → (slice_index_or fs i d).version ≡ (slice_index_or fs r.winner d).version
  pub first : (i : ℕ) (d : Found) → at ≤ i → i < r.winner
      → (slice_index_or fs i d).version < (slice_index_or fs r.winner d).version
