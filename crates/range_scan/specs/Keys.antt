-- Rising lists of keys, and how two of them are merged.
use Rattle.std.specs.Prelude.{◌≡◌, ℕ, ◌+◌, ◌<◌, ◌≤◌, ◌==◌, ◌||◌, ◌&&◌, Bool, true, List, [], length, Option, Some, None, if◌then◌else◌}
use Rattle.std.specs.List.{AllByRecursion, list_any}
use Rattle.store_image.specs.Listing.{IsRising}

abbrev pub has : List ℕ → ℕ → Bool
has keys k = list_any (λ j. j == k) keys

-- the keys of two lists, each once
pub record IsUnion (xs ys zs : List ℕ) : Type 0 where
  pub rising : IsRising zs
  pub each : (k : ℕ) → has zs k ≡ (has xs k || has ys k)

-- the least key of two rising lists, or none where both are empty
pub record IsLeast (xs ys : List ℕ) (m : ℕ) : Type 0 where
  pub there : (has xs m || has ys m) ≡ true
  pub low : AllByRecursion (λ x. m ≤ x) xs × AllByRecursion (λ y. m ≤ y) ys

abbrev pub IsFirst : List ℕ → List ℕ → Option ℕ → Type 0
IsFirst xs ys None = (xs ≡ []) × (ys ≡ [])
IsFirst xs ys (Some m) = IsLeast xs ys m

-- the keys of a rising list behind one that none is below
pub record IsBehind (xs : List ℕ) (m : ℕ) (rest : List ℕ) : Type 0 where
  pub rising : IsRising rest
  pub above : AllByRecursion (λ x. m < x) rest
  pub each : (k : ℕ) → has xs k ≡ ((m == k && has xs m) || has rest k)
  pub shorter : length rest + (if has xs m then 1 else 0) ≡ length xs
