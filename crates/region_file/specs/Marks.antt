-- A set of lines, by marks and by a list.
use Rattle.std.specs.Prelude.{◌≡◌, ℕ, ◌<◌, Bool, true, false, if◌then◌else◌, List, length, slice_index, slice_index_or}
use Rattle.std.specs.List.{sum_by}

-- one for a mark
abbrev pub one_if : Bool → ℕ
one_if b = if b then 1 else 0

-- how many are marked
abbrev pub marked_in : List Bool → ℕ
marked_in marks = sum_by one_if marks

abbrev pub is_marked : List Bool → ℕ → Bool
is_marked marks k = slice_index_or marks k false

abbrev pub IsUnlisted : List ℕ → ℕ → Type 0
IsUnlisted lines k = (j : ℕ) → j < length lines → slice_index lines j ≡ k → ⊥

-- the marked lines stand in the list, each once
pub record KeepsLines (marks : List Bool) (lines : List ℕ) : Type 0 where
  pub listed : (k : ℕ) → IsUnlisted lines k → is_marked marks k ≡ false
  pub marked : (j : ℕ) → j < length lines → is_marked marks (slice_index lines j) ≡ true
  pub once : length lines ≡ marked_in marks
