-- Chains of chunks, one for each class: by rising number, each linked to the next by its number.
use Rattle.std.specs.Prelude.{◌≡◌, ℕ, ◌+◌, ◌<◌, ◌≤◌, List, length, Bool, true, false, slice_index_or, Option, Some, None}

-- the least number from one on that is in, or none
abbrev pub LeastFrom : (ℕ → Bool) → ℕ → Option ℕ → Type 0
LeastFrom has from None = (k : ℕ) → from ≤ k → has k ≡ false
LeastFrom has from (Some k) = (from ≤ k) × (has k ≡ true)
    × ((i : ℕ) → from ≤ i → i < k → has i ≡ false)

abbrev pub link_at : List (Option ℕ) → ℕ → Option ℕ
link_at links i = slice_index_or links i None

-- The chain of each class begins at its least chunk, each chunk is linked to the next greater one, and no chunk is in two chains. `has` says which chunks are in a class's chain.
pub record IsLinked (firsts nexts : List (Option ℕ)) (has : ℕ → ℕ → Bool) : Type 0 where
  pub first : (c : ℕ) → c < length firsts → LeastFrom (has c) 0 (link_at firsts c)
  pub next : (c j : ℕ) → has c j ≡ true → LeastFrom (has c) (j + 1) (link_at nexts j)
  pub one : (c d j : ℕ) → has c j ≡ true → has d j ≡ true → c ≡ d
  pub within : (c j : ℕ) → has c j ≡ true → j < length nexts

-- a chunk is in no chain, in that of a class, or in some class's
pub record Lacks (firsts nexts : List (Option ℕ)) (j : ℕ) : Type 0 where
  pub has : ℕ → ℕ → Bool
  pub linked : IsLinked firsts nexts has
  pub lacks : (c : ℕ) → has c j ≡ false

pub record Holds (firsts nexts : List (Option ℕ)) (c j : ℕ) : Type 0 where
  pub has : ℕ → ℕ → Bool
  pub linked : IsLinked firsts nexts has
  pub holds : has c j ≡ true

pub record InSome (firsts nexts : List (Option ℕ)) (j : ℕ) : Type 0 where
  pub class : ℕ
  pub holds : Holds firsts nexts class j

-- one chunk more is in, and one less
pub record Adds (old new : ℕ → ℕ → Bool) (c j : ℕ) : Type 0 where
  pub was : (d : ℕ) → old d j ≡ false
  pub now : new c j ≡ true
  pub others : (d i : ℕ) → ((d ≡ c) × (i ≡ j) → ⊥) → new d i ≡ old d i

pub record Removes (old new : ℕ → ℕ → Bool) (c j : ℕ) : Type 0 where
  pub was : old c j ≡ true
  pub now : new c j ≡ false
  pub others : (d i : ℕ) → ((d ≡ c) × (i ≡ j) → ⊥) → new d i ≡ old d i

abbrev pub Same : (ℕ → ℕ → Bool) → (ℕ → ℕ → Bool) → Type 0
Same old new = (d i : ℕ) → new d i ≡ old d i
