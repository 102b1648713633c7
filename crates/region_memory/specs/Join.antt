-- What a history has taken of the pieces of a region.
use Rattle.std.specs.Prelude.{◌≡◌, Bool, true, ℕ, ◌+◌, ◌-◌, ◌≤◌, ◌<◌, ◌*◌, List, length, slice_index, slice_index_or, take, drop, vec_capacity}
use Rattle.pm_region.specs.Cell.{certain}
use Rattle.region_memory.specs.Journals.{cell_after, IsComplete}
use Rattle.region_memory.specs.Histories.{Outside}
use Rattle.region_memory.specs.Moves.{cell_of, IsUpToDate, IsPart}
use Rattle.region_memory.specs.declared.history.History.{History}

-- the piece at a place, at any default
abbrev pub at : {P : Type 0} → (P → History) → List P → ℕ → P → History
at part pieces j p = part (slice_index_or pieces j p)

pub record IsIn (h : History) (w : ℕ) : Type 0 where
  pub low : h.first ≤ w
  pub high : w < h.first + length h.words.items

-- each piece lies in the history, behind the one before, and began with the history's cells
pub record Fits {P : Type 0} (part : P → History) (h : History) (pieces : List P) : Type 0 where
  pub low : (j : ℕ) (p : P) → j < length pieces → h.first ≤ (at part pieces j p).first
  pub high : (j : ℕ) (p : P) → j < length pieces
      → (at part pieces j p).first + length (at part pieces j p).words.items ≤ h.first + length
      h.words.items
  pub apart : (i j : ℕ) (p : P) → i < j → j < length pieces
      → (at part pieces i p).first + length (at part pieces i p).words.items
      ≤ (at part pieces j p).first
  pub began : (j : ℕ) (p : P) (w : ℕ) → j < length pieces → IsComplete (at part pieces j p).journal
      → IsIn (at part pieces j p) w
      → cell_after (take (at part pieces j p).journal.base (at part pieces j p).journal.steps.items)
      w (certain (slice_index (at part pieces j p).start.items
      (w - (at part pieces j p).first))) ≡ cell_of h w

-- it knows all of the first n
pub record Knows {P : Type 0} (part : P → History) (old now : History) (pieces : List P) (n : ℕ) :
    Type 0 where
  pub complete : (j : ℕ) (p : P) → j < n → IsComplete (at part pieces j p).journal
  pub taken : (j : ℕ) (p : P) (w : ℕ) → j < n → IsIn (at part pieces j p) w
      → cell_of now w ≡ cell_of (at part pieces j p) w
  pub others : (w : ℕ) → ((j : ℕ) (p : P) → j < n
      → Outside (at part pieces j p).first (length (at part pieces j p).words.items) w)
      → cell_of now w ≡ cell_of old w
  pub up_to_date : IsUpToDate now

-- each of the first n is complete, and took at most so many steps
pub record IsShort {P : Type 0} (part : P → History) (pieces : List P) (n most : ℕ) : Type 0 where
  pub complete : (j : ℕ) (p : P) → j < n → IsComplete (at part pieces j p).journal
  pub steps : (j : ℕ) (p : P) → j < n
      → length (drop (at part pieces j p).journal.base (at part pieces j p).journal.steps.items)
      ≤ most

-- the steps of n pieces fit
pub record Fill (old now : History) (n most : ℕ) : Type 0 where
  pub steps : length now.journal.steps.items ≤ length old.journal.steps.items + n * most
  pub capacity : vec_capacity old.journal.steps ≤ vec_capacity now.journal.steps

-- it took the first n, and says whether it knows all of them
pub record HasTaken {P : Type 0} (part : P → History) (old now : History) (pieces : List P) (n : ℕ)
    (before whole : Bool) : Type 0 where
  pub first : now.first ≡ old.first
  pub start : now.start.items ≡ old.start.items
  pub same_length : length now.words.items ≡ length old.words.items
  pub since : now.journal.since ≡ old.journal.since
  pub limit : now.journal.limit ≡ old.journal.limit
  pub was : whole ≡ true → before ≡ true
  pub knows : whole ≡ true → Knows part old now pieces n
  pub fits : (most : ℕ) → before ≡ true → IsShort part pieces n most
      → length old.journal.steps.items + n * most ≤ vec_capacity old.journal.steps → (whole ≡ true)
      × Fill old now n most

-- the parts between cuts
pub record AreParts {P : Type 0} (part : P → History) (h : History) (cuts : List ℕ)
    (pieces : List P) (n : ℕ) : Type 0 where
  pub count : length pieces ≡ n
  pub each : (i : ℕ) (p : P) → i < n → IsPart h (slice_index cuts i) (slice_index cuts (i + 1))
      (at part pieces i p)
