-- A journal of steps, and what it makes of a cell.
use Rattle.std.specs.Prelude.{◌≡◌, ◌⊎◌, ℕ, ◌+◌, ◌-◌, ◌^◌, ◌≤◌, ◌<◌, ◌&&◌, nat_le, min, Bool, true, List, [], ◌∷◌, ◌++◌, length, take, drop, vec_capacity}
use Rattle.pm_region.specs.State.{counted}
use Rattle.pm_region.specs.Cell.{Cell, store_at, flush_line, fence_range}
use Rattle.region_memory.specs.declared.step.Step.{Step}
use Rattle.region_memory.specs.declared.step.Step.TheVariants.{Store, Flush, Fence, Nothing}
use Rattle.region_memory.specs.declared.region_journal.Journal.{Journal}

-- what a step makes of the cell of a word
abbrev pub act : Step → ℕ → Cell → Cell
act (Store at value) w c = store_at at value w c
act (Flush line) w c = flush_line line w c
act (Fence first words) w c = fence_range first words w c
act Nothing w c = c

abbrev pub cell_after : List Step → ℕ → Cell → Cell
cell_after [] w c = c
cell_after (s ∷ ss) w c = cell_after ss w (act s w c)

-- the stamps that are told: from `since` to the limit
abbrev pub journal_told : Journal → ℕ → Bool
journal_told j t = nat_le j.since t && nat_le t j.limit

-- the steps up to a stamp
abbrev pub steps_to : Journal → ℕ → List Step
steps_to j t = take (j.base + (t - j.since)) j.steps.items

-- The next step was taken, and it is kept up to the limit.
pub record Records (old new : Journal) (step : Step) : Type 0 where
  pub base : new.base ≡ old.base
  pub since : new.since ≡ old.since
  pub limit : new.limit ≡ old.limit
  pub shares : new.shares ≡ old.shares
  pub later : old.stamp ≤ new.stamp
  pub stamp : new.stamp ≡ min (old.stamp + 1) (2 ^ 64 - 1)
  pub steps : ((new.steps.items ≡ old.steps.items) × (old.limit ≤ old.stamp))
      ⊎ ((new.steps.items ≡ old.steps.items ++ step ∷ []) × (old.stamp < old.limit))

-- It has every step, and the stamp isn't the last one.
pub record IsComplete (j : Journal) : Type 0 where
  pub kept : j.stamp ≤ j.limit
  pub below : j.stamp < 2 ^ 64 - 1

-- these steps make the same of the words from one to another
abbrev pub SameWithin : ℕ → ℕ → List Step → List Step → Type 0
SameWithin from end own steps = (w : ℕ) (c : Cell) → from ≤ w → w < end
    → cell_after own w c ≡ cell_after steps w c

-- It begins where the other one stands, for the words from one to another.
pub record GoesOnFrom (old : Journal) (from end : ℕ) (new : Journal) : Type 0 where
  pub steps : SameWithin from end new.steps.items old.steps.items
  pub base : new.base ≡ length new.steps.items
  pub since : new.since ≡ old.stamp
  pub stamp : new.stamp ≡ old.stamp
  pub limit : new.limit ≡ old.limit

-- It has the same steps and stands at the last stamp.
pub record Closed (old new : Journal) : Type 0 where
  pub steps : new.steps.items ≡ old.steps.items
  pub capacity : vec_capacity old.steps ≤ vec_capacity new.steps
  pub limit : new.limit ≡ old.limit
  pub since : new.since ≡ 2 ^ 64 - 1

-- It took the steps of a piece, and says whether it took all of them and the piece had all of them.
pub record Appends (old new piece : Journal) (taken : Bool) : Type 0 where
  pub limit : new.limit ≡ old.limit
  pub since : new.since ≡ old.since
  pub base : new.base ≡ length new.steps.items
  pub steps : taken ≡ true → new.steps.items ≡ old.steps.items ++ drop piece.base piece.steps.items
  pub complete : taken ≡ true → IsComplete piece
  pub capacity : vec_capacity old.steps ≤ vec_capacity new.steps
  pub fits : IsComplete piece → length old.steps.items + length (drop piece.base piece.steps.items)
      ≤ vec_capacity old.steps → taken ≡ true

-- A new moment, and the only one that is told, if any.
pub record Reopens (old new : Journal) (after : ℕ) (complete : Bool) : Type 0 where
  pub steps : new.steps.items ≡ old.steps.items
  pub limit : new.limit ≡ old.limit
  pub base : new.base ≡ length old.steps.items
  pub since : new.since ≡ new.stamp
  pub later : counted after ≤ new.stamp
  pub told : IsComplete new → complete ≡ true
  pub past : old.limit < counted after → new.stamp ≡ counted after
  pub next : complete ≡ true → length old.steps.items + (old.limit - counted after)
      ≤ vec_capacity old.steps → new.stamp ≡ counted after

-- the same steps, whatever the room for more
pub record SameSteps (old new : Journal) : Type 0 where
  pub steps : new.steps.items ≡ old.steps.items
  pub base : new.base ≡ old.base
  pub since : new.since ≡ old.since
  pub stamp : new.stamp ≡ old.stamp
  pub limit : new.limit ≡ old.limit
