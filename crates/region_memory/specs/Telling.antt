-- Which stamps a region in memory tells.
use Rattle.std.specs.Prelude.{◌↔◌, ℕ, ◌-◌, ◌^◌, ◌≤◌, ◌<◌}
use Rattle.pm_region.specs.State.{State, IsTold}

-- It tells exactly the stamps since the last attach, create, split or join that are at most its number of steps, have
-- been reached and aren't the last one.
abbrev pub TellsUpTo : ℕ → State → Type 0
TellsUpTo steps s = (t : ℕ) → IsTold s t ↔ ((s.frame.since ≤ t) × (t ≤ s.stamp) × (t ≤ steps)
    × (t < 2 ^ 64 - 1))
