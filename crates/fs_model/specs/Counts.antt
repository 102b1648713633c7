-- Counts of faults, and other counts that never fall.
use Rattle.std.specs.Prelude.{ℕ, ◌+◌, ◌-◌, ◌^◌, ◌≤◌, min}

-- a count after one more: it stands still at the last value of its type
abbrev pub counted : ℕ → ℕ
counted before = min (before + 1) (2 ^ 64 - 1)

-- A count rose, or stands at its last value. (It doesn't say that it didn't fall: a ghost number has no last value.)
abbrev pub Rose : ℕ → ℕ → Type 0
Rose before now = counted before ≤ now
