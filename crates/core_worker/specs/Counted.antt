-- Where a batch goes: the names that it adds are counted.
use Rattle.std.specs.Prelude.{◌≡◌, ℕ, ◌<◌, true, is_some, Option, Some, None}
use Rattle.core_log.specs.Log.{LogState, tail_of}

-- a chunk is open, or this one of the part may be opened
abbrev pub MayOpen : LogState → Option ℕ → Type 0
MayOpen log None = is_some log.opened ≡ true
MayOpen log (Some j) = (j < log.layout.chunks) × (tail_of log.chunks j ≡ None)
