-- A chunk that is taken for a batch, and the batch in the open chunk.
use Rattle.std.specs.Prelude.{◌≡◌, ℕ, ◌+◌, Bool, true, false, List, length, Option, None}
use Rattle.core_log.specs.Log.{LogState, with_tail, open_number, open_tail}
use Rattle.lazy_alloc.specs.Sets.{Sets, TakesChunkOrNone}

-- the log whose open chunk has the batch more
abbrev pub appended_to : LogState → List ℕ → LogState
appended_to log batch = record log {
  chunks = with_tail log.chunks (open_number log)
      (open_tail log + length batch);
}

-- the lowest free chunk is taken, where one is needed
abbrev pub TakesChunkIf : Bool → Sets → Sets → Option ℕ → Type 0
TakesChunkIf true old new fresh = TakesChunkOrNone old new fresh
TakesChunkIf false old new fresh = (fresh ≡ None) × (new ≡ old)
