-- What each chunk of a core's part is: no chunk is lost between its allocator and its log, and none has two uses.
use Rattle.std.specs.Prelude.{◌≡◌, ◌⊎◌, ℕ, ◌<◌, true, false, List, None, is_some}
use Rattle.core_log.specs.declared.types.LogChunk.{LogChunk}
use Rattle.core_log.specs.Log.{tail_of}
use Rattle.lazy_alloc.specs.Sets.{Sets, chunk_is_free, chunk_class}

-- the allocator has the chunk: free, or cut into blocks
abbrev pub IsFreeOrData : Sets → ℕ → Type 0
IsFreeOrData a j = (chunk_is_free a j ≡ true) ⊎ (is_some (chunk_class a j) ≡ true)

-- it gave the chunk away: it is neither
abbrev pub IsTaken : Sets → ℕ → Type 0
IsTaken a j = (chunk_is_free a j ≡ false) × (chunk_class a j ≡ None)

-- it is the allocator's, and not the log's; or the log's, and not the allocator's
abbrev pub HasChunk : Sets → List LogChunk → ℕ → Type 0
HasChunk a cs j = (IsFreeOrData a j × (tail_of cs j ≡ None))
    ⊎ (IsTaken a j × (is_some (tail_of cs j) ≡ true))

-- each of the first n chunks is
abbrev pub AreChunks : ℕ → Sets → List LogChunk → Type 0
AreChunks n a cs = (j : ℕ) → j < n → HasChunk a cs j
