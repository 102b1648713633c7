-- A log as it is opened: which of its chunks is the open one.
use Rattle.std.specs.Prelude.{◌≡◌, ◌⊎◌, ℕ, ◌<◌, ◌≤◌, nat_lt, List, [], ◌∷◌, Option, Some, None, if◌then◌else◌}
use Rattle.core_log.specs.declared.types.LogChunk.{LogChunk}
use Rattle.core_log.specs.Log.{tail_of, with_tail}

-- no chunk stands twice
abbrev pub HasEachOnce : List LogChunk → Type 0
HasEachOnce [] = Unit {0}
HasEachOnce (c ∷ cs) = (tail_of cs c.chunk ≡ None) × HasEachOnce cs

-- the chunk with most free lines, and the lowest number among equals; none where there is no chunk
abbrev pub IsEmptiest : List LogChunk → Option ℕ → Type 0
IsEmptiest cs None = (j : ℕ) → tail_of cs j ≡ None
IsEmptiest cs (Some k) = (tail : ℕ) × (tail_of cs k ≡ Some tail)
    × ((j other : ℕ) → tail_of cs j ≡ Some other → (tail < other) ⊎ ((tail ≡ other) × (k ≤ j)))

-- the chunks set in a rising list, one after another
abbrev pub all_set : List LogChunk → List LogChunk → List LogChunk
all_set [] kept = kept
all_set (c ∷ cs) kept = all_set cs (with_tail kept c.chunk c.tail)

-- the first chunk of least tail
abbrev pub least : LogChunk → List LogChunk → LogChunk
least best [] = best
least best (c ∷ cs) = if nat_lt c.tail best.tail then least c cs else least best cs

abbrev pub emptiest : List LogChunk → Option ℕ
emptiest [] = None
emptiest (c ∷ cs) = Some (least c (c ∷ cs)).chunk
