-- Where a chunk stands, or would stand, in a rising list.
use Rattle.std.specs.Prelude.{ℕ, ◌+◌, nat_le, List, [], ◌∷◌, if◌then◌else◌}
use Rattle.core_log.specs.declared.types.LogChunk.{LogChunk}

abbrev pub place_of : List LogChunk → ℕ → ℕ
place_of [] j = 0
place_of (c ∷ cs) j = if nat_le j c.chunk then 0 else place_of cs j + 1
