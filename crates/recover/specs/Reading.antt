-- Where the parts of what was recovered lie.
use Rattle.std.specs.Prelude.{ℕ, ◌<◌, slice_index_or}
use Rattle.pm_region.specs.State.{Frame}
use Rattle.lazy_alloc.specs.Written.{PartLies}
use Rattle.recover.specs.declared.types.CoreStart.{CoreStart}
use Rattle.recover.specs.declared.types.Recovered.{Recovered}

-- the part of each core's allocator lies in the region's range
abbrev pub AllLie : Frame → Recovered → Type 0
AllLie f r = (c : ℕ) (d : CoreStart) → c < r.layout.cores
    → PartLies f (slice_index_or r.starts.items c d).allocator
