-- The cell that a record has.
use Rattle.std.specs.Prelude.{ℕ, List, Option, Some, None}
use Rattle.store_image.specs.Winners.{cell_by}
use Rattle.core_index.specs.Records.{KeyRecord}

-- by the blocks of a part; none without a record
abbrev pub cell_known : (ℕ → Option (List ℕ)) → Option KeyRecord → Option (List ℕ)
cell_known blocks None = None
cell_known blocks (Some r) = cell_by blocks r.body
