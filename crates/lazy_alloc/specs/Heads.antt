-- What heads say to an allocator.
use Rattle.std.specs.Prelude.{ℕ, Bool, false, Option, Some, None, Ok}
use Rattle.chunk_map.specs.declared.heads.Head.{Head}
pub use Rattle.chunk_map.specs.Chunks.{is_free, class_in}

-- the same of a head in a list, where there is the chunk
abbrev pub is_free_there : Option Head → Bool
is_free_there None = false
is_free_there (Some head) = is_free (Ok head)

abbrev pub class_there : Option Head → Option ℕ
class_there None = None
class_there (Some head) = class_in (Ok head)
