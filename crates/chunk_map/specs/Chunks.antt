-- What the head of a chunk says of its free room.
use Rattle.std.specs.Prelude.{ℕ, ◌-◌, ◌/◌, ◌^◌, Bool, true, false, Option, Some, None, Result, Ok, Err}
use Rattle.chunk_map.specs.declared.layout_sizes.TheConstants.{UNIT_BYTES}
use Rattle.chunk_map.specs.declared.layouts.Geometry.{Geometry}
use Rattle.chunk_map.specs.declared.heads.Head.{Head}
use Rattle.chunk_map.specs.declared.heads.Head.TheVariants.{Free, Log, Data}

-- the chunk is free, by its head or by the rule that this breaks
abbrev pub is_free : Result Head ℕ → Bool
is_free (Ok Free) = true
is_free (Ok (Log tail)) = false
is_free (Ok (Data class)) = false
is_free (Err rule) = false

-- the class of the blocks into which it is cut
abbrev pub class_in : Result Head ℕ → Option ℕ
class_in (Ok Free) = None
class_in (Ok (Log tail)) = None
class_in (Ok (Data class)) = Some class
class_in (Err rule) = None

-- how many units a chunk has
abbrev pub chunk_units : Geometry → ℕ
chunk_units l = l.chunk_bytes / UNIT_BYTES

-- how many blocks of a class a chunk holds: all but its first unit, which has the head
abbrev pub blocks_in : Geometry → ℕ → ℕ
blocks_in l class = (chunk_units l - 1) / 2 ^ class
