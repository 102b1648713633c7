-- What a worker plans for a request, and why it refuses one.
use Rattle.std.specs.Prelude.{◌≡◌, ℕ, ◌+◌, ◌^◌, ◌<◌, ◌≤◌, Bool, true, false, List, length, Option, Some, None, is_some}
use Rattle.std.specs.List.{AllByRecursion}
use Rattle.chunk_map.specs.declared.layout_sizes.TheConstants.{SHORTEST_IN_BLOCK}
use Rattle.fs_model.specs.declared.model.Request.{Request}
use Rattle.fs_model.specs.declared.model.Request.TheVariants as requests
use Rattle.fs_model.specs.Cells.{key_of}
use Rattle.log_entry.specs.Words.{byte_range}
use Rattle.core_index.specs.Index.{known_at}
use Rattle.core_index.specs.Records.{last_of, live_version}
use Rattle.core_room.specs.declared.types.Shortage.{Shortage}
use Rattle.core_room.specs.Lengths.{class_for, lines_needed}
use Rattle.core_room.specs.RoomRule.{may_cut}
use Rattle.core_worker.specs.declared.types.Plan.{Plan}
use Rattle.core_worker.specs.declared.types.Plan.TheVariants.{Get, Absent, PutBeside, PutInBlock, Delete}
use Rattle.core_worker.specs.declared.worker.Worker.{Worker}
use Rattle.core_worker.specs.Supplies.{supply_of, why, why_put, lacks}

abbrev pub last_version : Worker → ℕ → ℕ
last_version w k = last_of (known_at w.index k)

-- whether the key has a value
abbrev pub has_value : Worker → ℕ → Bool
has_value w k = is_some (live_version (known_at w.index k))

-- whether the request may become a change
abbrev pub may_stage : Worker → Request → Bool
may_stage w (requests.Put k value) = true
may_stage w (requests.Get k) = false
may_stage w (requests.Delete k) = has_value w k

-- a key that has a value has a number left for its delete
abbrev pub HasVersionLeft : Worker → ℕ → Type 0
HasVersionLeft w k = has_value w k ≡ true → last_version w k + 1 < 2 ^ 32

-- The worker refuses the request, and this is why, by each cell that its key may have.
abbrev pub IsCauseOf : Worker → Request → Shortage → Type 0
IsCauseOf w r shortage = (cell : Option (List ℕ)) → is_some cell ≡ has_value w (key_of r)
    → why w.layout (supply_of w) w.allocator (last_version w (key_of r)) cell r ≡ Some shortage

-- A put is not refused, and its value stands beside its key.
pub record PutsBeside (w : Worker) (key : ℕ) (value : List ℕ) (version : ℕ) : Type 0 where
  pub unrefused : why_put w.layout (supply_of w) w.allocator (last_version w key) (length value)
      ≡ None
  pub version_is : version ≡ last_version w key + 1
  pub short : length value < SHORTEST_IN_BLOCK
  pub bytes : AllByRecursion (λ b. b < byte_range) value

-- A put is not refused, and its value gets a block of the class, for which a chunk may be cut or not.
pub record PutsInBlock (w : Worker) (key : ℕ) (value : List ℕ) (version class : ℕ)
    (cuts : Bool) : Type 0 where
  pub unrefused : why_put w.layout (supply_of w) w.allocator (last_version w key) (length value)
      ≡ None
  pub version_is : version ≡ last_version w key + 1
  pub long : SHORTEST_IN_BLOCK ≤ length value
  pub class_is : class ≡ class_for (length value)
  pub cuts_is : cuts ≡ may_cut (supply_of w) (lines_needed (length value))

-- A delete of a key that has a value is not refused.
pub record Deletes (w : Worker) (key version : ℕ) : Type 0 where
  pub unrefused : lacks (supply_of w) w.allocator 1 0 ≡ None
  pub version_is : version ≡ last_version w key + 1
  pub live : has_value w key ≡ true

-- The worker does not refuse the request, and this is what it is to do for it.
abbrev pub IsPlanOf : Worker → Request → Plan → Type 0
IsPlanOf w r (Get key) = r ≡ requests.Get key
IsPlanOf w r Absent = (r ≡ requests.Delete (key_of r)) × (has_value w (key_of r) ≡ false)
IsPlanOf w r (PutBeside key value version) = (r ≡ requests.Put key value)
    × PutsBeside w key value version
IsPlanOf w r (PutInBlock key value version class cuts) = (r ≡ requests.Put key value)
    × PutsInBlock w key value version class cuts
IsPlanOf w r (Delete key version) = (r ≡ requests.Delete key) × Deletes w key version
