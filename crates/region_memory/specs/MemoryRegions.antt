-- What a region in memory and its pieces say of themselves, by the counts and the plan of their calls.
use Rattle.std.specs.Prelude.{◌≡◌, ℕ, ◌<◌, List, length, slice_index_or}
use Rattle.pm_region.specs.State.{State}
use Rattle.region_memory.specs.Plans.{FaultCounts, Plan, Calls, piece_calls}
use Rattle.region_memory.specs.Volumes.{volume_state, part_state, found_in, limit_of}
use Rattle.region_memory.specs.declared.memory_piece.MemoryPiece.{MemoryPiece}
use Rattle.region_memory.specs.declared.memory_region.MemoryRegion.{MemoryRegion}

abbrev pub piece_state : {P : Type 0} → (P → FaultCounts) → MemoryPiece P → State
piece_state counts p = part_state p.history (counts p.counts).faults

abbrev pub state_of : {P : Type 0} → (P → FaultCounts) → MemoryRegion P → State
state_of counts r = volume_state r.volume (counts r.counts).refusals (counts r.counts).faults

-- which of its fences are to fail, and how many it made
abbrev pub piece_plan : {P : Type 0} → (P → Plan) → MemoryPiece P → Calls
piece_plan plan p = (plan p.counts).fences

-- which of its calls are to fail, and how many it made
abbrev pub plan_of : {P : Type 0} → (P → Plan) → MemoryRegion P → Plan
plan_of plan r = plan r.counts

-- each piece of a split has its part of the plan
abbrev pub HaveTheirPlans : {P : Type 0} → (P → Plan) → Plan → List (MemoryPiece P) → Type 0
HaveTheirPlans plan whole pieces = (i : ℕ) (p : _) → i < length pieces
    → piece_plan plan (slice_index_or pieces i p) ≡ piece_calls whole i

-- the words that an attach finds
abbrev pub found_of : {P : Type 0} → MemoryRegion P → ℕ → ℕ
found_of r w = found_in r.volume w

-- how many steps it has room for: the last stamp that it may tell
abbrev pub steps_of : {P : Type 0} → MemoryRegion P → ℕ
steps_of r = limit_of r.volume

-- Each of the first n pieces begins at the region's count, has made no fence, and fails by the plan of its number.
pub record ArePlanned {P : Type 0} (counts : P → FaultCounts) (plan : P → Plan) (whole : P)
    (pieces : List (MemoryPiece P)) (n : ℕ) : Type 0 where
  pub count : length pieces ≡ n
  pub faults : (i : ℕ) (p : MemoryPiece P) → i < n
      → (counts (slice_index_or pieces i p).counts).faults ≡ (counts whole).faults
  pub plans : (i : ℕ) (p : MemoryPiece P) → i < n
      → piece_plan plan (slice_index_or pieces i p) ≡ piece_calls (plan whole) i
