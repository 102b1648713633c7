-- The logs that an image has.
use Rattle.std.specs.Prelude.{◌≡◌, ℕ, nat_lt, List, [], ◌∷◌, Option, Some, None, Result, Ok, Err, if◌then◌else◌}
use Rattle.chunk_map.specs.declared.layouts.Geometry.{Geometry}
use Rattle.chunk_map.specs.declared.heads.Head.{Head}
use Rattle.chunk_map.specs.declared.heads.Head.TheVariants.{Free, Log, Data}
use Rattle.chunk_map.specs.Layouts.{chunk_first, head_at}
use Rattle.store_image.specs.Parts.{payload}
use Rattle.core_log.specs.declared.types.LogChunk.{LogChunk}
use Rattle.core_log.specs.Log.{LogState, IsOwn, Spelled, tail_of, chunk_with}
use Rattle.core_log.specs.Fresh.{IsEmptiest}
use Rattle.lazy_alloc.specs.Sets.{AreSets}
use Rattle.log_standing.specs.NameCounts.{floor_at}
use Rattle.recover.specs.Starts.{IsSpelledIndex}
use Rattle.recover.specs.OwnDead.{TellsOwn}
use Rattle.recover.specs.declared.types.CoreStart.{CoreStart}

abbrev pub tail_behind : Result Head ℕ → Option ℕ
tail_behind (Ok Free) = None
tail_behind (Ok (Log tail)) = Some tail
tail_behind (Ok (Data class)) = None
tail_behind (Err rule) = None

-- the tail of chunk j of a part, where the part has that chunk and it is a log
abbrev pub log_tail : Geometry → (ℕ → ℕ) → ℕ → ℕ → Option ℕ
log_tail l image c j = if nat_lt j l.chunks then tail_behind
    (head_at l image (chunk_first l c j)) else None

-- the chunk with its tail, where it has one
abbrev pub with_log : ℕ → Option ℕ → List LogChunk
with_log j None = []
with_log j (Some tail) = chunk_with j tail ∷ []

-- where the chunk is a log, its words up to the tail are a list of batches
abbrev pub SpellsLog : Geometry → (ℕ → ℕ) → ℕ → ℕ → Type 0
SpellsLog l image c j = (tail : ℕ) → head_at l image (chunk_first l c j) ≡ Ok (Log tail)
    → Spelled (payload image (chunk_first l c j) tail)

-- the log has exactly the part's Log chunks, with their tails
abbrev pub HasLogsOf : Geometry → (ℕ → ℕ) → ℕ → LogState → Type 0
HasLogsOf l image c log = (j : ℕ) → tail_of log.chunks j ≡ log_tail l image c j

-- The start of core c, whatever the region tells. The emptiest chunk of the log is the open one. Exactly the dead names of the core's own keys were told dead, where they stand in its log.
pub record IsStart (l : Geometry) (c : ℕ) (start : CoreStart) : Type 0 where
  pub core_is : start.core ≡ c
  pub layout_is : start.log.layout ≡ l
  pub part_is : start.log.part ≡ c
  pub own : IsOwn start.log
  pub sets : AreSets start.allocator
  pub allocator_layout : start.allocator.layout ≡ l
  pub allocator_part : start.allocator.part ≡ c
  pub spelled : IsSpelledIndex start.index
  pub opened : IsEmptiest start.log.chunks start.log.opened
  pub told : TellsOwn start.standing start.index
  pub settled : start.standing.settled ≡ None
  pub floors : (j : ℕ) → floor_at start.standing j ≡ None
