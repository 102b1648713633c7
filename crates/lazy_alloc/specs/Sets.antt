-- The allocator of one part as its callers see it: which chunks are free, which are cut into blocks, and which blocks are allocated.
use Rattle.std.specs.Prelude.{◌≡◌, ◌⊎◌, ℕ, ◌+◌, ◌-◌, ◌*◌, ◌/◌, ◌%◌, ◌<◌, ◌==◌, ◌&&◌, ◌||◌, not, nat_le, List, Bool, true, false, slice_get, Option, Some, None, is_none, if◌then◌else◌, count_by}
use Rattle.std.specs.Option.{option_map_or, option_and_then}
use Rattle.chunk_map.specs.declared.layouts.Geometry.{Geometry}
pub use Rattle.chunk_map.specs.Chunks.{blocks_in}
use Rattle.chunk_map.specs.Layouts.{numbers, is_class}
use Rattle.store_image.specs.Parts.{chunk_units, chunk_at, unit_at, is_start}
use Rattle.chunk_map.specs.declared.layout_sizes.TheConstants.{FIRST_UNIT}

-- Chunks are numbered in their part from 0. A pointer is the number of a block's first byte in the region divided by 256.
pub record Chunk : Type 0 where
  pub is_free : Bool
  pub class : Option ℕ  -- of the blocks into which it is cut
  pub is_due : Bool  -- it was cut, and its head is not written yet

pub record Sets : Type 0 where
  pub layout : Geometry
  pub part : ℕ
  pub chunks : List Chunk
  pub used : List Bool  -- whether a block is allocated, by the units of 256 bytes of the part

abbrev pub chunk_is_free : Sets → ℕ → Bool
chunk_is_free a j = option_map_or (λ c. c.is_free) (slice_get a.chunks j) false

abbrev pub chunk_class : Sets → ℕ → Option ℕ
chunk_class a j = option_and_then (λ c. c.class) (slice_get a.chunks j)

abbrev pub chunk_is_due : Sets → ℕ → Bool
chunk_is_due a j = option_map_or (λ c. c.is_due) (slice_get a.chunks j) false

-- the pointer of the part's first unit
abbrev pub part_unit : Sets → ℕ
part_unit a = FIRST_UNIT + a.part * a.layout.chunks * chunk_units a.layout

-- whether the block with this pointer is allocated
abbrev pub block_is_used : Sets → ℕ → Bool
block_is_used a p = nat_le (part_unit a) p && option_map_or (λ u. u)
    (slice_get a.used (p - part_unit a)) false

abbrev pub start_in : Geometry → ℕ → ℕ → Option ℕ
start_in l u class = if is_start l class u then Some class else None

-- the class of the block of the part that begins at a pointer, where one does
abbrev pub class_at : Sets → ℕ → Option ℕ
class_at a p =
    if nat_le FIRST_UNIT p && chunk_at a.layout p / a.layout.chunks == a.part
    then option_and_then (start_in a.layout (unit_at a.layout p))
    (chunk_class a (chunk_at a.layout p % a.layout.chunks)) else None

abbrev pub is_free_block : Sets → ℕ → ℕ → Bool
is_free_block a class p = option_map_or (λ c. c == class) (class_at a p) false
    && not (block_is_used a p)

-- how many chunks are free, and how many blocks of a class
abbrev pub free_chunk_count : Sets → ℕ
free_chunk_count a = count_by (chunk_is_free a) (numbers 0 a.layout.chunks)

abbrev pub free_block_count : Sets → ℕ → ℕ
free_block_count a class =
    count_by (is_free_block a class)
    (numbers (part_unit a) (a.layout.chunks * chunk_units a.layout))

-- the pointer of a chunk's first block
abbrev pub first_block : Sets → ℕ → ℕ
first_block a j = FIRST_UNIT + (a.part * a.layout.chunks + j) * chunk_units a.layout + 1

-- the chunk of the part in which a pointer lies
abbrev pub chunk_of : Sets → ℕ → ℕ
chunk_of a p = chunk_at a.layout p % a.layout.chunks

-- What is true of every allocator: its chunks are of the part, none is both free and cut, each class is one of the layout's, and what is allocated is a block.
pub record AreSets (a : Sets) : Type 0 where
  pub part_is : a.part < a.layout.cores
  pub free_in : (j : ℕ) → chunk_is_free a j ≡ true → (j < a.layout.chunks)
      × (chunk_class a j ≡ None)
  pub cut_in : (j c : ℕ) → chunk_class a j ≡ Some c → (j < a.layout.chunks)
      × (is_class a.layout c ≡ true)
  pub due_in : (j : ℕ) → chunk_is_due a j ≡ true → is_none (chunk_class a j) ≡ false
  pub used_in : (p : ℕ) → block_is_used a p ≡ true → is_none (class_at a p) ≡ false

-- no chunk is another one
pub record SameChunks (old new : Sets) : Type 0 where
  pub layout_is : new.layout ≡ old.layout
  pub part_is : new.part ≡ old.part
  pub free : (j : ℕ) → chunk_is_free new j ≡ chunk_is_free old j
  pub classes : (j : ℕ) → chunk_class new j ≡ chunk_class old j
  pub due : (j : ℕ) → chunk_is_due new j ≡ chunk_is_due old j

-- the same blocks are allocated
abbrev pub SameBlocks : Sets → Sets → Type 0
SameBlocks old new = (q : ℕ) → block_is_used new q ≡ block_is_used old q

-- one block more is allocated, or one less
abbrev pub Uses : Sets → Sets → ℕ → Type 0
Uses old new p = (q : ℕ) → block_is_used new q ≡ (q == p || block_is_used old q)

abbrev pub Releases : Sets → Sets → ℕ → Type 0
Releases old new p = (q : ℕ) → block_is_used new q ≡ (block_is_used old q && not (q == p))

-- The lowest free block of the class was taken.
pub record TakesBlock (old new : Sets) (class p : ℕ) : Type 0 where
  pub chunks : SameChunks old new
  pub was_free : is_free_block old class p ≡ true
  pub lowest : (q : ℕ) → q < p → is_free_block old class q ≡ false
  pub used : Uses old new p
  pub count : free_block_count old class ≡ free_block_count new class + 1
  pub chunk_count : free_chunk_count new ≡ free_chunk_count old
  pub others : (c : ℕ) → (c ≡ class → ⊥) → free_block_count new c ≡ free_block_count old c

-- No block of the class was free: the lowest free chunk was cut, and its first block taken.
pub record Cuts (old new : Sets) (class j p : ℕ) : Type 0 where
  pub none : (q : ℕ) → is_free_block old class q ≡ false
  pub was_free : chunk_is_free old j ≡ true
  pub lowest : (i : ℕ) → i < j → chunk_is_free old i ≡ false
  pub first : p ≡ first_block old j
  pub layout_is : new.layout ≡ old.layout
  pub part_is : new.part ≡ old.part
  pub free : (i : ℕ) → chunk_is_free new i ≡ (chunk_is_free old i && not (i == j))
  pub cut : chunk_class new j ≡ Some class
  pub classes : (i : ℕ) → (i ≡ j → ⊥) → chunk_class new i ≡ chunk_class old i
  pub due : (i : ℕ) → chunk_is_due new i ≡ (i == j || chunk_is_due old i)
  pub was_unused : block_is_used old p ≡ false
  pub used : Uses old new p
  pub chunk_count : free_chunk_count old ≡ free_chunk_count new + 1
  pub count : free_block_count new class + 1 ≡ blocks_in old.layout class
  pub others : (c : ℕ) → (c ≡ class → ⊥) → free_block_count new c ≡ free_block_count old c

-- what a take gives
abbrev pub Takes : Sets → Sets → ℕ → Bool → Option ℕ → Type 0
Takes old new class may_cut None =
    ((q : ℕ) → is_free_block old class q ≡ false)
    × ((may_cut ≡ false) ⊎ ((j : ℕ) → chunk_is_free old j ≡ false)) × (new ≡ old)
Takes old new class may_cut (Some p) = TakesBlock old new class p
    ⊎ ((may_cut ≡ true) × (j : ℕ) × Cuts old new class j p)

-- The lowest free chunk was taken for a log.
pub record TakesChunk (old new : Sets) (j : ℕ) : Type 0 where
  pub was_free : chunk_is_free old j ≡ true
  pub lowest : (i : ℕ) → i < j → chunk_is_free old i ≡ false
  pub layout_is : new.layout ≡ old.layout
  pub part_is : new.part ≡ old.part
  pub free : (i : ℕ) → chunk_is_free new i ≡ (chunk_is_free old i && not (i == j))
  pub classes : (i : ℕ) → chunk_class new i ≡ chunk_class old i
  pub due : (i : ℕ) → chunk_is_due new i ≡ chunk_is_due old i
  pub used : SameBlocks old new
  pub chunk_count : free_chunk_count old ≡ free_chunk_count new + 1
  pub count : (c : ℕ) → free_block_count new c ≡ free_block_count old c

abbrev pub TakesChunkOrNone : Sets → Sets → Option ℕ → Type 0
TakesChunkOrNone old new None = ((j : ℕ) → chunk_is_free old j ≡ false) × (new ≡ old)
TakesChunkOrNone old new (Some j) = TakesChunk old new j

-- A chunk came back.
pub record GivesChunk (old new : Sets) (j : ℕ) : Type 0 where
  pub layout_is : new.layout ≡ old.layout
  pub part_is : new.part ≡ old.part
  pub free : (i : ℕ) → chunk_is_free new i ≡ (i == j || chunk_is_free old i)
  pub classes : (i : ℕ) → chunk_class new i ≡ chunk_class old i
  pub due : (i : ℕ) → chunk_is_due new i ≡ chunk_is_due old i
  pub used : SameBlocks old new
  pub chunk_count : free_chunk_count new ≡ free_chunk_count old + 1
  pub count : (c : ℕ) → free_block_count new c ≡ free_block_count old c

-- An allocated block of this class became free.
pub record PutsBack (old new : Sets) (p : ℕ) : Type 0 where
  pub chunks : SameChunks old new
  pub used : Releases old new p
  pub chunk_count : free_chunk_count new ≡ free_chunk_count old
  pub count : (c : ℕ) → class_at old p ≡ Some c → free_block_count new c ≡ free_block_count old c
      + 1
  pub others : (c : ℕ) → (class_at old p ≡ Some c → ⊥) → free_block_count new c ≡ free_block_count
      old c
