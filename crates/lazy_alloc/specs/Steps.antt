-- The single steps of which the calls of an allocator are made.
use Rattle.std.specs.Prelude.{◌≡◌, ℕ, ◌<◌, ◌==◌, ◌||◌, ◌&&◌, not, true, false, Bool, Option, Some, None, is_none}
use Rattle.lazy_alloc.specs.Sets.{Sets, SameBlocks, chunk_is_free, chunk_class, chunk_is_due, chunk_of, class_at, block_is_used, is_free_block}

-- A chunk that is neither free nor cut is cut into blocks of this class, none of them allocated.
pub record CutsChunk (old new : Sets) (j class : ℕ) (is_due : Bool) : Type 0 where
  pub layout_is : new.layout ≡ old.layout
  pub part_is : new.part ≡ old.part
  pub free : (i : ℕ) → chunk_is_free new i ≡ chunk_is_free old i
  pub cut : chunk_class new j ≡ Some class
  pub classes : (i : ℕ) → (i ≡ j → ⊥) → chunk_class new i ≡ chunk_class old i
  pub due : (i : ℕ) → chunk_is_due new i ≡ ((i == j && is_due) || chunk_is_due old i)
  pub used : SameBlocks old new

-- the block of a chunk with the lowest pointer among those of a class that are free, or none
abbrev pub LowestIn : Sets → ℕ → ℕ → Option ℕ → Type 0
LowestIn a class j None = (q : ℕ) → chunk_of a q ≡ j → is_free_block a class q ≡ false
LowestIn a class j (Some p) = (is_free_block a class p ≡ true) × (chunk_of a p ≡ j)
    × ((q : ℕ) → q < p → chunk_of a q ≡ j → is_free_block a class q ≡ false)

-- the same of the whole part
abbrev pub LowestBlock : Sets → ℕ → Option ℕ → Type 0
LowestBlock a class None = (q : ℕ) → is_free_block a class q ≡ false
LowestBlock a class (Some p) = (is_free_block a class p ≡ true)
    × ((q : ℕ) → q < p → is_free_block a class q ≡ false)

-- Where a block of the part begins at the pointer it is allocated.
abbrev pub UsesBlock : Sets → Sets → ℕ → Type 0
UsesBlock old new p = (q : ℕ) → block_is_used new q ≡ ((q == p && not (is_none (class_at old p)))
    || block_is_used old q)

-- The head of the chunk in which a pointer lies is written.
pub record WritesHead (old new : Sets) (p : ℕ) : Type 0 where
  pub layout_is : new.layout ≡ old.layout
  pub part_is : new.part ≡ old.part
  pub free : (i : ℕ) → chunk_is_free new i ≡ chunk_is_free old i
  pub classes : (i : ℕ) → chunk_class new i ≡ chunk_class old i
  pub due : (i : ℕ) → chunk_is_due new i ≡ (chunk_is_due old i && not (i == chunk_of old p))
  pub used : SameBlocks old new
