-- What a core has free, as far as a refusal for want of room asks for it.
use Rattle.std.specs.Prelude.{◌≡◌, ◌⊎◌, ℕ, ◌-◌, ◌≤◌, ◌&&◌, nat_le, length, Bool, true, false}
use Rattle.fs_model.specs.declared.model.Request.{Request}
use Rattle.fs_model.specs.declared.model.Request.TheVariants.{Put, Get, Delete}
use Rattle.log_entry.specs.declared.entry_limits.TheConstants.{LONGEST_ENTRY_LINES}
use Rattle.chunk_map.specs.declared.layout_sizes.TheConstants.{GREATEST_CLASS}
use Rattle.chunk_map.specs.declared.layouts.Geometry.{Geometry}
use Rattle.chunk_map.specs.Layouts.{has_class, longest_value}

-- at most so many lines are left at a chunk's end, where the longest entry does not fit in
abbrev pub lines_left_over : ℕ
lines_left_over = LONGEST_ENTRY_LINES - 1

pub record Stock : Type 0 where
  -- free chunks, and free lines of the log's open chunk
  pub chunks : ℕ
  pub lines : ℕ
  -- free blocks, by class
  pub blocks : ℕ → ℕ

-- the second has no less of anything
pub record IsAtLeast (s t : Stock) : Type 0 where
  pub chunks : s.chunks ≤ t.chunks
  pub lines : s.lines ≤ t.lines
  pub blocks : (c : ℕ) → s.blocks c ≤ t.blocks c

-- a put whose value gets a block of this class
abbrev pub is_put_in : Geometry → ℕ → Request → Bool
is_put_in l class (Put k v) = has_class (length v) class && nat_le (length v)
    (longest_value l)
is_put_in l class (Get k) = false
is_put_in l class (Delete k) = false

-- The request needs a block of this class.
pub record NeedsBlock (l : Geometry) (class : ℕ) (q : Request) : Type 0 where
  pub put : is_put_in l class q ≡ true
  pub some : 1 ≤ class
  pub most : class ≤ GREATEST_CLASS

-- No block of the request's class is free.
pub record LacksBlock (l : Geometry) (s : Stock) (q : Request) : Type 0 where
  pub class : ℕ
  pub needs : NeedsBlock l class q
  pub none : s.blocks class ≡ 0

-- A change has no room: at most one chunk is free; or at most two are, and no block of its class.
abbrev pub LacksRoom : Geometry → Stock → Request → Type 0
LacksRoom l s q = (s.chunks ≤ 1) ⊎ ((s.chunks ≤ 2) × LacksBlock l s q)
