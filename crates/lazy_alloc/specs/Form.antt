-- How an allocator keeps its sets: free chunks and due chunks as bits of a word, the class of each chunk, and a bitmap for each chunk.
use Rattle.std.specs.Prelude.{◌≡◌, ℕ, ◌+◌, ◌-◌, ◌*◌, ◌/◌, ◌%◌, ◌^◌, ◌<◌, ◌≤◌, ◌&&◌, ◌==◌, nat_le, List, length, Bool, true, false, not, map, slice_index, slice_index_or, Option, Some, None, is_none, if◌then◌else◌}
use Rattle.std.specs.List.{list_all}
use Rattle.std.specs.Option.{option_and_then, option_map_or}
use Rattle.chunk_map.specs.declared.layouts.Geometry.{Geometry}
use Rattle.chunk_map.specs.Layouts.{numbers, is_class, IsLayout}
use Rattle.store_image.specs.Parts.{chunk_units, chunk_at, unit_at}
use Rattle.lazy_alloc.specs.declared.bits.TheConstants.{WORD_BITS}
use Rattle.lazy_alloc.specs.Bits.{has, has_bit}
use Rattle.lazy_alloc.specs.Chains.{IsLinked}
use Rattle.lazy_alloc.specs.Sets.{Chunk, Sets, start_in, blocks_in, free_block_count}
use Rattle.chunk_map.specs.declared.layout_sizes.TheConstants.{FIRST_UNIT}

-- Each chunk has room for a bit for each block of the least class, in whole words.
abbrev pub room_words : Geometry → ℕ
room_words l = (chunk_units l + 127) / 128

-- the chunk of its part in which a pointer lies, and the bit of the block of a class that begins there
abbrev pub chunk_in : Geometry → ℕ → ℕ
chunk_in l p = chunk_at l p % l.chunks

abbrev pub bit_of : Geometry → ℕ → ℕ → ℕ
bit_of l p c = WORD_BITS * (chunk_in l p * room_words l) + (unit_at l p - 1) / 2 ^ c

abbrev pub class_in : List (Option ℕ) → ℕ → Option ℕ
class_in classes j = slice_index_or classes j None

-- the class of the block of the part that begins at a pointer, by the classes of the chunks
abbrev pub class_by : Geometry → ℕ → (ℕ → Option ℕ) → ℕ → Option ℕ
class_by l part class p =
    if nat_le FIRST_UNIT p && chunk_at l p / l.chunks == part
    then option_and_then (start_in l (unit_at l p)) (class (chunk_in l p)) else None

unfoldable pub class_of_block : Geometry → ℕ → List (Option ℕ) → ℕ → Option ℕ
class_of_block l part classes p = class_by l part (class_in classes) p

unfoldable pub is_marked : Geometry → List ℕ → ℕ → Option ℕ → Bool
is_marked l bits p o = option_map_or (λ c. has_bit bits (bit_of l p c)) o false

unfoldable pub chunks_of : ℕ → ℕ → ℕ → List (Option ℕ) → List Chunk
chunks_of n free due classes = map
    (λ j. record { is_free = has free j; class = class_in classes j; is_due = has due j })
    (numbers 0 n)

unfoldable pub used_of : Geometry → ℕ → List (Option ℕ) → List ℕ → List Bool
used_of l part classes bits = map (λ p. is_marked l bits p (class_of_block l part classes p))
    (numbers (FIRST_UNIT + part * l.chunks * chunk_units l) (l.chunks * chunk_units l))

abbrev pub sets_of : Geometry → ℕ → ℕ → ℕ → List (Option ℕ) → List ℕ → Sets
sets_of l part free due classes bits = record {
  layout = l;
  part = part;
  chunks = chunks_of l.chunks
      free due classes;
  used = used_of l part classes bits;
}

pub record IsForm (l : Geometry) (part free due : ℕ) (classes : List (Option ℕ)) (bits : List ℕ) :
    Type 0 where
  pub layout : IsLayout l
  pub part_in : part < l.cores
  pub many : length classes ≡ l.chunks
  pub room : length bits ≡ l.chunks * room_words l
  pub free_in : (j : ℕ) → has free j ≡ true → (j < l.chunks) × (class_in classes j ≡ None)
  pub due_in : (j : ℕ) → has due j ≡ true → is_none (class_in classes j) ≡ false
  pub cut_in : (j c : ℕ) → class_in classes j ≡ Some c → is_class l c ≡ true
  pub blank : (j : ℕ) → class_in classes j ≡ None → (i : ℕ) → WORD_BITS * (j * room_words l) ≤ i
      → i < WORD_BITS * ((j + 1) * room_words l) → has_bit bits i ≡ false

-- all blocks of a chunk are allocated, if they are of this class
unfoldable pub is_full : Geometry → List ℕ → ℕ → ℕ → Bool
is_full l bits j c = list_all (λ b. has_bit bits (WORD_BITS * (j * room_words l) + b))
    (numbers 0 (blocks_in l c))

-- a chunk is cut into blocks of this class, and one of them is free
unfoldable pub is_open : Geometry → List (Option ℕ) → List ℕ → ℕ → ℕ → Bool
is_open l classes bits c j = option_map_or (λ k. k == c) (class_in classes j) false
    && not (is_full l bits j c)

-- Beside them it keeps how many blocks of each class are free, and for each class the chain of its chunks that have a free block.
pub record IsKept (l : Geometry) (part free due : ℕ) (classes : List (Option ℕ))
    (bits counts : List ℕ) (firsts nexts : List (Option ℕ)) : Type 0 where
  pub form : IsForm l part free due classes bits
  pub counts_many : length counts ≡ 13
  pub counted : (c : ℕ) → c ≤ 12 → slice_index counts c ≡ free_block_count
      (sets_of l part free due classes bits) c
  pub firsts_many : length firsts ≡ 13
  pub nexts_many : length nexts ≡ l.chunks
  pub linked : IsLinked firsts nexts (is_open l classes bits)
