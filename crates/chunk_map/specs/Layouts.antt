-- The layout of a region: its numbers, the superblock, heads and classes. An image is its words by number, and a length in bytes.
use Rattle.std.specs.Prelude.{◌≡◌, ℕ, zero, suc, ◌+◌, ◌-◌, ◌*◌, ◌/◌, ◌%◌, ◌^◌, ◌==◌, ◌&&◌, ◌||◌, nat_lt, nat_le, List, [], ◌∷◌, Bool, Option, Some, None, Result, Ok, Err, is_none, if◌then◌else◌}
use Rattle.std.specs.List.{list_any}
use Rattle.pm_region.specs.declared.region_sizes.TheConstants.{LINE_BYTES, LINE_WORDS, MOST_BYTES, WORD_BYTES}
use Rattle.chunk_map.specs.declared.layout_sizes.TheConstants.{CLASS_FACTOR, DATA_KIND, FORMAT, FREE_KIND, GREATEST_CLASS, HEAD_LINES, HEAD_WORDS, LEAST_BLOCKS, LEAST_CHUNKS, LOG_KIND, MAGIC, MOST_CHUNKS, MOST_CORES, MOST_GROUP, MOST_PART_BYTES, SHORTEST_IN_BLOCK, SUPERBLOCK_BYTES, SUPERBLOCK_WORDS, UNIT_BYTES}
use Rattle.chunk_map.specs.declared.layouts.Geometry.{Geometry}
use Rattle.chunk_map.specs.declared.heads.Head.{Head}
use Rattle.chunk_map.specs.declared.heads.Head.TheVariants.{Free, Log, Data}

-- n numbers from a number on
abbrev pub numbers : ℕ → ℕ → List ℕ
numbers from zero = []
numbers from (suc n) = from ∷ numbers (suc from) n

abbrev pub chunk_words : Geometry → ℕ
chunk_words l = l.chunk_bytes / WORD_BYTES

abbrev pub payload_words : Geometry → ℕ
payload_words l = chunk_words l - HEAD_WORDS

-- the payload in lines of 8 words
abbrev pub payload_lines : Geometry → ℕ
payload_lines l = l.chunk_bytes / LINE_BYTES - HEAD_LINES

abbrev pub total_bytes : Geometry → ℕ
total_bytes l = SUPERBLOCK_BYTES + l.cores * l.chunks * l.chunk_bytes

abbrev pub total_words : Geometry → ℕ
total_words l = total_bytes l / WORD_BYTES

-- the first word of a part
abbrev pub part_first : Geometry → ℕ → ℕ
part_first l c = SUPERBLOCK_WORDS + c * (l.chunks * chunk_words l)

-- the first word of a chunk
abbrev pub chunk_first : Geometry → ℕ → ℕ → ℕ
chunk_first l c j = SUPERBLOCK_WORDS + (c * l.chunks + j) * chunk_words l

abbrev pub is_chunk_size : ℕ → Bool
is_chunk_size n = list_any (λ e. n == 2 ^ e) (12 ∷ 13 ∷ 14 ∷ 15 ∷ 16 ∷ 17 ∷ 18 ∷ 19 ∷ 20 ∷ 21 ∷ 22
    ∷ [])

-- the first broken rule, or none
abbrev pub layout_rule : Geometry → Option ℕ
layout_rule l =
    if nat_le 1 l.cores && nat_le l.cores MOST_CORES then
    (if nat_le 1 l.group && nat_le l.group MOST_GROUP && l.cores % l.group == 0 then
    (if nat_le LEAST_CHUNKS l.chunks && nat_le l.chunks MOST_CHUNKS then
    (if is_chunk_size l.chunk_bytes then
    (if nat_le (l.cores * l.chunks * l.chunk_bytes) MOST_PART_BYTES then None else Some 5) else Some
    4)
    else Some 3) else Some 2) else Some 1

abbrev pub IsLayout : Geometry → Type 0
IsLayout l = layout_rule l ≡ None

abbrev pub magic : ℕ
magic = MAGIC

abbrev pub layout_of : (ℕ → ℕ) → Geometry
layout_of image = record {
  cores = image 2;
  group = image 3;
  chunks = image 4;
  chunk_bytes = image
      5;
}

-- the first broken one of rules 1 to 3
abbrev pub superblock_rule : ℕ → (ℕ → ℕ) → Option ℕ
superblock_rule bytes image =
    if bytes % WORD_BYTES == 0 && nat_le SUPERBLOCK_BYTES bytes && nat_le bytes MOST_BYTES then
    (if image 0 == magic && image 1 == FORMAT then
    (if is_none (layout_rule (layout_of image)) && bytes == total_bytes (layout_of image) then None
    else Some 3) else Some 2) else Some 1

abbrev pub owner : Geometry → ℕ → ℕ
owner l key = key % l.cores

abbrev pub is_of_group : Geometry → ℕ → ℕ → Bool
is_of_group l c key = owner l key / l.group == c / l.group

-- A class of the layout. No layout has one past the greatest.
abbrev pub is_class : Geometry → ℕ → Bool
is_class l class = nat_le 1 class && nat_le class GREATEST_CLASS && nat_le
    (LEAST_BLOCKS * UNIT_BYTES * 2 ^ class) l.chunk_bytes

-- the bytes of the longest value: it fills a block of the greatest class, whose first word is the length
abbrev pub longest_value : Geometry → ℕ
longest_value l = l.chunk_bytes / LEAST_BLOCKS - WORD_BYTES

-- whether a value of this length gets a block, and one of this class: the least that has room for a word more
abbrev pub has_class : ℕ → ℕ → Bool
has_class length class = nat_le SHORTEST_IN_BLOCK length && nat_le (length + WORD_BYTES)
    (UNIT_BYTES * 2 ^ class)
    && (class == 1 || nat_lt (UNIT_BYTES / 2 * 2 ^ class) (length + WORD_BYTES))

-- the head that two words are, or the rule that they break
abbrev pub head_by : Geometry → ℕ → ℕ → Result Head ℕ
head_by l kind tail =
    if kind == FREE_KIND then Ok Free
    else (if kind == LOG_KIND then (if tail % LINE_WORDS == 0 && nat_le tail (payload_words l) then Ok (Log tail)
    else Err 5)
    else (if kind % CLASS_FACTOR == DATA_KIND && is_class l (kind / CLASS_FACTOR) then Ok
    (Data (kind / CLASS_FACTOR)) else Err 4))

abbrev pub head_at : Geometry → (ℕ → ℕ) → ℕ → Result Head ℕ
head_at l image at = head_by l (image at) (image (at + 1))
