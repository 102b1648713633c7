-- What a part of an image says: the entries of its logs by place, and what its blocks hold.
use Rattle.std.specs.Prelude.{ℕ, ◌+◌, ◌-◌, ◌*◌, ◌/◌, ◌%◌, ◌^◌, ◌==◌, ◌&&◌, nat_le, List, take, map, Bool, false, Option, Some, None, Result, Ok, Err, if◌then◌else◌}
use Rattle.std.specs.List.{flat_map, list_all}
use Rattle.log_entry.specs.declared.entry.Entry.{Entry}
use Rattle.log_entry.specs.Words.{words_for, unpacked, words_from}
use Rattle.log_entry.specs.Batches.{Scan, ended, scan_of}
use Rattle.chunk_map.specs.declared.layout_sizes.TheConstants.{FIRST_UNIT, HEAD_WORDS, SUPERBLOCK_WORDS, UNIT_WORDS}
use Rattle.chunk_map.specs.declared.layouts.Geometry.{Geometry}
use Rattle.chunk_map.specs.declared.heads.Head.{Head}
use Rattle.chunk_map.specs.declared.heads.Head.TheVariants.{Free, Log, Data}
use Rattle.store_image.specs.declared.types.PlacedEntry.{PlacedEntry}
pub use Rattle.chunk_map.specs.Chunks.{chunk_units}
use Rattle.chunk_map.specs.Layouts.{numbers, chunk_words, chunk_first, head_at, has_class}

-- the words behind a head, up to a tail
abbrev pub payload : (ℕ → ℕ) → ℕ → ℕ → List ℕ
payload image at tail = words_from image (at + HEAD_WORDS) tail

-- what is read behind a head; nothing where there is no log
abbrev pub scan_behind : (ℕ → ℕ) → ℕ → Result Head ℕ → Scan
scan_behind image at (Ok Free) = ended
scan_behind image at (Ok (Log tail)) = scan_of (payload image at tail)
scan_behind image at (Ok (Data class)) = ended
scan_behind image at (Err rule) = ended

abbrev pub scan_at : Geometry → (ℕ → ℕ) → ℕ → Scan
scan_at l image at = scan_behind image at (head_at l image at)

abbrev pub placed_in_chunk : ℕ → ℕ → List (ℕ × Entry) → List PlacedEntry
placed_in_chunk c j xs = map (λ x. record { core = c; chunk = j; place = x.0; entry = x.1 }) xs

abbrev pub chunk_entries : Geometry → (ℕ → ℕ) → ℕ → ℕ → List PlacedEntry
chunk_entries l image c j = placed_in_chunk c j (scan_at l image (chunk_first l c j)).entries

abbrev pub part_entries : Geometry → (ℕ → ℕ) → ℕ → List PlacedEntry
part_entries l image c = flat_map (λ j. chunk_entries l image c j) (numbers 0 l.chunks)

-- the entries of an image, by part, chunk and place
abbrev pub all_entries : Geometry → (ℕ → ℕ) → List PlacedEntry
all_entries l image = flat_map (λ c. part_entries l image c) (numbers 0 l.cores)

-- rules 4 to 6 hold in a chunk
abbrev pub head_reads : Result Head ℕ → Scan → Bool
head_reads (Ok head) s = s.whole
head_reads (Err rule) s = false

abbrev pub chunk_reads : Geometry → (ℕ → ℕ) → ℕ → Bool
chunk_reads l image at = head_reads (head_at l image at) (scan_at l image at)

-- and in a part
abbrev pub reads : Geometry → (ℕ → ℕ) → ℕ → Bool
reads l image c = list_all (λ j. chunk_reads l image (chunk_first l c j)) (numbers 0 l.chunks)

-- A pointer counts units. The chunk in which it lies, of all counted from 0, and its unit there.
abbrev pub chunk_at : Geometry → ℕ → ℕ
chunk_at l p = (p - FIRST_UNIT) / chunk_units l

abbrev pub unit_at : Geometry → ℕ → ℕ
unit_at l p = (p - FIRST_UNIT) % chunk_units l

-- unit u of a chunk is the start of a block of this class that lies in the chunk wholly
abbrev pub is_start : Geometry → ℕ → ℕ → Bool
is_start l class u =
    nat_le 1 u && (u - 1) % 2 ^ class == 0 && nat_le (u + 2 ^ class) (chunk_units l)

abbrev pub class_behind : Geometry → ℕ → Result Head ℕ → Option ℕ
class_behind l u (Ok Free) = None
class_behind l u (Ok (Log tail)) = None
class_behind l u (Ok (Data class)) = if is_start l class u then Some class else None
class_behind l u (Err rule) = None

-- the class of the block that starts at a pointer, where one of part c does
abbrev pub block_class : Geometry → (ℕ → ℕ) → ℕ → ℕ → Option ℕ
block_class l image c p =
    if nat_le FIRST_UNIT p && chunk_at l p / l.chunks == c then
    class_behind l (unit_at l p)
    (head_at l image (SUPERBLOCK_WORDS + chunk_at l p * chunk_words l)) else None

-- word 0 of a block is the length, and the bytes follow
abbrev pub block_bytes : (ℕ → ℕ) → ℕ → List ℕ
block_bytes image p =
    let length = image (UNIT_WORDS * p) in
    take length (unpacked (words_from image (UNIT_WORDS * p + 1) (words_for length)))

abbrev pub value_by_class : (ℕ → ℕ) → ℕ → Option ℕ → Option (List ℕ)
value_by_class image p None = None
value_by_class image p (Some class) =
    if has_class (image (UNIT_WORDS * p)) class then Some (block_bytes image p) else None

-- what the block of part c with a pointer holds
abbrev pub value_in_block : Geometry → (ℕ → ℕ) → ℕ → ℕ → Option (List ℕ)
value_in_block l image c p = value_by_class image p (block_class l image c p)
