-- Which inputs a part of an image has room for.
use Rattle.std.specs.Prelude.{ℕ, ◌+◌, ◌-◌, ◌*◌, ◌/◌, ◌≤◌, ◌<◌, ◌==◌, ◌&&◌, nat_lt, nat_le, List, length, Bool, false, if◌then◌else◌, count_by, sum_by}
use Rattle.fs_model.specs.declared.model.Request.{Request}
use Rattle.fs_model.specs.declared.model.Request.TheVariants.{Put, Get, Delete}
use Rattle.fs_model.specs.Cells.{key_of}
use Rattle.pm_region.specs.declared.region_sizes.TheConstants.{LINE_BYTES, WORD_BYTES}
use Rattle.log_entry.specs.declared.entry_limits.TheConstants.{LONGEST_ENTRY_LINES, SHORTEST_ENTRY}
use Rattle.chunk_map.specs.declared.layout_sizes.TheConstants.{GREATEST_CLASS, HEAD_LINES, SHORTEST_IN_BLOCK}
use Rattle.chunk_map.specs.declared.layouts.Geometry.{Geometry}
use Rattle.chunk_map.specs.Layouts.{numbers, chunk_first, head_at, owner, is_of_group, has_class, longest_value}
use Rattle.chunk_map.specs.Chunks.{is_free, blocks_in}

-- n divided by d, rounded up
abbrev pub parts_of : ℕ → ℕ → ℕ
parts_of n d = (n + (d - 1)) / d

-- the lines of the entry alone; a put that is too long counts nowhere
abbrev pub lines_of : Geometry → Request → ℕ
lines_of l (Put k v) = if nat_lt (longest_value l) (length v) then 0
    else (if nat_le SHORTEST_IN_BLOCK (length v) then 1 else parts_of
    (WORD_BYTES * SHORTEST_ENTRY + length v) LINE_BYTES)
lines_of l (Get k) = 0
lines_of l (Delete k) = 1

abbrev pub log_bytes : Geometry → ℕ → List Request → ℕ
log_bytes l c trace =
    sum_by (λ q. if is_of_group l c (key_of q) then LINE_BYTES * lines_of l q else 0) trace

abbrev pub is_put_of : Geometry → ℕ → ℕ → Request → Bool
is_put_of l c class (Put k v) = owner l k == c && has_class (length v) class && nat_le (length v)
    (longest_value l)
is_put_of l c class (Get k) = false
is_put_of l c class (Delete k) = false

abbrev pub data_chunks : Geometry → ℕ → List Request → ℕ
data_chunks l c trace = sum_by (λ class. parts_of (count_by (is_put_of l c class) trace)
    (blocks_in l class)) (numbers 1 GREATEST_CLASS)

abbrev pub free_chunks : Geometry → (ℕ → ℕ) → ℕ → ℕ
free_chunks l image c = count_by (λ j. is_free (head_at l image (chunk_first l c j)))
    (numbers 0 l.chunks)

-- the bytes of a chunk that its log fills at least: all but those of its head and of one longest entry
abbrev pub filled_bytes : Geometry → ℕ
filled_bytes l = l.chunk_bytes - LINE_BYTES * (HEAD_LINES + LONGEST_ENTRY_LINES)

-- the chunks of the log, the last of which may be filled less
abbrev pub log_chunks : Geometry → ℕ → List Request → ℕ
log_chunks l c trace = parts_of (log_bytes l c trace) (filled_bytes l) + 1

-- how many chunks are to stay free: with fewer a change may be refused
abbrev pub spare_chunks : ℕ
spare_chunks = 2

abbrev pub IsAmpleFor : Geometry → (ℕ → ℕ) → List Request → ℕ → Type 0
IsAmpleFor l image trace c = log_chunks l c trace + data_chunks l c trace + spare_chunks
    ≤ free_chunks l image c

abbrev pub IsAmple : Geometry → (ℕ → ℕ) → List Request → Type 0
IsAmple l image trace = (c : ℕ) → c < l.cores → IsAmpleFor l image trace c
