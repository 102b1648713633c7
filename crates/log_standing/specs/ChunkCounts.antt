-- In how many chunks of a log each name stands.
use Rattle.std.specs.Prelude.{◌≡◌, ℕ, Bool, List}
use Rattle.std.specs.List.{list_any, count_by}
use Rattle.pm_region.specs.State.{State}
use Rattle.pm_region.specs.Words.{lasts}
use Rattle.log_entry.specs.declared.entry.Entry.{Entry}
use Rattle.log_entry.specs.Batches.{scan_of}
use Rattle.store_image.specs.Parts.{payload}
use Rattle.core_log.specs.declared.types.LogChunk.{LogChunk}
use Rattle.core_log.specs.Log.{LogState, tail_in, first_of}
use Rattle.log_standing.specs.NameCounts.{StandingState, name_eq, count_of}

-- an entry of the list has this name
abbrev pub is_named : ℕ → ℕ → ℕ × Entry → Bool
is_named k v x = name_eq (x.1.key, x.1.version) (k, v)

abbrev pub has_name : List (ℕ × Entry) → ℕ → ℕ → Bool
has_name xs k v = list_any (is_named k v) xs

-- whether a name stands in a chunk of the log, by an image
abbrev pub stands_in : (ℕ → ℕ) → LogState → ℕ → ℕ → ℕ → Bool
stands_in image log j k v =
    has_name (scan_of (payload image (first_of log j) (tail_in log j))).entries k v

-- in how many of its chunks, by an image and as it is now
abbrev pub chunks_in : (ℕ → ℕ) → LogState → ℕ → ℕ → ℕ
chunks_in image log k v = count_by (λ (c : LogChunk). stands_in image log c.chunk k v) log.chunks

abbrev pub chunks_with : State → LogState → ℕ → ℕ → ℕ
chunks_with s log k v = chunks_in (lasts s) log k v

-- the names that stand are the log's, with their copies
abbrev pub IsStandingOf : State → LogState → StandingState → Type 0
IsStandingOf s log st = (k v : ℕ) → count_of st k v ≡ chunks_with s log k v
