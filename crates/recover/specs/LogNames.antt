-- Which names the entries of each part have.
use Rattle.std.specs.Prelude.{◌≡◌, ℕ, ◌<◌, ◌==◌, ◌&&◌, nat_lt, Bool, List, slice_index_or}
use Rattle.std.specs.List.{list_any}
use Rattle.chunk_map.specs.declared.layouts.Geometry.{Geometry}
use Rattle.chunk_map.specs.Layouts.{chunk_first}
use Rattle.store_image.specs.Parts.{scan_at}
use Rattle.log_standing.specs.ChunkCounts.{has_name}
use Rattle.log_standing.specs.Notes.{Noted, was_noted}
use Rattle.recover.specs.declared.found_entries.Found.{Found}
use Rattle.recover.specs.FoundEntries.{core_at, chunk_there, is_found}

-- an entry of this name that begins in chunk j of part c
abbrev pub is_found_in : Geometry → ℕ → ℕ → ℕ → ℕ → Found → Bool
is_found_in l c j k v f = is_found k v f && (core_at l f.at == c && chunk_there l f.at == j)

-- Whatever the region tells: the names are those of the entries that begin in part c.
abbrev pub AreFoundIn : Geometry → List Found → ℕ → List Noted → Type 0
AreFoundIn l fs c names = (k v j : ℕ) → was_noted names k v j ≡ list_any (is_found_in l c j k v) fs

-- for each core, in their order
abbrev pub AllFoundIn : Geometry → List Found → List (List Noted) → Type 0
AllFoundIn l fs names = (c : ℕ) (d : List Noted) → c < l.cores
    → AreFoundIn l fs c (slice_index_or names c d)

-- the names of the entries in part c of an image
abbrev pub AreNamesOf : Geometry → (ℕ → ℕ) → ℕ → List Noted → Type 0
AreNamesOf l image c names = (k v j : ℕ) → was_noted names k v j ≡ (nat_lt j l.chunks
    && has_name (scan_at l image (chunk_first l c j)).entries k v)

abbrev pub AreNames : Geometry → (ℕ → ℕ) → List (List Noted) → Type 0
AreNames l image names = (c : ℕ) (d : List Noted) → c < l.cores
    → AreNamesOf l image c (slice_index_or names c d)
