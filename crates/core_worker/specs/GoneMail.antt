-- Names that are gone from the own log wait in the outbox, each to be told to the owner of its key.
use Rattle.std.specs.Prelude.{◌≡◌, ◌≢◌, ℕ, ◌+◌, ◌≤◌, ◌==◌, List, ◌++◌, length, Some, option_map, slice_get}
use Rattle.std.specs.List.{filter}
use Rattle.log_entry.specs.declared.entry.EntryName.{EntryName}
use Rattle.chunk_map.specs.declared.layouts.Geometry.{Geometry}
use Rattle.chunk_map.specs.Layouts.{owner}
use Rattle.group_board.specs.Names.{NameList}
use Rattle.group_board.specs.declared.names.Notices.{Notices}
use Rattle.group_laws.specs.Places.{Place, core_of}

-- those of the names that are of a core's keys
abbrev pub names_of : Geometry → ℕ → List EntryName → List EntryName
names_of l core ns = filter (λ n. owner l n.key == core) ns

-- a list with these names behind its own
abbrev pub with_names : List EntryName → NameList → NameList
with_names ns l = record l { names = l.names ++ ns }

-- what is to be told to the member of a core, with the gone names of its keys
abbrev pub with_gone : Geometry → ℕ → List EntryName → Notices → Notices
with_gone l core ns n = record n { gone = with_names (names_of l core ns) n.gone }

-- in each of the lists of gone names there are places for so many more
abbrev pub HasPlacesFor : ℕ → List Notices → Type 0
HasPlacesFor most boxes = (h : ℕ) (n : Notices) → slice_get boxes h ≡ Some n
    → length n.gone.names + most ≤ n.gone.room

-- What is to be told to each other member has the gone names of its keys behind those that waited, and nothing else differs.
pub record FilesGone (p : Place) (m : ℕ) (ns : List EntryName) (old new : List Notices) : Type 0 where
  pub count : length new ≡ length old
  pub own : slice_get new m ≡ slice_get old m
  pub others : (h : ℕ) → h ≢ m → slice_get new h
      ≡ option_map (with_gone p.layout (core_of p h) ns) (slice_get old h)
