-- The names that were noted of a log's entries.
use Rattle.std.specs.Prelude.{◌≡◌, ℕ, ◌==◌, ◌&&◌, Bool, List, is_some}
use Rattle.std.specs.List.{list_any}
use Rattle.log_entry.specs.declared.entry.EntryName.{EntryName}
use Rattle.core_log.specs.Log.{LogState, tail_of}
use Rattle.log_standing.specs.declared.name_item.NameItem.{NameItem}
use Rattle.log_standing.specs.Names.{name_eq}
use Rattle.log_standing.specs.ChunkCounts.{stands_in}
use Rattle.log_standing.specs.NameItems.{Fits}

-- a name, and the chunk in which an entry of it stands
pub record Noted : Type 0 where
  pub key : ℕ
  pub version : ℕ
  pub chunk : ℕ

abbrev pub noted_as : EntryName → ℕ → Noted
noted_as name chunk = record { key = name.key; version = name.version; chunk = chunk }

-- whether an entry of this name was noted in chunk j
abbrev pub is_noted : ℕ → ℕ → ℕ → Noted → Bool
is_noted k v j n = name_eq (n.key, n.version) (k, v) && n.chunk == j

abbrev pub was_noted : List Noted → ℕ → ℕ → ℕ → Bool
was_noted ns k v j = list_any (is_noted k v j) ns

-- what an item notes, and the item of a name in a chunk
abbrev pub note_of : NameItem → Noted
note_of x = record { key = x.key; version = x.version; chunk = x.chunk }

pub record IsNote (x : NameItem) (name : EntryName) (chunk : ℕ) : Type 0 where
  pub note : note_of x ≡ noted_as name chunk
  pub fits : Fits x

-- the names are those of the log's entries, each in its chunks, by an image
abbrev pub AreOfLog : (ℕ → ℕ) → LogState → List Noted → Type 0
AreOfLog image log names = (k v j : ℕ)
    → was_noted names k v j ≡ (is_some (tail_of log.chunks j) && stands_in image log j k v)
