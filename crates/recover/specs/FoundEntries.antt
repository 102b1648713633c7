-- Entries by their names and the words at which they begin.
use Rattle.std.specs.Prelude.{◌≡◌, ℕ, ◌+◌, ◌-◌, ◌/◌, ◌%◌, ◌<◌, ◌≤◌, ◌==◌, ◌&&◌, Bool, true, false, List, [], ◌∷◌, map, filter, length, slice_index_or, Option, Some, None, Result, Ok, Err, Vec, if◌then◌else◌}
use Rattle.std.specs.Global.{Global}
use Rattle.std.specs.List.{AllByRecursion}
use Rattle.std.specs.List.Sorted.{IsSortedByKey}
use Rattle.log_entry.specs.declared.entry.Entry.{Entry}
use Rattle.log_entry.specs.declared.entry.Body.{Body}
use Rattle.log_entry.specs.declared.entry.Read.{Read}
use Rattle.log_entry.specs.declared.entry.Read.TheVariants as reads
use Rattle.log_entry.specs.Words.{words_from}
use Rattle.log_entry.specs.Spelling.{words_of, HasSpelling}
use Rattle.log_entry.specs.Reading.{size_of, body_of}
use Rattle.chunk_map.specs.declared.layout_sizes.TheConstants.{HEAD_WORDS, SUPERBLOCK_WORDS}
use Rattle.chunk_map.specs.declared.layouts.Geometry.{Geometry}
use Rattle.chunk_map.specs.Layouts.{chunk_words, chunk_first, total_words}
use Rattle.store_image.specs.declared.scanning.AtPlace.{AtPlace}
use Rattle.store_image.specs.declared.types.PlacedEntry.{PlacedEntry}
use Rattle.recover.specs.declared.found_entries.Found.{Found}
use Rattle.recover.specs.declared.types.RecoverError.{RecoverError}
use Rattle.recover.specs.declared.types.RecoverError.TheVariants as errors
use Rattle.recover.specs.Clashes.{name_cmp}

-- the body of the entry that begins at a word
unfoldable pub body_at : (ℕ → ℕ) → ℕ → Body
body_at image at = body_of (words_from image at (size_of (image at)))

-- the core and the chunk in which a word lies, and its place in the payload there
unfoldable pub core_at : Geometry → ℕ → ℕ
core_at l at = (at - SUPERBLOCK_WORDS) / chunk_words l / l.chunks

unfoldable pub chunk_there : Geometry → ℕ → ℕ
chunk_there l at = (at - SUPERBLOCK_WORDS) / chunk_words l % l.chunks

unfoldable pub place_there : Geometry → ℕ → ℕ
place_there l at = (at - SUPERBLOCK_WORDS) % chunk_words l - HEAD_WORDS

-- what was found, with the body that an image has there
abbrev pub entry_at : (ℕ → ℕ) → Found → Entry
entry_at image f = record { key = f.key; version = f.version; body = body_at image f.at }

abbrev pub placed_at : Geometry → (ℕ → ℕ) → Found → PlacedEntry
placed_at l image f = record {
  core = core_at l f.at;
  chunk = chunk_there l f.at;
  place = place_there l f.at;
  entry = entry_at image f;
}

abbrev pub entries_at : Geometry → (ℕ → ℕ) → List Found → List PlacedEntry
entries_at l image fs = map (placed_at l image) fs

-- an entry of this name stands there in an image with this layout
pub record Stands (l : Geometry) (image : ℕ → ℕ) (f : Found) : Type 0 where
  pub within : f.at + length (words_of (entry_at image f)) ≤ total_words l
  pub spelling : HasSpelling (entry_at image f)
  pub words : words_from image f.at (length (words_of (entry_at image f)))
      ≡ words_of (entry_at image f)

abbrev pub AreFound : Geometry → (ℕ → ℕ) → List Found → Type 0
AreFound l image fs = AllByRecursion (Stands l image) fs

-- the name, by which found entries are put in order
abbrev pub name_found : Found → ℕ × ℕ
name_found f = (f.key, f.version)

abbrev pub AreInOrder : List Found → Type 0
AreInOrder fs = IsSortedByKey name_found name_cmp fs

abbrev pub is_found : ℕ → ℕ → Found → Bool
is_found k v f = f.key == k && f.version == v

-- The entries of a list by their names. Those of one name stand in the order that they had.
pub record AreByName (es xs : List Found) : Type 0 where
  pub same : (k v : ℕ) → filter (is_found k v) xs ≡ filter (is_found k v) es
  pub rising : AreInOrder xs

-- each begins behind those in front of it
abbrev pub RiseByWord : List Found → Type 0
RiseByWord [] = Unit {0}
RiseByWord (f ∷ fs) = AllByRecursion (λ g. f.at < g.at) fs × RiseByWord fs

-- Those of one name begin in the order in which they stand.
abbrev pub WordsKeep : List Found → Type 0
WordsKeep fs = (i j : ℕ) (d : Found) → i ≤ j → j < length fs
    → (slice_index_or fs i d).key ≡ (slice_index_or fs j d).key
    → (slice_index_or fs i d).version ≡ (slice_index_or fs j d).version
    → (slice_index_or fs i d).at ≤ (slice_index_or fs j d).at

-- each begins in front of this place
abbrev pub LieBelow : ℕ → List AtPlace → Type 0
LieBelow n xs = AllByRecursion (λ x. x.place < n) xs

-- how an entry is found that stands at a place of a payload, which begins at this word
abbrev pub found_in : ℕ → AtPlace → Found
found_in first x = record { key = x.name.key; version = x.name.version; at = first + x.place }

-- how an entry of the image is found
abbrev pub found_of : Geometry → PlacedEntry → Found
found_of l x = record {
  key = x.entry.key;
  version = x.entry.version;
  at = chunk_first l x.core x.chunk + HEAD_WORDS + x.place;
}

-- The words are those of the entry that begins there, where these lie in a region of so many words.
abbrev pub HasWords : (ℕ → ℕ) → ℕ → ℕ → Bool → List ℕ → Type 0
HasWords image n at false ws = n < at + size_of (image at)
HasWords image n at true ws = ws ≡ words_from image at (size_of (image at))

-- the body that was read, where an entry of this name was
abbrev pub body_named : Read → Found → Option Body
body_named (reads.Entry e n) f = if e.key == f.key && e.version == f.version then Some e.body
    else None
body_named reads.Padding f = None
body_named (reads.BadEntry rule) f = None

-- all that were found were read, unless memory was wanting
abbrev pub ReadsAll : Geometry → (ℕ → ℕ) → List Found
    → Result (Vec PlacedEntry Global) RecoverError → Type 0
ReadsAll l image fs (Ok es) = es.items ≡ entries_at l image fs
ReadsAll l image fs (Err e) = e ≡ errors.Memory
