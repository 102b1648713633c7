-- What a core begins with, by the words of a region.
use Rattle.std.specs.Prelude.{◌≡◌, ℕ, ◌<◌, ◌==◌, ◌&&◌, true, false, List, Option, Some, None, find, option_map}
use Rattle.log_entry.specs.declared.entry.Body.TheVariants.{Pointer}
use Rattle.log_entry.specs.Spelling.{HasSpelling}
use Rattle.chunk_map.specs.declared.layouts.Geometry.{Geometry}
use Rattle.chunk_map.specs.Layouts.{chunk_first, head_at, owner}
use Rattle.store_image.specs.declared.types.PlacedEntry.{PlacedEntry}
use Rattle.store_image.specs.Parts.{all_entries}
use Rattle.store_image.specs.Winners.{winner}
use Rattle.core_index.specs.Records.{KeyRecord, standing_at, standing_of, standing_with}
use Rattle.core_index.specs.Index.{known_at, room_at}
use Rattle.core_index.specs.Slots.{Place}
use Rattle.core_log.specs.Log.{LogState}
use Rattle.log_standing.specs.NameCounts.{StandingState, count_of}
use Rattle.log_standing.specs.ChunkCounts.{chunks_in}
use Rattle.lazy_alloc.specs.Heads.{is_free, class_in}
use Rattle.lazy_alloc.specs.Sets.{Sets, chunk_is_free, chunk_class, chunk_is_due, block_is_used}

-- Whatever the region tells: each record of the index has a version and a body that words can spell.
abbrev pub IsSpelledIndex : List (ℕ × Place) → Type 0
IsSpelledIndex es = (k : ℕ) (r : KeyRecord) → known_at es k ≡ Some r
    → HasSpelling (record { key = k; version = r.version; body = r.body })

-- a key of the part's core whose winner points there
pub record IsWon (l : Geometry) (image : ℕ → ℕ) (c p : ℕ) : Type 0 where
  pub key : ℕ
  pub winner_is : PlacedEntry
  pub wins : winner l image key ≡ Some winner_is
  pub owned : owner l key ≡ c
  pub points : winner_is.entry.body ≡ Pointer p

-- The allocator of part c: the heads say what is free and what is cut, and exactly the blocks of winners are allocated.
pub record IsAllocatorOf (l : Geometry) (image : ℕ → ℕ) (c : ℕ) (a : Sets) : Type 0 where
  pub free : (j : ℕ) → j < l.chunks → chunk_is_free a j
      ≡ is_free (head_at l image (chunk_first l c j))
  pub class : (j : ℕ) → j < l.chunks → chunk_class a j
      ≡ class_in (head_at l image (chunk_first l c j))
  pub due : (j : ℕ) → chunk_is_due a j ≡ false
  pub won : (p : ℕ) → block_is_used a p ≡ true → IsWon l image c p
  pub all : (p : ℕ) → IsWon l image c p → block_is_used a p ≡ true

-- the last version of a key and what it left, as its winner has them
abbrev pub KnownAs : Option PlacedEntry → Option KeyRecord → Type 0
KnownAs None r = r ≡ None
KnownAs (Some x) None = ⊥
KnownAs (Some x) (Some r) = (r.version ≡ x.entry.version) × (r.body ≡ x.entry.body)

-- an entry of this name, where one stands
abbrev pub named_in : ℕ → ℕ → List PlacedEntry → Option PlacedEntry
named_in k v es = find (λ x. x.entry.key == k && x.entry.version == v) es

-- The index of core c: its keys have their winners, all their entries stand, and no death was told.
pub record IsIndexOf (l : Geometry) (image : ℕ → ℕ) (c : ℕ) (es : List (ℕ × Place)) : Type 0 where
  pub others : (k : ℕ) → (owner l k ≡ c → ⊥) → known_at es k ≡ None
  pub known : (k : ℕ) → owner l k ≡ c → KnownAs (winner l image k) (known_at es k)
  pub standing : (k v : ℕ) → owner l k ≡ c → standing_at (standing_of (known_at es k)) v
      ≡ option_map (λ x. standing_with v x.core false) (named_in k v (all_entries l image))
  pub room : (k : ℕ) → room_at es k ≡ 0

-- The names that stand are those of the log's entries, each in as many copies as chunks have it.
abbrev pub HasCopiesOf : (ℕ → ℕ) → LogState → StandingState → Type 0
HasCopiesOf image log st = (k v : ℕ) → count_of st k v ≡ chunks_in image log k v
