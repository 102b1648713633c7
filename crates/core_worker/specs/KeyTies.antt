-- What a worker knows of its keys, as its view has it.
use Rattle.std.specs.Prelude.{◌≡◌, ◌≢◌, ◌⊎◌, ℕ, ◌+◌, ◌≤◌, true, List, length, Option, Some, None, option_map}
use Rattle.pm_region.specs.Words.{lines_for}
use Rattle.log_entry.specs.declared.entry.Body.{Body}
use Rattle.log_entry.specs.declared.entry.Body.TheVariants as bodies
use Rattle.log_entry.specs.declared.entry.Entry.{Entry}
use Rattle.log_entry.specs.Spelling.{HasSpelling, words_of}
use Rattle.chunk_map.specs.Layouts.{has_class}
use Rattle.core_index.specs.Records.{KeyRecord, last_of, standing_of, standing_at}
use Rattle.core_index.specs.declared.types.StandingEntry.{StandingEntry}
use Rattle.store_image.specs.Facts.{In}
use Rattle.lazy_alloc.specs.Sets.{Sets, class_at, block_is_used}
use Rattle.group_laws.specs.declared.types.Block.{Block}
use Rattle.group_laws.specs.Places.{Place, core_of, owner}
use Rattle.group_laws.specs.MemberViews.{View}
use Rattle.group_board.specs.Conditions.{IsFree}
use Rattle.core_worker.specs.declared.types.Place as places
use Rattle.core_worker.specs.declared.types.Place.TheVariants.{Free, Staged, Posted}
use Rattle.core_worker.specs.OwnPlaces.{place_at}

-- what the last change of a key left is the view's cell; a value in a block is what that block must hold
abbrev pub Left : View → ℕ → Body → Option (List ℕ) → Type 0
Left v k (bodies.Pointer q) cell = (u : List ℕ) × (cell ≡ Some u)
    × (v.blocks q ≡ Some (record { key = k; bytes = u }))
Left v k (bodies.Embedded u) cell = cell ≡ Some u
Left v k bodies.Tombstone cell = cell ≡ None

abbrev pub LeftIn : View → ℕ → Option KeyRecord → Option (List ℕ) → Type 0
LeftIn v k None cell = cell ≡ None
LeftIn v k (Some r) cell = Left v k r.body cell

-- The record of a key has the view's last version and cell, and the entries that stand, each with the core of its home.
pub record KnowsKey (p : Place) (v : View) (k : ℕ) (known : Option KeyRecord) : Type 0 where
  pub last : v.last k ≡ last_of known
  pub cell : LeftIn v k known (v.cell k)
  pub present : (n : ℕ) → option_map (core_of p) (v.present k n)
      ≡ option_map (λ s. s.home) (standing_at (standing_of known) n)
  pub told : (n : ℕ) (s : StandingEntry) → standing_at (standing_of known) n ≡ Some s
      → v.told k n ≡ s.told

-- the entry leaves something: its block must hold a value of the key, and a delete takes one away
abbrev pub Offers : View → ℕ → Body → Type 0
Offers v k (bodies.Pointer q) = (u : List ℕ) × (v.blocks q ≡ Some (record { key = k; bytes = u }))
Offers v k (bodies.Embedded u) = Unit {0}
Offers v k bodies.Tombstone = v.cell k ≢ None

-- What a place has of its slot. A staged change is the next one of a key without one under way; of a posted one the view has the entry, in this slot. It pledges nothing only once that entry is certain in the own log.
abbrev pub IsPlaced : Place → ℕ → View → ℕ → places.Place → Type 0
IsPlaced p m v s Free = IsFree v s
IsPlaced p m v s (Staged number entry value) =
    IsFree v s × (owner p entry.key ≡ m) × (v.pending entry.key ≡ None) × HasSpelling entry
    × (entry.version ≡ v.last entry.key + 1)
    × (entry.body ≡ bodies.Tombstone → v.cell entry.key ≢ None)
IsPlaced p m v s (Posted number key lines) =
    (e : Entry) × (v.pending key ≡ Some (record { entry = e; slot = Some s })) × (e.key ≡ key)
    × (owner p key ≡ m) × Offers v key e.body × ((lines ≡ lines_for (length (words_of e)))
    ⊎ ((lines ≡ 0) × In e v.kept)) × (lines ≤ 5)

-- the block of a staged change, of the class of the value that it is to hold
pub record IsStagedBlock (v : View) (ps : List places.Place) (q : ℕ) : Type 0 where
  pub slot : ℕ
  pub number : ℕ
  pub entry : Entry
  pub value : List ℕ
  pub place : place_at ps slot ≡ Staged number entry value
  pub points : entry.body ≡ bodies.Pointer q

-- an allocated block of the class of a value
pub record IsBlockFor (a : Sets) (q n : ℕ) : Type 0 where
  pub used : block_is_used a q ≡ true
  pub class : ℕ
  pub class_is : class_at a q ≡ Some class
  pub fits : has_class n class ≡ true

-- Exactly the view's blocks and those of staged changes are allocated, and no block is both, or of two staged changes.
pub record AreBlocks (v : View) (a : Sets) (ps : List places.Place) : Type 0 where
  pub held : (q : ℕ) (b : Block) → v.blocks q ≡ Some b → IsBlockFor a q (length b.bytes)
  pub staged : (q : ℕ) (x : IsStagedBlock v ps q) → IsBlockFor a q (length x.value)
      × (v.blocks q ≡ None)
  pub once : (q : ℕ) (x y : IsStagedBlock v ps q) → x.slot ≡ y.slot
  pub only : (q : ℕ) → block_is_used a q ≡ true → ((b : Block) × (v.blocks q ≡ Some b))
      ⊎ IsStagedBlock v ps q
