-- Keys that were deleted before the start, each by an entry that stands alone.
use Rattle.std.specs.Prelude.{◌≡◌, ◌≢◌, ℕ, ◌+◌, ◌*◌, ◌<◌, ◌≤◌, ◌==◌, true, false, List, [], ◌∷◌, length, slice_index_or, Option, Some, None, if◌then◌else◌}
use Rattle.std.specs.List.{AllByRecursion}
use Rattle.log_entry.specs.declared.entry.Body.TheVariants as bodies
use Rattle.log_entry.specs.declared.entry.EntryName.{EntryName}
use Rattle.core_index.specs.declared.types.Fate.{Fate}
use Rattle.core_index.specs.declared.types.Fate.TheVariants.{Untold, Told, Gone, Moved}
use Rattle.core_index.specs.declared.types.StandingEntry.{StandingEntry}
use Rattle.core_index.specs.declared.types.Tombstone.{Tombstone}
use Rattle.core_index.specs.Records.{KeyRecord, standing_with}
use Rattle.core_index.specs.Slots.{Place}
use Rattle.core_index.specs.Short.{version_of, home_of}

abbrev pub key_of : Tombstone → ℕ
key_of t = t.high * 4294967296 + t.low

-- the version of the entry, and the core in whose log it stands
abbrev pub tomb_version : Tombstone → ℕ
tomb_version t = version_of t.version_low t.version_and_home

abbrev pub tomb_home : Tombstone → ℕ
tomb_home t = home_of t.version_and_home

abbrev pub name_of : Tombstone → EntryName
name_of t = record { key = key_of t; version = tomb_version t }

abbrev pub deleted : ℕ → List StandingEntry → KeyRecord
deleted v ss = record { version = v; body = bodies.Tombstone; standing = ss }

abbrev pub left_by : Fate → ℕ → ℕ → Option KeyRecord
left_by Untold v home = Some (deleted v (standing_with v home false ∷ []))
left_by Told v home = Some (deleted v (standing_with v home true ∷ []))
left_by Gone v home = Some (deleted v [])
left_by Moved v home = None

-- the entry stands
abbrev pub IsThere : Fate → Type 0
IsThere Untold = Unit {0}
IsThere Told = Unit {0}
IsThere Gone = ⊥
IsThere Moved = ⊥

-- the entry has this version, and stands
abbrev pub StandsAs : ℕ → Tombstone → Type 0
StandsAs v t = ((tomb_version t) ≡ v) × IsThere t.fate

abbrev pub standing_by : Fate → ℕ → ℕ → Option StandingEntry
standing_by Untold v home = Some (standing_with v home false)
standing_by Told v home = Some (standing_with v home true)
standing_by Gone v home = None
standing_by Moved v home = None

-- the entry, where it stands
abbrev pub standing_left : Tombstone → Option StandingEntry
standing_left t = standing_by t.fate (tomb_version t) (tomb_home t)

-- the record of the key, where it is not elsewhere
abbrev pub left_of : Tombstone → Option KeyRecord
left_of t = left_by t.fate (tomb_version t) (tomb_home t)

abbrev pub place_of : Tombstone → Place
place_of t = record { known = left_of t; room = 0 }

abbrev pub found_at : List Tombstone → ℕ → Option Tombstone
found_at [] k = None
found_at (t ∷ ts) k = if key_of t == k then Some t else found_at ts k

-- what the index keeps of these keys
abbrev pub tomb_places : List Tombstone → List (ℕ × Place)
tomb_places [] = []
tomb_places (t ∷ ts) = (key_of t, place_of t) ∷ tomb_places ts

abbrev pub with_fate : Fate → Tombstone → Tombstone
with_fate f t = record { high = t.high; low = t.low; version_low = t.version_low; version_and_home = t.version_and_home; fate = f }

-- the list, in which a key's entry has another fate
abbrev pub fated : List Tombstone → ℕ → Fate → List Tombstone
fated [] k f = []
fated (t ∷ ts) k f = if key_of t == k then with_fate f t ∷ ts else t ∷ fated ts k f

-- every key is less than this one
abbrev pub AreLess : List Tombstone → ℕ → Type 0
AreLess ts k = AllByRecursion (λ t. key_of t < k) ts

-- each key is below those behind it
abbrev pub Rising : List Tombstone → Type 0
Rising [] = Unit {0}
Rising (t ∷ ts) = AllByRecursion (λ x. key_of t < key_of x) ts × Rising ts

-- the key is there
abbrev pub bare_tombstone : Tombstone
bare_tombstone = record { high = 0; low = 0; version_low = 0; version_and_home = 0; fate = Moved }

pub record IsSpot (ts : List Tombstone) (k i : ℕ) : Type 0 where
  pub within : i < length ts
  pub key : (d : Tombstone) → key_of (slice_index_or ts i d) ≡ k

-- the keys before this place are less, and the one there is not
pub record IsFirst (ts : List Tombstone) (k at : ℕ) : Type 0 where
  pub within : at < length ts
  pub less : (i : ℕ) (d : Tombstone) → i < at → key_of (slice_index_or ts i d) < k
  pub first : (d : Tombstone) → k ≤ key_of (slice_index_or ts at d)

-- the key is nowhere
abbrev pub IsMissing : List Tombstone → ℕ → Type 0
IsMissing ts k = AllByRecursion (λ t. key_of t ≢ k) ts

-- the keys, and for each home how many of them it was asked about from the front on
pub record Tombs : Type 0 where
  pub items : List Tombstone
  pub passed : List ℕ

abbrev pub passed_at : Tombs → ℕ → ℕ
passed_at b home = slice_index_or b.passed home 0

-- The name is that of an entry at this home which its home was not asked about.
pub record Ahead (b : Tombs) (home : ℕ) (n : EntryName) : Type 0 where
  pub at : ℕ
  pub from : passed_at b home ≤ at
  pub within : at < length b.items
  pub key : key_of (slice_index_or b.items at bare_tombstone) ≡ n.key
  pub version : tomb_version (slice_index_or b.items at bare_tombstone) ≡ n.version
  pub home_is : tomb_home (slice_index_or b.items at bare_tombstone) ≡ home

-- What is true of the fields of a list of such keys in any order.
pub record AreListed (ts : List Tombstone) (passed : List ℕ) : Type 0 where
  pub homes : AllByRecursion (λ t. tomb_home t < 16) ts
  pub within : AllByRecursion (λ n. n ≤ length ts) passed
