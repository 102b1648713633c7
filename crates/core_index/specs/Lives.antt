-- Keys that had a value at the start, each by an entry that stands alone.
use Rattle.std.specs.Prelude.{◌≡◌, ◌≢◌, ℕ, ◌+◌, ◌*◌, ◌<◌, ◌≤◌, ◌==◌, false, List, [], ◌∷◌, ◌++◌, length, take, drop, slice_index_or, Option, Some, None, if◌then◌else◌}
use Rattle.std.specs.List.{AllByRecursion}
use Rattle.log_entry.specs.declared.entry.Body.{Body}
use Rattle.log_entry.specs.declared.entry.Body.TheVariants as bodies
use Rattle.core_index.specs.declared.types.ValuePlace.{ValuePlace}
use Rattle.core_index.specs.declared.types.ValuePlace.TheVariants.{InBlock, Beside}
use Rattle.core_index.specs.declared.types.LiveFate.{LiveFate}
use Rattle.core_index.specs.declared.types.LiveFate.TheVariants.{Stands, Gone, Moved}
use Rattle.core_index.specs.declared.types.LiveKey.{LiveKey}
use Rattle.core_index.specs.Records.{KeyRecord, standing_with}
use Rattle.core_index.specs.Slots.{Place}
use Rattle.core_index.specs.Short.{version_of, home_of}

abbrev pub live_key : LiveKey → ℕ
live_key x = x.high * 4294967296 + x.low

-- the version of the entry, and the core in whose log it stands
abbrev pub entry_version : LiveKey → ℕ
entry_version x = version_of x.version_low x.version_and_home

abbrev pub entry_home : LiveKey → ℕ
entry_home x = home_of x.version_and_home

-- the bytes that a body has beside the key
abbrev pub bytes_in : Body → List ℕ
bytes_in (bodies.Pointer p) = []
bytes_in (bodies.Embedded v) = v
bytes_in bodies.Tombstone = []

-- what is held, where all values stand in these bytes
abbrev pub body_in : List ℕ → ValuePlace → Body
body_in bytes (InBlock p) = bodies.Pointer p
body_in bytes (Beside start size) = bodies.Embedded (take size (drop start bytes))

-- the value is in these bytes
abbrev pub IsWithin : List ℕ → ValuePlace → Type 0
IsWithin bytes (InBlock p) = Unit {0}
IsWithin bytes (Beside start size) = start + size ≤ length bytes

abbrev pub valued_by : LiveFate → ℕ → ℕ → Body → Option KeyRecord
valued_by Stands v home b = Some (record {
  version = v;
  body = b;
  standing = standing_with v home false ∷ [];
})
valued_by Gone v home b = Some (record { version = v; body = b; standing = [] })
valued_by Moved v home b = None

-- the record of the key, where it is not elsewhere
abbrev pub valued : List ℕ → LiveKey → Option KeyRecord
valued bytes x = valued_by x.fate (entry_version x) (entry_home x) (body_in bytes x.held)

-- the entry stands
abbrev pub IsStanding : LiveFate → Type 0
IsStanding Stands = Unit {0}
IsStanding Gone = ⊥
IsStanding Moved = ⊥

abbrev pub live_place : List ℕ → LiveKey → Place
live_place bytes x = record { known = valued bytes x; room = 0 }

abbrev pub live_at : List LiveKey → ℕ → Option LiveKey
live_at [] k = None
live_at (x ∷ xs) k = if live_key x == k then Some x else live_at xs k

abbrev pub places_of : List ℕ → List LiveKey → List (ℕ × Place)
places_of bytes [] = []
places_of bytes (x ∷ xs) = (live_key x, live_place bytes x) ∷ places_of bytes xs

abbrev pub with_live_fate : LiveFate → LiveKey → LiveKey
with_live_fate f x = record {
  high = x.high;
  low = x.low;
  version_low = x.version_low;
  version_and_home = x.version_and_home;
  fate = f;
  held = x.held;
}

-- the list, in which a key's entry has another fate
abbrev pub turned : List LiveKey → ℕ → LiveFate → List LiveKey
turned [] k f = []
turned (x ∷ xs) k f = if live_key x == k then with_live_fate f x ∷ xs else x ∷ turned xs k f

-- every key is less than this one
abbrev pub AllLess : List LiveKey → ℕ → Type 0
AllLess xs k = AllByRecursion (λ x. live_key x < k) xs

-- each key is below those behind it
abbrev pub KeysRise : List LiveKey → Type 0
KeysRise [] = Unit {0}
KeysRise (x ∷ xs) = AllByRecursion (λ y. live_key x < live_key y) xs × KeysRise xs

-- the key is there
pub record IsLiveSpot (xs : List LiveKey) (k i : ℕ) : Type 0 where
  pub within : i < length xs
  pub key : (d : LiveKey) → live_key (slice_index_or xs i d) ≡ k

-- the key is nowhere
abbrev pub IsNotThere : List LiveKey → ℕ → Type 0
IsNotThere xs k = AllByRecursion (λ x. live_key x ≢ k) xs

-- the keys, and the bytes of all values one behind the other
pub record Lives : Type 0 where
  pub items : List LiveKey
  pub bytes : List ℕ

-- what the index keeps of these keys
abbrev pub placed_lives : Lives → List (ℕ × Place)
placed_lives a = places_of a.bytes a.items

-- What is true of the fields of such a list.
pub record AreLives (xs : List LiveKey) (bytes : List ℕ) : Type 0 where
  pub rising : KeysRise xs
  pub within : AllByRecursion (λ x. IsWithin bytes x.held) xs

-- The key is above all others, and this says what is known of it once the bytes of the body are there.
pub record FitsLive (a : Lives) (k : ℕ) (body : Body) (known : KeyRecord) (x : LiveKey) : Type 0 where
  pub above : AllLess a.items k
  pub key : live_key x ≡ k
  pub within : IsWithin (a.bytes ++ bytes_in body) x.held
  pub valued_is : valued (a.bytes ++ bytes_in body) x ≡ Some known
