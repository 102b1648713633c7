-- Keys that are as they were at the start, each by the entry of its last version, and beside it by one older entry at most.
use Rattle.std.specs.Prelude.{◌≡◌, ◌⊎◌, ◌≤◌, ℕ, length, nat_lt, Bool, true, ◌&&◌, List, [], ◌∷◌, ◌++◌, Option, Some, None, is_some, option_map, if◌then◌else◌}
use Rattle.std.specs.List.{AllByRecursion}
use Rattle.log_entry.specs.declared.entry.EntryName.{EntryName}
use Rattle.core_index.specs.declared.start_keys.StartKeys.{StartKeys}
use Rattle.core_index.specs.declared.types.StandingEntry.{StandingEntry}
use Rattle.core_index.specs.declared.types.Tombstone.{Tombstone}
use Rattle.core_index.specs.Records.{KeyRecord, last_of, list_of}
use Rattle.core_index.specs.Slots.{Place}
use Rattle.core_index.specs.Places.{known_at}
use Rattle.core_index.specs.Tombs.{Ahead, key_of, tomb_version, standing_left, found_at}
use Rattle.core_index.specs.Lones.{lones, LoneAhead}

-- the entry stands, and is older than the last version of its key
abbrev pub is_older : Tombstone → Option KeyRecord → Bool
is_older t o = is_some (standing_left t) && nat_lt (tomb_version t) (last_of o)

-- the record with these entries before its own
abbrev pub joined : List StandingEntry → KeyRecord → KeyRecord
joined ss r = record { version = r.version; body = r.body; standing = ss ++ r.standing }

-- no entry stands but one of the last version
abbrev pub OfLast : Option KeyRecord → Type 0
OfLast None = Unit {0}
OfLast (Some r) = AllByRecursion (λ s. s.version ≡ r.version) r.standing × (length r.standing ≤ 1)

-- the record of a key of which such an entry stands too
abbrev pub beside : Tombstone → Option KeyRecord → Option KeyRecord
beside t o = option_map (joined (list_of (standing_left t))) o

abbrev pub twin_place : Option KeyRecord → Tombstone → Place
twin_place o t = record { known = beside t o; room = 0 }

-- the place of a key with this record, where an older entry stands too
abbrev pub twin_at : Option KeyRecord → Option Tombstone → Option Place
twin_at o None = None
twin_at o (Some t) = if is_older t o then Some (twin_place o t) else None

abbrev pub placed : ℕ → Option Place → List (ℕ × Place)
placed k None = []
placed k (Some p) = (k, p) ∷ []

-- the places of all such keys
abbrev pub twins : List Tombstone → List (ℕ × Place) → List (ℕ × Place)
twins [] ps = []
twins (t ∷ ts) ps = placed (key_of t) (twin_at (known_at ps (key_of t)) (Some t)) ++ twins ts ps

-- what the index keeps of all these keys
abbrev pub started : StartKeys → List (ℕ × Place)
started a = twins a.older.items (lones a.lone) ++ lones a.lone

-- This entry of the key stands beside the one of the last version.
pub record IsTwin (a : StartKeys) (k : ℕ) (t : Tombstone) : Type 0 where
  pub found : found_at a.older.items k ≡ Some t
  pub older : is_older t (known_at (lones a.lone) k) ≡ true

-- No older entry of the key stands.
abbrev pub IsLone : StartKeys → ℕ → Type 0
IsLone a k = twin_at (known_at (lones a.lone) k) (found_at a.older.items k) ≡ None

-- The name is that of a deleted key's entry or of an older one which its home was not asked about.
abbrev pub IsAhead : StartKeys → ℕ → EntryName → Type 0
IsAhead a home n = LoneAhead a.lone home n ⊎ (Ahead a.late home n ⊎ Ahead a.older home n)
