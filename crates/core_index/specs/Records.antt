-- A key's record, and which of its entries are dead.
use Rattle.std.specs.Prelude.{◌≡◌, ℕ, ◌+◌, ◌==◌, nat_lt, Bool, true, false, ◌&&◌, ◌||◌, not, List, [], ◌∷◌, ◌++◌, map, Option, Some, None, is_some, if◌then◌else◌}
use Rattle.std.specs.List.{filter, list_all}
use Rattle.std.specs.BTreeMap.{insert_entry}
use Rattle.std.specs.Ordering.{nat_cmp}
use Rattle.log_entry.specs.declared.entry.Body.{Body}
use Rattle.log_entry.specs.declared.entry.Body.TheVariants as bodies
use Rattle.core_index.specs.declared.types.Look.{Look}
use Rattle.core_index.specs.declared.types.Look.TheVariants as looks
use Rattle.core_index.specs.declared.types.Record.{Record}
use Rattle.core_index.specs.declared.types.Standee.{Standee}
use Rattle.core_index.specs.declared.types.StandingEntry.{StandingEntry}

-- the last version, what it left, and the entries that stand in a log
pub record KeyRecord : Type 0 where
  pub version : ℕ
  pub body : Body
  pub standing : List StandingEntry

abbrev pub standing_with : ℕ → ℕ → Bool → StandingEntry
standing_with v home told = record { version = v; home = home; told = told }

abbrev pub list_of : Option StandingEntry → List StandingEntry
list_of None = []
list_of (Some s) = s ∷ []

-- The entries that stand are a map from versions.
abbrev pub standing_at : List StandingEntry → ℕ → Option StandingEntry
standing_at [] v = None
standing_at (s ∷ ss) v = if s.version == v then Some s else standing_at ss v

abbrev pub is_tombstone : Body → Bool
is_tombstone (bodies.Pointer p) = false
is_tombstone (bodies.Embedded b) = false
is_tombstone bodies.Tombstone = true

-- no other version stands
abbrev pub stands_alone : List StandingEntry → ℕ → Bool
stands_alone ss v = list_all (λ s. s.version == v) ss

-- A version is dead where a later one is finished. A delete that is the last version is dead once no other version stands.
abbrev pub dies_in : ℕ → Bool → List StandingEntry → ℕ → Bool
dies_in last deleted ss v = nat_lt v last || (v == last && (deleted && stands_alone ss v))

abbrev pub is_dead : KeyRecord → ℕ → Bool
is_dead r v = dies_in r.version (is_tombstone r.body) r.standing v

-- The version stands at this home, is dead, and was not told.
pub record Awaits (o : Option KeyRecord) (home v : ℕ) : Type 0 where
  pub found : KeyRecord
  pub has : o ≡ Some found
  pub stands : standing_at found.standing v ≡ Some (standing_with v home false)
  pub dead : is_dead found v ≡ true

-- a key without a record has last version 0
abbrev pub last_of : Option KeyRecord → ℕ
last_of None = 0
last_of (Some r) = r.version

abbrev pub is_deleted : Option KeyRecord → Bool
is_deleted None = false
is_deleted (Some r) = is_tombstone r.body

abbrev pub standing_of : Option KeyRecord → List StandingEntry
standing_of None = []
standing_of (Some r) = r.standing

abbrev pub pointer_of : Body → Option ℕ
pointer_of (bodies.Pointer p) = Some p
pointer_of (bodies.Embedded b) = None
pointer_of bodies.Tombstone = None

-- the block of the value that the key has
abbrev pub block_of : Option KeyRecord → Option ℕ
block_of None = None
block_of (Some r) = pointer_of r.body

-- the record after a finished change whose entry stands at this home
abbrev pub settled : Option KeyRecord → ℕ → Body → ℕ → KeyRecord
settled o v body home = record {
  version = v;
  body = body;
  standing = standing_of o ++ standing_with v home false ∷ [];
}

abbrev pub with_told : List StandingEntry → ℕ → List StandingEntry
with_told [] v = []
with_told (s ∷ ss) v = if s.version == v then (standing_with s.version s.home true) ∷ ss
    else s ∷ with_told ss v

-- how many entries were not told
abbrev pub count_untold : List StandingEntry → ℕ
count_untold [] = 0
count_untold (s ∷ ss) = (if s.told then 0 else 1) + count_untold ss

-- the record once the death of a version was told
abbrev pub told_in : ℕ → KeyRecord → KeyRecord
told_in v r = record { version = r.version; body = r.body; standing = with_told r.standing v }

abbrev pub others : ℕ → List StandingEntry → List StandingEntry
others v ss = filter (λ s. not (s.version == v)) ss

-- the record once a version stands in no log
abbrev pub without : ℕ → KeyRecord → KeyRecord
without v r = record { version = r.version; body = r.body; standing = others v r.standing }

abbrev pub is_empty : List StandingEntry → Bool
is_empty [] = true
is_empty (s ∷ ss) = false

-- the key is deleted and no entry of it stands
abbrev pub is_forgettable : Option KeyRecord → Bool
is_forgettable None = false
is_forgettable (Some r) = is_tombstone r.body && is_empty r.standing

-- the version of a key that has a value
abbrev pub live_version : Option KeyRecord → Option ℕ
live_version None = None
live_version (Some r) = if is_tombstone r.body then None else Some r.version

abbrev pub ShowsBytes : List ℕ → Look → Type 0
ShowsBytes v (looks.Embedded b) = b.now ≡ v
ShowsBytes v (looks.Block p) = ⊥
ShowsBytes v looks.Unknown = ⊥
ShowsBytes v looks.Deleted = ⊥

abbrev pub ShowsBody : Body → Look → Type 0
ShowsBody (bodies.Pointer p) l = l ≡ looks.Block p
ShowsBody (bodies.Embedded v) l = ShowsBytes v l
ShowsBody bodies.Tombstone l = l ≡ looks.Deleted

-- what a look at the key shows
abbrev pub Shows : Option KeyRecord → Look → Type 0
Shows None l = l ≡ looks.Unknown
Shows (Some r) l = ShowsBody r.body l

abbrev pub untold : Standee → StandingEntry
untold s = standing_with s.version s.home false

-- the homes of entries as a map from versions; the first entry of a version counts
abbrev pub homes_of : List Standee → List (ℕ × ℕ)
homes_of [] = []
homes_of (s ∷ ss) = insert_entry nat_cmp (homes_of ss) s.version s.home

abbrev pub untold_at : (ℕ × ℕ) → StandingEntry
untold_at e = standing_with e.0 e.1 false

-- the entries by rising version
abbrev pub by_version : List Standee → List StandingEntry
by_version ss = map untold_at (homes_of ss)

-- the version is dead, if it stands
abbrev pub dies_of : Option KeyRecord → ℕ → Bool
dies_of o v = dies_in (last_of o) (is_deleted o) (standing_of o) v

-- what is known of a key at the start: no death was told yet
abbrev pub opened_with : ℕ → Body → List Standee → KeyRecord
opened_with v body standees = record { version = v; body = body; standing = by_version standees }

abbrev pub opened : Record → KeyRecord
opened r = opened_with r.version r.body r.standing.items

-- the version stands and is dead, as the record of its key has it
abbrev pub is_dead_in : Option KeyRecord → ℕ → Bool
is_dead_in None v = false
is_dead_in (Some r) v = is_some (standing_at r.standing v) && is_dead r v
