-- The index as its callers see it: a map from keys to records, with room for so many changes of a key to come.
use Rattle.std.specs.Prelude.{◌≡◌, ◌≢◌, ◌⊎◌, ◌<◌, ℕ, ◌+◌, ◌-◌, ◌≤◌, ◌==◌, List, [], ◌∷◌, ◌++◌, length, if◌then◌else◌, Option, Some, None, option_map}
use Rattle.std.specs.List.{sum_by, AllByRecursion}
use Rattle.std.specs.Map.{values_of}
use Rattle.log_entry.specs.declared.entry.Body.{Body}
use Rattle.log_entry.specs.declared.entry.EntryName.{EntryName}
use Rattle.core_index.specs.declared.types.Record.{Record}
use Rattle.core_index.specs.declared.types.Standee.{Standee}
use Rattle.core_index.specs.declared.types.LiveKey.{LiveKey}
use Rattle.core_index.specs.declared.types.Tombstone.{Tombstone}
use Rattle.core_index.specs.Records.{KeyRecord, Awaits, told_in, count_untold, standing_of, without, live_version, opened}
use Rattle.core_index.specs.Slots.{Place, mortal, lone_deaths, standee_with}
use Rattle.core_index.specs.declared.types.TheConstants.{NAMES_OF_CHANGE}
use Rattle.core_index.specs.Noted.{Book, Noted, name_with}
use Rattle.core_index.specs.declared.start_keys.StartKeys.{StartKeys}
use Rattle.core_index.specs.Lives.{FitsLive, placed_lives}
use Rattle.core_index.specs.declared.lone_keys.LoneKeys.{LoneKeys}
use Rattle.core_index.specs.Lones.{lones, LoneAhead}
use Rattle.core_index.specs.Starts.{started, twin_place, IsAhead}
use Rattle.core_index.specs.Tombs.{tomb_home, tomb_version, passed_at, Tombs, Ahead, AreLess, key_of, name_of, left_of, tomb_places}
pub use Rattle.core_index.specs.Places.{place_at, known_in, room_in, known_at, room_at}

abbrev pub mortal_in : Option Place → ℕ
mortal_in None = 0
mortal_in (Some p) = mortal p

-- how many entries may still die
abbrev pub all_mortal : List (ℕ × Place) → ℕ
all_mortal es = sum_by mortal (values_of es)

abbrev pub untold_in : Place → ℕ
untold_in p = count_untold (standing_of p.known)

-- how many entries that stand were not told
abbrev pub all_untold : List (ℕ × Place) → ℕ
all_untold es = sum_by untold_in (values_of es)

abbrev pub untold_of : Option Place → ℕ
untold_of None = 0
untold_of (Some p) = untold_in p

-- how many entries of the key that stand were not told
abbrev pub untold_by : Option KeyRecord → ℕ
untold_by o = count_untold (standing_of o)

-- The key has this now, and every other key what it had.
pub record Step (es fs : List (ℕ × Place)) (k : ℕ) (now : Option Place) : Type 0 where
  pub here : place_at fs k ≡ now
  pub others : (j : ℕ) → j ≢ k → place_at fs j ≡ place_at es j
  pub count : all_mortal fs + mortal_in (place_at es k) ≡ all_mortal es + mortal_in now
  pub untold : all_untold fs + untold_of (place_at es k) ≡ all_untold es + untold_of now

-- The key has this record now, and every other key the one that it had.
pub record Changes (old new : List (ℕ × Place)) (k : ℕ) (now : Option KeyRecord) : Type 0 where
  pub here : known_at new k ≡ now
  pub others : (j : ℕ) → j ≢ k → known_at new j ≡ known_at old j

abbrev pub SameRoom : List (ℕ × Place) → List (ℕ × Place) → Type 0
SameRoom old new = (j : ℕ) → room_at new j ≡ room_at old j

-- A dead entry that stands at this home was not told, and is told now. Nothing else changed.
pub record Tells (old new : List (ℕ × Place)) (home : ℕ) (n : EntryName) : Type 0 where
  pub waited : Awaits (known_at old n.key) home n.version
  pub change : Changes old new n.key (option_map (told_in n.version) (known_at old n.key))
  pub room : SameRoom old new

-- the same, with which entries wait afterwards, and how many are still to be told
pub record ToldAt (old new : List (ℕ × Place)) (home : ℕ) (n : EntryName) : Type 0 where
  pub tells : Tells old new home n
  pub others : (j : ℕ) → j ≢ n.key → place_at new j ≡ place_at old j
  pub waits : (w h : ℕ) → Awaits (known_at new n.key) h w → (w ≢ n.version)
      × Awaits (known_at old n.key) h w
  pub fewer : all_untold new + 1 ≡ all_untold old

abbrev pub gone_place : ℕ → Place → Place
gone_place v p = record { known = option_map (without v) p.known; room = p.room }

-- The key has no record any more. Its room stays.
pub record Forgets (old new : List (ℕ × Place)) (k : ℕ) : Type 0 where
  pub here : known_at new k ≡ None
  pub others : (j : ℕ) → j ≢ k → place_at new j ≡ place_at old j
  pub room : SameRoom old new
  pub count : all_mortal new ≤ all_mortal old
  pub untold : all_untold new ≤ all_untold old

-- The key has room for one change less. Nothing else of it changed, and no other key.
pub record GivesBack (old new : List (ℕ × Place)) (k : ℕ) : Type 0 where
  pub here : known_at new k ≡ known_at old k
  pub room : room_at new k + 1 ≡ room_at old k
  pub others : (j : ℕ) → j ≢ k → place_at new j ≡ place_at old j
  pub count : all_mortal new + NAMES_OF_CHANGE ≤ all_mortal old
  pub untold : all_untold new ≤ all_untold old

-- Of the room of all keys one has less now, where it had any.
pub record LessRoom (old new : List (ℕ × Place)) (k : ℕ) : Type 0 where
  pub here : room_at new k ≡ room_at old k - 1
  pub others : (j : ℕ) → j ≢ k → room_at new j ≡ room_at old j
  pub records : (j : ℕ) → known_at new j ≡ known_at old j
  pub untold : all_untold new ≤ all_untold old

-- the record of a key in a list, as it is at the start
abbrev pub opened_in : List Record → ℕ → Option KeyRecord
opened_in [] k = None
opened_in (r ∷ rs) k = if r.key == k then Some (opened r) else opened_in rs k

-- what the first list has, or else the second one
abbrev pub over : Option Place → Option Place → Option Place
over None o = o
over (Some p) o = Some p

-- What the index keeps of all keys: a key of the map is there, whatever the lists of the start have of it.
abbrev pub all_places : List (ℕ × Place) → StartKeys → List (ℕ × Place)
all_places es a = es ++ started a

-- A deleted key has this record now, and every other one what it had. No home was asked about more of them.
pub record Turns (old new : Tombs) (k : ℕ) (now : Option KeyRecord) : Type 0 where
  pub here : known_at (tomb_places new.items) k ≡ now
  pub others : (j : ℕ) → j ≢ k
      → place_at (tomb_places new.items) j ≡ place_at (tomb_places old.items) j
  pub ahead : (home : ℕ) (n : EntryName) → Ahead old home n → Ahead new home n

-- The key fits into the list of deleted keys by this, and is nowhere yet.
pub record IsCompact (es : List (ℕ × Place)) (a : StartKeys) (k v : ℕ) (known : KeyRecord)
    (t : Tombstone) : Type 0 where
  pub new : place_at es k ≡ None
  pub apart : place_at (placed_lives a.lone.live) k ≡ None
  pub above : AreLess a.lone.deleted.items k
  pub above_older : AreLess a.older.items k
  pub key : key_of t ≡ k
  pub home : tomb_home t < 16
  pub version : tomb_version t ≡ v
  pub left : left_of t ≡ Some known

-- The key fits into the list of keys with a value by this, and is not in the map.
pub record IsCompactLive (es : List (ℕ × Place)) (a : StartKeys) (k : ℕ) (body : Body)
    (known : KeyRecord) (x : LiveKey) : Type 0 where
  pub new : place_at es k ≡ None
  pub above_older : AreLess a.older.items k
  pub fits : FitsLive a.lone.live k body known x

-- The key has room for one more change, and is in the map.
pub record Admits (es fs : List (ℕ × Place)) (a b : StartKeys) (k : ℕ) : Type 0 where
  pub here : place_at fs k ≡ Some (record {
    known = known_at (all_places es a) k;
    room = room_at es k + 1;
  })
  pub others : (j : ℕ) → j ≢ k → place_at fs j ≡ place_at es j
  pub others_left : (j : ℕ) → j ≢ k → place_at (started b) j ≡ place_at (started a) j
  pub ahead : (home : ℕ) (n : EntryName) → IsAhead a home n → IsAhead b home n
  pub count : all_mortal fs ≤ all_mortal es + NAMES_OF_CHANGE + lone_deaths (known_at (started a) k)
  pub untold : all_untold (all_places fs b) ≤ all_untold (all_places es a)

-- What is true of the index's fields between two calls: each entry that waits to be told is noted, or its home will be
-- asked about it, and there is room for every name that may still die.
pub record IsIndex (es : List (ℕ × Place)) (a : StartKeys) (b : Book) : Type 0 where
  pub noted : (k v h : ℕ) → Awaits (known_at (all_places es a) k) h v
      → Noted b h (name_with k v) ⊎ IsAhead a h (name_with k v)
  pub spare : all_mortal es ≤ b.spare

-- the live keys with their versions, in the order of the entries
abbrev pub live_name : ℕ → Option ℕ → List EntryName
live_name k None = []
live_name k (Some v) = name_with k v ∷ []

abbrev pub live_names : List (ℕ × Place) → List EntryName
live_names [] = []
live_names (e ∷ es) = live_name e.0 (live_version e.1.known) ++ live_names es

-- no entry of the record stands above its version
abbrev pub HasNoneAbove : Record → Type 0
HasNoneAbove r = AllByRecursion (λ s. s.version ≤ r.version) r.standing.items

-- The key has this record now and no room, and every other key what it had.
pub record EntersAs (old new : List (ℕ × Place)) (k : ℕ) (known : KeyRecord) : Type 0 where
  pub change : Changes old new k (Some known)
  pub none : room_at new k ≡ 0
  pub room : (j : ℕ) → j ≢ k → room_at new j ≡ room_at old j

-- Of all records these are left, and the index has the others.
pub record Entering (all left : List Record) (es : List (ℕ × Place)) : Type 0 where
  pub done : List Record
  pub split : all ≡ left ++ done
  pub known : (k : ℕ) → known_at es k ≡ opened_in done k
  pub room : (k : ℕ) → room_at es k ≡ 0

-- The key has this now, and every other one what it had.
pub record TurnsAt (old new : List (ℕ × Place)) (k : ℕ) (now : Option Place) : Type 0 where
  pub here : place_at new k ≡ now
  pub others : (j : ℕ) → j ≢ k → place_at new j ≡ place_at old j

-- the place of a key that has no record any more
abbrev pub cleared : Place → Place
cleared p = record { known = None; room = p.room }

-- The same of the keys by their last versions alone.
pub record LoneTurns (old new : LoneKeys) (k : ℕ) (now : Option KeyRecord) : Type 0 where
  pub here : known_at (lones new) k ≡ now
  pub others : (j : ℕ) → j ≢ k → place_at (lones new) j ≡ place_at (lones old) j
  pub ahead : (home : ℕ) (n : EntryName) → LoneAhead old home n → LoneAhead new home n

-- A key is there now by the entry of its last version, and every other one as it was. Who waits by this is asked about.
pub record LoneAdded (old new : StartKeys) (k : ℕ) (p : Place) : Type 0 where
  pub here : place_at (lones new.lone) k ≡ Some p
  pub others : (j : ℕ) → j ≢ k → place_at (lones new.lone) j ≡ place_at (lones old.lone) j
  pub older : new.older ≡ old.older
  pub late : new.late ≡ old.late
  pub ahead : (home : ℕ) (n : EntryName) → LoneAhead old.lone home n → LoneAhead new.lone home n
  pub own : (home v : ℕ) → Awaits p.known home v → LoneAhead new.lone home (name_with k v)

-- Nothing that the index keeps of these keys changed, and no home was asked about more of them.
pub record Stays (old new : StartKeys) : Type 0 where
  pub places : started new ≡ started old
  pub ahead : (home : ℕ) (n : EntryName) → IsAhead old home n → IsAhead new home n

-- An older entry of a key stands too now, and its home will be asked about it. Every other key is as it was.
pub record OlderAdded (old new : StartKeys) (t : Tombstone) : Type 0 where
  pub here : place_at (started new) (key_of t) ≡ Some (twin_place (known_at (lones old.lone) (key_of t)) t)
  pub others : (j : ℕ) → j ≢ key_of t → place_at (started new) j ≡ place_at (started old) j
  pub ahead : (home : ℕ) (n : EntryName) → IsAhead old home n → IsAhead new home n
  pub own : IsAhead new (tomb_home t) (name_of t)

-- The key fits into the lists by its last version alone, and is there now.
pub record EntersLone (es : List (ℕ × Place)) (old new : StartKeys) (k : ℕ) (known : KeyRecord) : Type 0 where
  pub new_key : place_at es k ≡ None
  pub above_older : AreLess old.older.items k
  pub added : LoneAdded old new k (record { known = Some known; room = 0 })

-- No home was asked about more of the keys of the start, and who waits now waited before or its home will be asked about it.
pub record KeepsWaiting (es : List (ℕ × Place)) (old new : StartKeys) : Type 0 where
  pub ahead : (home : ℕ) (n : EntryName) → IsAhead old home n → IsAhead new home n
  pub waits : (k v home : ℕ) → Awaits (known_at (all_places es new) k) home v
      → Awaits (known_at (all_places es old) k) home v ⊎ IsAhead new home (name_with k v)

-- how many of a list a home was not asked about
abbrev pub left_to_ask : Tombs → ℕ → ℕ
left_to_ask b home = length b.items - passed_at b home

-- of all lists
abbrev pub to_ask : StartKeys → ℕ → ℕ
to_ask a home = left_to_ask a.lone.deleted home + left_to_ask a.late home + left_to_ask a.older home

-- Which entries of a key wait to be told: none that did not, but for the one that died, and for one that its home will be asked
-- about.
abbrev pub DeadOrAhead : StartKeys → ℕ → Option KeyRecord → Option KeyRecord → Option Standee → Type 0
DeadOrAhead a k old new dead = (v home : ℕ) → Awaits new home v → Awaits old home v
    ⊎ ((dead ≡ Some (standee_with v home)) ⊎ IsAhead a home (name_with k v))

-- A key has this record now, and every other one what it had. No home was asked about more of them.
pub record StartTurns (old new : StartKeys) (k : ℕ) (now : Option KeyRecord) : Type 0 where
  pub here : known_at (started new) k ≡ now
  pub others : (j : ℕ) → j ≢ k → place_at (started new) j ≡ place_at (started old) j
  pub ahead : (home : ℕ) (n : EntryName) → IsAhead old home n → IsAhead new home n
