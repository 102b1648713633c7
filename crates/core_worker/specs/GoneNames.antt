-- Names that stand in no log any more: their entries leave the records of their keys, and a key of which nothing stands is forgotten.
use Rattle.std.specs.Prelude.{◌≡◌, ℕ, ◌≤◌, ◌==◌, ◌&&◌, not, Bool, true, false, List, [], ◌∷◌, length, Option, Some, None, option_map, if◌then◌else◌}
use Rattle.std.specs.List.{filter, list_any}
use Rattle.log_entry.specs.declared.entry.Entry.{Entry}
use Rattle.log_entry.specs.declared.entry.EntryName.{EntryName}
use Rattle.core_index.specs.Index.{all_untold, known_at, SameRoom}
use Rattle.core_index.specs.Records.{KeyRecord, Awaits, is_forgettable}
use Rattle.core_index.specs.Slots as slots
use Rattle.group_laws.specs.Updates.{has}
use Rattle.store_image.specs.Facts.{In}
use Rattle.group_laws.specs.Places as groups
use Rattle.group_board.specs.Views.{TidiedIn}
use Rattle.group_laws.specs.MemberViews.{View}
use Rattle.core_worker.specs.declared.types.Place.{Place}
use Rattle.core_worker.specs.declared.types.Place.TheVariants.{Free, Staged, Posted}
use Rattle.core_worker.specs.OwnPlaces.{place_at}
use Rattle.core_worker.specs.KeyTies.{KnowsKey}
use Rattle.core_worker.specs.Hearing.{HearsAll}

-- a change of the key is posted
abbrev pub is_out : List Place → ℕ → Bool
is_out [] k = false
is_out (Free ∷ xs) k = is_out xs k
is_out (Staged number entry value ∷ xs) k = is_out xs k
is_out (Posted number key lines ∷ xs) k = if k == key then true else is_out xs k

-- the record without the entries of these names
abbrev pub lacking : List EntryName → ℕ → KeyRecord → KeyRecord
lacking ns k r = record {
  version = r.version;
  body = r.body;
  standing = filter (λ s. not (has ns k s.version)) r.standing;
}

-- one of the names is the key's
abbrev pub names_key : List EntryName → ℕ → Bool
names_key ns k = list_any (λ n. n.key == k) ns

-- Nothing is known any more of a key that is deleted and of which nothing stands, where no change of it is posted.
abbrev pub recalled : Bool → Option KeyRecord → Option KeyRecord
recalled out o = if is_forgettable o && not out then None else o

-- the first change of a key
abbrev pub first_of : Entry → Entry
first_of e = record { key = e.key; version = 1; body = e.body }

-- a staged change of the key is its first one
abbrev pub restarted : ℕ → Place → Place
restarted k Free = Free
restarted k (Staged number entry value) = if k == entry.key then Staged number (first_of entry) value
    else Staged number entry value
restarted k (Posted number key lines) = Posted number key lines

-- staged changes of the keys of a test are the first ones
abbrev pub restarted_by : (ℕ → Bool) → Place → Place
restarted_by test Free = Free
restarted_by test (Staged number entry value) = if test entry.key
    then Staged number (first_of entry) value else Staged number entry value
restarted_by test (Posted number key lines) = Posted number key lines

-- one of the names is the key's, and it is to be forgotten
abbrev pub is_forgotten : List EntryName → List Place → List (ℕ × slots.Place) → ℕ → Bool
is_forgotten ns ps es k = names_key ns k && (is_forgettable (known_at es k) && not (is_out ps k))

-- These names are taken out of the records, and nothing else changed.
pub record Lacks (ns : List EntryName) (old new : List (ℕ × slots.Place)) : Type 0 where
  pub known : (k : ℕ) → known_at new k ≡ option_map (lacking ns k) (known_at old k)
  pub room : SameRoom old new
  pub untold : all_untold new ≤ all_untold old

-- The key is forgotten, where it may be, and a staged change of it is its first one; nothing else changed.
pub record ForgetsKey (k : ℕ) (ps qs : List Place) (old new : List (ℕ × slots.Place)) : Type 0 where
  pub known : (j : ℕ) → known_at new j ≡ (if j == k then recalled (is_out ps k) (known_at old k)
      else known_at old j)
  pub room : SameRoom old new
  pub untold : all_untold new ≤ all_untold old
  pub count : length qs ≡ length ps
  pub places : (s : ℕ) → place_at qs s
      ≡ (if is_forgettable (known_at old k) && not (is_out ps k) then restarted k (place_at ps s)
      else place_at ps s)

-- Of the names' keys those were forgotten that may be, and their staged changes are the first ones; nothing else changed.
pub record Forgets (ns : List EntryName) (ps qs : List Place) (old new : List (ℕ × slots.Place)) :
    Type 0 where
  pub known : (k : ℕ) → known_at new k
      ≡ (if is_forgotten ns ps old k then None else known_at old k)
  pub room : SameRoom old new
  pub untold : all_untold new ≤ all_untold old
  pub count : length qs ≡ length ps
  pub places : (s : ℕ) → place_at qs s ≡ restarted_by (is_forgotten ns ps old) (place_at ps s)

-- Both.
pub record LosesNames (ns : List EntryName) (ps qs : List Place) (old new : List (ℕ × slots.Place)) :
    Type 0 where
  pub mid : List (ℕ × slots.Place)
  pub lacks : Lacks ns old mid
  pub forgets : Forgets ns ps qs mid new

-- What v has of its member's keys, but for these names, v' has too: they stand nowhere any more.
pub record LosesIn (p : groups.Place) (m : ℕ) (ns : List EntryName) (v v' : View) : Type 0 where
  pub last : (k : ℕ) → v'.last k ≡ v.last k
  pub cell : (k : ℕ) → v'.cell k ≡ v.cell k
  pub pending : (k : ℕ) → v'.pending k ≡ v.pending k
  pub blocks : v'.blocks ≡ v.blocks
  pub present : (k n : ℕ) → groups.owner p k ≡ m
      → v'.present k n ≡ (if has ns k n then None else v.present k n)
  pub told : (k n : ℕ) → groups.owner p k ≡ m
      → v'.told k n ≡ (if has ns k n then false else v.told k n)
  pub was : (k n h : ℕ) → v'.present k n ≡ Some h → v.present k n ≡ Some h
  pub own : (k n : ℕ) → has ns k n ≡ true → groups.owner p k ≡ m

-- What an index and the places have of the keys of member m by its view, as a core that runs keeps it: each own key's record, which changes are posted, and that no key without one has a record that is to be forgotten.
pub record KnowsAll (p : groups.Place) (m : ℕ) (v : View) (ps : List Place)
    (es : List (ℕ × slots.Place)) : Type 0 where
  pub keys : (k : ℕ) → groups.owner p k ≡ m → KnowsKey p v k (known_at es k)
  pub quiet : (k : ℕ) → groups.owner p k ≡ m → v.pending k ≡ None → is_out ps k ≡ false
  pub posted : (k : ℕ) → groups.owner p k ≡ m → is_out ps k ≡ false → v.pending k ≡ None
  pub remembers : (k : ℕ) → groups.owner p k ≡ m → v.pending k ≡ None
      → is_forgettable (known_at es k) ≡ false
  pub mine : (k n h : ℕ) → v.present k n ≡ Some h → groups.owner p k ≡ m
  pub heard : (k n : ℕ) → Awaits (known_at es k) (groups.core_of p m) n → ⊥

-- Names are gone from the view, and the two rules on its keys follow; the index and the places lose them too, and then the own dead names are told.
pub record LetsNamesGo (p : groups.Place) (m : ℕ) (ns : List EntryName) (v v' u : View)
    (ps qs : List Place) (es ix : List (ℕ × slots.Place)) : Type 0 where
  pub loses : LosesIn p m ns v v'
  pub tidied : TidiedIn p m v' u
  pub mid : List (ℕ × slots.Place)
  pub names : LosesNames ns ps qs es mid
  pub heard : HearsAll (groups.core_of p m) mid ix

-- of each own change that is posted the entry is certain still, where it was
abbrev pub SparesPosted : groups.Place → ℕ → View → View → Type 0
SparesPosted p m v u = (k s : ℕ) (e : Entry) → groups.owner p k ≡ m
    → v.pending k ≡ Some (record { entry = e; slot = Some s }) → In e v.kept → In e u.kept
