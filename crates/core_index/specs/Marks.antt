-- The entries of a key in a list by rising version, in which an entry that is gone keeps its place for a while.
use Rattle.std.specs.Prelude.{◌≡◌, ◌≢◌, ℕ, ◌<◌, ◌≤◌, false, List, [], ◌∷◌, length, slice_index_or, if◌then◌else◌}
use Rattle.std.specs.List.{AllByRecursion}
use Rattle.core_index.specs.declared.types.Marked.{Marked}
use Rattle.core_index.specs.declared.types.StandingEntry.{StandingEntry}
use Rattle.core_index.specs.Records.{standing_with}

-- the entries that stand, room for more, and a version that none is above
pub record Marks : Type 0 where
  pub items : List StandingEntry
  pub room : ℕ
  pub top : ℕ

-- what stands
abbrev pub kept : List Marked → List StandingEntry
kept [] = []
kept (m ∷ ms) = if m.gone then kept ms else m.entry ∷ kept ms

abbrev pub marked : ℕ → ℕ → Marked
marked v home = record { entry = standing_with v home false; gone = false }

abbrev pub marked_as : StandingEntry → Marked
marked_as s = record { entry = s; gone = false }

abbrev pub mark_of : (ℕ × ℕ) → Marked
mark_of e = marked e.0 e.1

-- each version is below those behind it
abbrev pub Rises : List Marked → Type 0
Rises [] = Unit {0}
Rises (m ∷ ms) = AllByRecursion (λ x. m.entry.version < x.entry.version) ms × Rises ms

-- What is true of the fields of such a list.
pub record AreMarks (ms : List Marked) (left top : ℕ) : Type 0 where
  pub rises : Rises ms
  pub below : AllByRecursion (λ m. m.entry.version ≤ top) ms
  pub count : left ≡ length (kept ms)

-- the version is there
pub record IsPlace (ms : List Marked) (v i : ℕ) : Type 0 where
  pub within : i < length ms
  pub version : (d : Marked) → (slice_index_or ms i d).entry.version ≡ v

-- the version is nowhere
abbrev pub IsAbsent : List Marked → ℕ → Type 0
IsAbsent ms v = AllByRecursion (λ m. m.entry.version ≢ v) ms

-- the same entries, and no less room
pub record Keeps (old new : Marks) : Type 0 where
  pub items : new.items ≡ old.items
  pub top : new.top ≡ old.top
  pub room : old.room ≤ new.room
