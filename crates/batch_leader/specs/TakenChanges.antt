-- What a leader took, and what its view has of it.
use Rattle.std.specs.Prelude.{◌≡◌, ℕ, ◌<◌, ◌==◌, ◌&&◌, Bool, true, false, List, [], ◌∷◌, map, Option, Some, None, slice_get, option_map, if◌then◌else◌}
use Rattle.std.specs.List.{flat_map, AllByRecursion}
use Rattle.log_entry.specs.declared.entry.Entry.{Entry}
use Rattle.log_entry.specs.declared.entry.EntryName.{EntryName}
use Rattle.log_entry.specs.Spelling.{words_of, HasSpelling}
use Rattle.group_laws.specs.declared.group_sizes.TheConstants.{SLOTS}
use Rattle.group_laws.specs.Places.{Place, members}
use Rattle.group_laws.specs.MemberViews.{View}
use Rattle.batch_leader.specs.declared.taken.Taken.{Taken}

abbrev pub entry_in : Taken → Entry
entry_in t = t.change.entry

-- the entries, in order
abbrev pub entries_taken : List Taken → List Entry
entries_taken ts = map entry_in ts

abbrev pub name_of : Taken → EntryName
name_of t = record { key = t.change.entry.key; version = t.change.entry.version }

abbrev pub name_in : List Taken → ℕ → Option EntryName
name_in ts i = option_map name_of (slice_get ts i)

-- what was taken out of a slot of a member
abbrev pub taken_in : List Taken → ℕ → ℕ → Option Entry
taken_in [] a s = None
taken_in (t ∷ ts) a s = if t.member == a && t.slot == s then Some t.change.entry else taken_in ts a
    s

-- no slot stands twice
abbrev pub AreApart : List Taken → Type 0
AreApart [] = Unit {0}
AreApart (t ∷ ts) = (taken_in ts t.member t.slot ≡ None) × AreApart ts

-- a change out of a slot of the group, whose entry has a spelling
pub record IsTaken (p : Place) (t : Taken) : Type 0 where
  pub member : t.member < members p
  pub slot : t.slot < SLOTS
  pub spelled : HasSpelling t.change.entry

-- the words of the entries, in order
abbrev pub spelled : List Taken → List ℕ
spelled ts = flat_map words_of (entries_taken ts)

-- The view's member has exactly these changes out.
pub record HasOut (p : Place) (v : View) (ts : List Taken) : Type 0 where
  pub each : AllByRecursion (IsTaken p) ts
  pub taken : (a s : ℕ) → v.taken a s ≡ taken_in ts a s
  pub apart : AreApart ts

abbrev pub MatchBool : Bool → Type 0 → Type 0 → Type 0
MatchBool true P Q = P
MatchBool false P Q = Q
