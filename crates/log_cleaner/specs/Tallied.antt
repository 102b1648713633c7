-- What is left of a chunk, as the names that stand in a log count it between two readings.
use Rattle.std.specs.Prelude.{◌≡◌, ℕ, ◌+◌, ◌-◌, ◌<◌, ◌≤◌, true, List, length, Some, is_some, if◌then◌else◌}
use Rattle.std.specs.List.{sum_by, count_by}
use Rattle.log_entry.specs.declared.entry.Entry.{Entry}
use Rattle.log_entry.specs.Spelling.{words_of}
use Rattle.core_log.specs.declared.types.Peek.{Peek}
use Rattle.log_standing.specs.ChunkCounts.{is_named}
use Rattle.log_standing.specs.NameCounts.{StandingState, floor_at, name_eq}
use Rattle.log_standing.specs.Tallies.{TallyState, amount_at, entries_held, more, words_held}
use Rattle.log_cleaner.specs.Copying.{left_to_copy, words_sum}
use Rattle.log_cleaner.specs.Floors.{HasFloor}

-- how many words the entries of a name take
abbrev pub words_named : ℕ → ℕ → List (ℕ × Entry) → ℕ
words_named k v es = sum_by (λ x. if is_named k v x then length (words_of x.1) else 0) es

-- what each name has of these entries
pub record HasAmounts (t : TallyState) (es : List (ℕ × Entry)) : Type 0 where
  pub entries : (k v : ℕ) → entries_held (amount_at t k v) ≡ count_by (is_named k v) es
  pub words : (k v : ℕ) → words_held (amount_at t k v) ≡ words_named k v es

-- an entry was noted, where there was room for its name
pub record NotesIf (old new : TallyState) (p : Peek) : Type 0 where
  pub noted : 0 < old.room → (k v : ℕ) → amount_at new k v
      ≡ (if name_eq (p.name.key, p.name.version) (k, v)
      then Some (more (amount_at old p.name.key p.name.version) (p.next - p.place))
      else amount_at old k v)
  pub full : old.room ≡ 0 → new ≡ old
  pub left : new.left ≡ old.left
  pub room : old.room ≤ new.room + 1

-- A tally has what is left of these entries, and what each name has of them.
pub record IsTallyOf (t : TallyState) (st : StandingState) (es : List (ℕ × Entry)) : Type 0 where
  pub entries : t.left.entries ≡ length (left_to_copy st es)
  pub words : t.left.words ≡ words_sum (left_to_copy st es)
  pub each : HasAmounts t es

-- the names that stand count what is left of these entries
pub record IsTallied (st : StandingState) (es : List (ℕ × Entry)) : Type 0 where
  pub tally : TallyState
  pub is : st.tally ≡ Some tally
  pub of : IsTallyOf tally st es

-- no more is counted, whatever it is counted of
pub record CountsLess (new : StandingState) (t : TallyState) : Type 0 where
  pub tally : TallyState
  pub is : new.tally ≡ Some tally
  pub entries : tally.left.entries ≤ t.left.entries
  pub words : tally.left.words ≤ t.left.words

-- What is counted of some entries stays so and only falls, and what was noted of a chunk stays right.
pub record KeepsTally (old new : StandingState) : Type 0 where
  pub less : (t : TallyState) → old.tally ≡ Some t → CountsLess new t
  pub tally : (es : List (ℕ × Entry)) → IsTallied old es → IsTallied new es
  pub noted : (j : ℕ) → is_some (floor_at new j) ≡ true → is_some (floor_at old j) ≡ true
  pub floors : (j : ℕ) (es : List (ℕ × Entry)) → HasFloor old j es → HasFloor new j es
