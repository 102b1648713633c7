-- What the standing of a worker has: the names of the entries of its own log, and which of them were told dead.
use Rattle.std.specs.Prelude.{◌≡◌, ◌⊎◌, ℕ, ◌+◌, ◌≤◌, ◌<◌, Bool, true, List, Option, Some, is_some}
use Rattle.std.specs.List.{count_by}
use Rattle.log_entry.specs.declared.entry.Entry.{Entry}
use Rattle.store_image.specs.Facts.{In}
use Rattle.group_laws.specs.Places.{Place, owner}
use Rattle.core_index.specs.Index.{known_at}
use Rattle.core_index.specs.Records.{Awaits}
use Rattle.core_index.specs.Slots as slots
use Rattle.core_worker.specs.declared.batch_names.TheConstants.{MOST_NAMES}
use Rattle.log_cleaner.specs.Tallied.{KeepsTally}
use Rattle.log_standing.specs.NameCounts.{StandingState, SameCopies, name_eq, copies_at, count_of, is_told, spot_of}

-- as many names as a batch may have
abbrev pub most_names : ℕ
most_names = MOST_NAMES

-- one of the entries has this name
abbrev pub IsNamedIn : List Entry → ℕ → ℕ → Type 0
IsNamedIn es k n = (e : Entry) × In e es × (e.key ≡ k) × (e.version ≡ n)

-- how many of the entries have this name
abbrev pub named_in : List Entry → ℕ → ℕ → ℕ
named_in es k n = count_by (λ (e : Entry). name_eq (e.key, e.version) (k, n)) es

-- What is so of member m's names whatever its region tells: who was told dead is dead, each dead name is that of an entry which is certain in its log, and so is each that it believes to stand there, which is dead once it was told.
pub record KnowsDead (m : ℕ) (kept : List Entry) (present : ℕ → ℕ → Option ℕ)
    (told dead : ℕ → ℕ → Bool) (st : StandingState) : Type 0 where
  pub deaths : (k n : ℕ) → is_told st k n ≡ true → dead k n ≡ true
  pub buried : (k n : ℕ) → dead k n ≡ true → IsNamedIn kept k n
  pub own : (k n : ℕ) → present k n ≡ Some m → IsNamedIn kept k n
  pub heard : (k n : ℕ) → present k n ≡ Some m → told k n ≡ true → dead k n ≡ true

-- What a member's view has of names, whatever stands in its log by the region: its certain entries of one name are one, what it believes to stand is of own keys, and the own names that are dead in its log were told and stand there.
pub record NamesAgree (p : Place) (m : ℕ) (kept : List Entry) (present : ℕ → ℕ → Option ℕ)
    (told dead : ℕ → ℕ → Bool) : Type 0 where
  pub bodies : (e f : Entry) → In e kept → In f kept → e.key ≡ f.key → e.version ≡ f.version
      → e ≡ f
  pub mine : (k n h : ℕ) → present k n ≡ Some h → owner p k ≡ m
  pub dead_told : (k n : ℕ) → owner p k ≡ m → dead k n ≡ true → told k n ≡ true
  pub stands : (k n : ℕ) → owner p k ≡ m → dead k n ≡ true → present k n ≡ Some m

-- nothing but the number of reserved places differs, and it is no less
pub record SameNames (old new : StandingState) : Type 0 where
  pub copies : SameCopies old new
  pub settled : new.settled ≡ old.settled
  pub room : old.room ≤ new.room
  pub tally : new.tally ≡ old.tally
  pub floors : new.floors ≡ old.floors

-- of each name that stands there is a copy
abbrev pub HasCopies : StandingState → Type 0
HasCopies st = (k n : ℕ) → is_some (copies_at st k n) ≡ true → 0 < count_of st k n

-- The name of each of the entries has one copy more, and none was told dead. What a search found of other names stays.
pub record AddsNames (old new : StandingState) (es : List Entry) : Type 0 where
  pub counts : (k n : ℕ) → count_of new k n ≡ count_of old k n + named_in es k n
  pub told : (k n : ℕ) → is_told new k n ≡ is_told old k n
  pub settled : new.settled ≡ old.settled
  pub spots : (k n : ℕ) → named_in es k n ≡ 0 → spot_of new k n ≡ spot_of old k n
  pub floors : new.floors ≡ old.floors

-- Of the names that stand exactly those were told dead besides that by the index awaited to be told to this home; and no other name was.
pub record HearsOwn (home : ℕ) (es : List (ℕ × slots.Place))
    (old new : StandingState) : Type 0 where
  pub counts : (k n : ℕ) → count_of new k n ≡ count_of old k n
  pub told : (k n : ℕ) → is_told new k n ≡ true → (is_told old k n ≡ true)
      ⊎ Awaits (known_at es k) home n
  pub all : (k n : ℕ) → 0 < count_of old k n → (is_told old k n ≡ true)
      ⊎ Awaits (known_at es k) home n → is_told new k n ≡ true
  pub settled : new.settled ≡ old.settled
  pub room : old.room ≤ new.room
  pub tally : KeepsTally old new
