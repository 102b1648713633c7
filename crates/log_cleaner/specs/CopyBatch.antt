-- The next batch of a chunk's copies.
use Rattle.std.specs.Prelude.{◌≡◌, ◌≢◌, ℕ, ◌+◌, ◌-◌, ◌≤◌, ◌<◌, not, List, [], ◌∷◌, map, length, take, Option, Some, None, if◌then◌else◌}
use Rattle.std.specs.List.{filter, flat_map, AllByRecursion}
use Rattle.pm_region.specs.Words.{lines_for}
use Rattle.pm_region.specs.State.{State, IsTelling}
use Rattle.log_entry.specs.declared.entry_limits.TheConstants.{MOST_ENTRIES}
use Rattle.log_entry.specs.declared.entry.Entry.{Entry}
use Rattle.log_entry.specs.Spelling.{words_of, HasSpelling}
use Rattle.core_log.specs.Log.{LogState, StandsIn, tail_of, open_number, room_of}
use Rattle.core_log.specs.Walking.{entries_in}
use Rattle.log_standing.specs.NameCounts.{StandingState, copies_at, count_of, one_more, is_told}
use Rattle.log_standing.specs.ChunkCounts.{is_named, has_name}
use Rattle.log_cleaner.specs.declared.types.Victim.{Victim}
use Rattle.log_cleaner.specs.Copying.{left_to_copy, words_sum, IsUpToDate, IsEachOnce}

-- of equal entries the first
abbrev pub firsts : List (ℕ × Entry) → List (ℕ × Entry)
firsts [] = []
firsts (x ∷ xs) = x ∷ filter (λ y. not (is_named x.1.key x.1.version y)) (firsts xs)

-- the next entries by place that are still to be copied, equal ones once: as many as a batch has, or all
abbrev pub next_batch : StandingState → List (ℕ × Entry) → List (ℕ × Entry)
next_batch st es = take MOST_ENTRIES (firsts (left_to_copy st es))

abbrev pub entries_of : List (ℕ × Entry) → List Entry
entries_of xs = map (λ x. x.1) xs

abbrev pub batch_in : State → LogState → StandingState → ℕ → List (ℕ × Entry)
batch_in s log st j = next_batch st (entries_in s log j)

-- its entries, and that they fit in the open chunk
abbrev pub copies_in : State → LogState → StandingState → ℕ → List Entry
copies_in s log st j = entries_of (batch_in s log st j)

abbrev pub CopiesFit : State → LogState → StandingState → ℕ → Type 0
CopiesFit s log st j = IsTelling s → lines_for (length (flat_map words_of (copies_in s log st j)))
    ≤ room_of log

-- each name of these entries has one copy more
abbrev pub Adds : StandingState → StandingState → List (ℕ × Entry) → Type 0
Adds old new xs = (k v : ℕ)
    → copies_at new k v ≡ (if has_name xs k v then Some (one_more (copies_at old k v))
    else copies_at old k v)

-- Just the names stand that stood, of which none was told dead besides, and as many places are reserved.
pub record KeepsNames (old new : StandingState) : Type 0 where
  pub stood : (k n : ℕ) → 0 < count_of new k n → 0 < count_of old k n
  pub stands : (k n : ℕ) → 0 < count_of old k n → 0 < count_of new k n
  pub told : (k n : ℕ) → is_told new k n ≡ is_told old k n
  pub count : length new.entries ≡ length old.entries
  pub room : new.room ≡ old.room

-- the batch was collected: so many entries, their words, and the names that have a second copy now
pub record Collected (old new : StandingState) (batch : List (ℕ × Entry)) (count : ℕ)
    (words : List ℕ) : Type 0 where
  pub count_is : count ≡ length batch
  pub words_are : words ≡ flat_map words_of (entries_of batch)
  pub adds : Adds old new batch
  pub spelled : AllByRecursion HasSpelling (entries_of batch)

-- a chunk got entries, and no other one's tail moved
pub record SameElse (old new : LogState) (j : ℕ) : Type 0 where
  pub layout : new.layout ≡ old.layout
  pub part : new.part ≡ old.part
  pub opened : new.opened ≡ old.opened
  pub tails : (i : ℕ) → i ≢ j → tail_of new.chunks i ≡ tail_of old.chunks i

-- by the batch, just so many entries and words; and still no two that are left are equal
pub record IsLessJust (old new : StandingState) (es : List (ℕ × Entry)) : Type 0 where
  pub entries : length (next_batch old es) + length (left_to_copy new es)
      ≡ length (left_to_copy old es)
  pub words : words_sum (next_batch old es) + words_sum (left_to_copy new es)
      ≡ words_sum (left_to_copy old es)
  pub once : IsEachOnce (left_to_copy new es)

-- What is left to be copied is less by the batch, in entries and in words: by just so much where no two that are left are equal, since equal ones wait together and one is copied.
pub record IsLess (old new : StandingState) (es : List (ℕ × Entry)) : Type 0 where
  pub entries : length (next_batch old es) + length (left_to_copy new es)
      ≤ length (left_to_copy old es)
  pub words : words_sum (next_batch old es) + words_sum (left_to_copy new es)
      ≤ words_sum (left_to_copy old es)
  pub just : IsEachOnce (left_to_copy old es) → IsLessJust old new es
  pub none : length (next_batch old es) < MOST_ENTRIES → left_to_copy new es ≡ []

-- so many entries were copied, with these words; none only where none is left
pub record IsCopyBatch (s : State) (log : LogState) (st : StandingState) (j n : ℕ) (ws : List ℕ) :
    Type 0 where
  pub count : n ≡ length (batch_in s log st j)
  pub words : ws ≡ flat_map words_of (copies_in s log st j)
  pub none : n ≡ 0 → left_to_copy st (entries_in s log j) ≡ []

-- how many entries were copied: none where no number was given
abbrev pub copied_in : Option ℕ → ℕ
copied_in None = 0
copied_in (Some n) = n

-- After a batch of copies. No other tail moved than the open chunk's, each name of the batch has one copy more, the entries of the victim's chunk stay, and what is left of them is less.
pub record HasCopied (s t : State) (log log' : LogState) (old new : StandingState) (j : ℕ) :
    Type 0 where
  pub stands : StandsIn t log'
  pub tails : SameElse log log' (open_number log)
  pub adds : IsTelling s → Adds old new (batch_in s log old j)
  pub standing : IsTelling t → IsUpToDate t log' new
  pub chunk : IsTelling t → entries_in t log' j ≡ entries_in s log j
  pub less : IsTelling s → IsLess old new (entries_in s log j)

-- numbers that a caller keeps of what is left of these entries: it is no more
pub record Bounds (v : Victim) (st : StandingState) (es : List (ℕ × Entry)) : Type 0 where
  pub entries : length (left_to_copy st es) ≤ v.entries
  pub words : words_sum (left_to_copy st es) ≤ v.words

-- the numbers after a batch of so many entries and words
abbrev pub lowered_by : Victim → ℕ → ℕ → Victim
lowered_by v n w = record v { entries = v.entries - n; words = v.words - w }
