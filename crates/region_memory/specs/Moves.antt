-- What a call of a history says to the region over it, which has a frame and a count of its own.
use Rattle.std.specs.Prelude.{◌≡◌, ◌⊎◌, Bool, List, [], ℕ, ◌+◌, ◌-◌, ◌^◌, ◌≤◌, ◌<◌, length, slice_index}
use Rattle.pm_region.specs.Cell.{Cell, certain}
use Rattle.region_memory.specs.Journals.{GoesOnFrom, Appends, cell_after, steps_to}
use Rattle.region_memory.specs.Image.{picked}
use Rattle.region_memory.specs.declared.crash_image.Pick.{Pick}
use Rattle.region_memory.specs.declared.region_journal.Journal.{Journal}
use Rattle.pm_region.specs.State.{State, Frame, Goes}
use Rattle.region_memory.specs.Histories.{state_by}
use Rattle.region_memory.specs.declared.history.History.{History}

abbrev pub history_state : Frame → ℕ → History → State
history_state frame faults h = state_by frame faults h.first h.start.items h.journal

pub record Moves (old new : History) (change : ℕ → Cell → Cell) : Type 0 where
  pub first : new.first ≡ old.first
  pub length : length new.words.items ≡ length old.words.items
  pub since : new.journal.since ≡ old.journal.since
  pub limit : new.journal.limit ≡ old.journal.limit
  pub shares : new.journal.shares ≡ old.journal.shares
  pub goes : (f : Frame) (n n' : ℕ) → f.since ≡ old.journal.since → n ≤ n'
      → Goes (history_state f n old) (history_state f n' new) change

-- just begun: these were the words, these are the words, the only moment is 0, and there is room up to the limit
pub record IsFresh (first : ℕ) (start words : List ℕ) (most : ℕ) (h : History) : Type 0 where
  pub first_is : h.first ≡ first
  pub start_is : h.start.items ≡ start
  pub words_are : h.words.items ≡ words
  pub steps : h.journal.steps.items ≡ []
  pub base : h.journal.base ≡ 0
  pub since : h.journal.since ≡ 0
  pub stamp : h.journal.stamp ≡ 0
  pub limit : h.journal.limit ≡ most

-- the part of a history from one word to another, as it stands
pub record IsPart (h : History) (from end : ℕ) (part : History) : Type 0 where
  pub first : part.first ≡ from
  pub length : length part.words.items ≡ end - from
  pub journal : GoesOnFrom h.journal from end part.journal
  pub start : (k : ℕ) → k < end - from → slice_index part.start.items k ≡ slice_index h.start.items
      (from - h.first + k)

-- the cell of a word now
abbrev pub cell_of : History → ℕ → Cell
cell_of h w = cell_after h.journal.steps.items w (certain (slice_index h.start.items (w - h.first)))

-- the words are the last values
abbrev pub IsUpToDate : History → Type 0
IsUpToDate h = (k : ℕ) → k < length h.words.items → slice_index h.words.items k
    ≡ (cell_of h (h.first + k)).last

-- the words stay, and what they were at first
pub record SaysAgain (old new : History) : Type 0 where
  pub first : new.first ≡ old.first
  pub start : new.start.items ≡ old.start.items
  pub words : new.words.items ≡ old.words.items

-- it takes the words and the steps of a piece
pub record Absorbs (old new piece : History) (taken : Bool) : Type 0 where
  pub first : new.first ≡ old.first
  pub start : new.start.items ≡ old.start.items
  pub same_length : length new.words.items ≡ length old.words.items
  pub journal : Appends old.journal new.journal piece.journal taken
  pub inner : (k : ℕ) → k < length piece.words.items
      → slice_index new.words.items (piece.first - old.first + k) ≡ slice_index piece.words.items k
  pub outer : (k : ℕ) → (k < piece.first - old.first)
      ⊎ (piece.first - old.first + length piece.words.items ≤ k) → slice_index new.words.items k
      ≡ slice_index old.words.items k

pub record IsToldBy (j : Journal) (t : ℕ) : Type 0 where
  pub since : j.since ≤ t
  pub kept : t ≤ j.limit
  pub seen : t ≤ j.stamp
  pub below : t < 2 ^ 64 - 1

-- the value of a word in the image that is picked at a stamp, by its place
abbrev pub picked_at : History → ℕ → Pick → ℕ → ℕ
picked_at h t pick k = picked pick (h.first + k) (cell_after (steps_to h.journal t) (h.first + k)
    (certain (slice_index h.start.items k)))

-- the words of the image that is picked at a stamp
pub record IsImageAt (h : History) (t : ℕ) (pick : Pick) (image : List ℕ) : Type 0 where
  pub count : length image ≡ length h.words.items
  pub each : (k : ℕ) → k < length h.words.items → slice_index image k ≡ picked_at h t pick k
