-- Images of a range of words, and what narrows them.
use Rattle.std.specs.Prelude.{◌≡◌, ◌⊎◌, ℕ, ◌+◌, ◌*◌, ◌≤◌, ◌<◌, ◌-◌, ◌/◌}
use Rattle.pm_region.specs.declared.region_sizes.TheConstants.{LINE_WORDS}
use Rattle.pm_region.specs.Cell.{Cell, fenced, MayBe}
use Rattle.pm_region.specs.State.{State, cell_now}

-- how many lines so many words take, the last one filled up
abbrev pub lines_for : ℕ → ℕ
lines_for n = (n + (LINE_WORDS - 1)) / LINE_WORDS

-- the cell is as it was, or as a fence leaves it: the word was neither stored nor flushed
abbrev pub Kept : Cell → Cell → Type 0
Kept old new = (new ≡ old) ⊎ (new ≡ fenced old)

-- each word outside the range is kept
abbrev pub KeepsOutside : (ℕ → Cell) → ℕ → ℕ → (ℕ → Cell) → Type 0
KeepsOutside old from end new = (w : ℕ) → (w < from) ⊎ (end ≤ w) → Kept (old w) (new w)

-- a crash leaves no value that it couldn't leave before
abbrev pub Narrows : Cell → Cell → Type 0
Narrows old new = (v : ℕ) → MayBe new v → MayBe old v

-- a crash leaves this value and no other
abbrev pub Surely : Cell → ℕ → Type 0
Surely c v = (x : ℕ) → MayBe c x → x ≡ v

-- of each word of the range a crash may leave the image's value
abbrev pub MayLeaveIn : (ℕ → Cell) → ℕ → ℕ → (ℕ → ℕ) → Type 0
MayLeaveIn cells from end image = (w : ℕ) → from ≤ w → w < end → MayBe (cells w) (image w)

-- each image of the range has P
abbrev pub EachIn : ℕ → ℕ → ((ℕ → ℕ) → Type 0) → (ℕ → Cell) → Type 0
EachIn from end P cells = (image : ℕ → ℕ) → MayLeaveIn cells from end image → P image

-- the last value of each word: what a load gives
abbrev pub lasts : State → ℕ → ℕ
lasts s w = (cell_now s w).last

-- one word of a line is stored, and may be what it might be before or the new value; no other word is stored, and no word of another line is written
pub record Sets (old : ℕ → Cell) (line at after : ℕ) (new : ℕ → Cell) : Type 0 where
  pub either : (v : ℕ) → MayBe (new at) v → MayBe (old at) v ⊎ (v ≡ after)
  pub beside : (w : ℕ) → (w ≡ at → ⊥) → Narrows (old w) (new w)
  pub others : KeepsOutside old (LINE_WORDS * line) (LINE_WORDS * line + LINE_WORDS) new
