-- What the head of a chunk is while it is set, and afterwards. A head's first two words are the kind and the tail.
use Rattle.std.specs.Prelude.{◌≡◌, ◌⊎◌, ℕ, ◌+◌, ◌*◌, ◌%◌, ◌≤◌, Result, Ok}
use Rattle.pm_region.specs.declared.region_sizes.TheConstants.{LINE_WORDS}
use Rattle.pm_region.specs.Cell.{Cell, MayBe}
use Rattle.pm_region.specs.State.{Frame}
use Rattle.pm_region.specs.Words.{Surely}
use Rattle.chunk_map.specs.declared.layout_sizes.TheConstants.{CLASS_FACTOR, DATA_KIND, FREE_KIND, HEAD_WORDS, LOG_KIND}
use Rattle.chunk_map.specs.declared.layouts.Geometry.{Geometry}
use Rattle.chunk_map.specs.Layouts.{head_at}
use Rattle.chunk_map.specs.declared.heads.Head.{Head}
use Rattle.chunk_map.specs.declared.heads.Head.TheVariants.{Free, Log, Data}

abbrev pub kind_of : Head → ℕ
kind_of Free = FREE_KIND
kind_of (Log tail) = LOG_KIND
kind_of (Data class) = DATA_KIND + CLASS_FACTOR * class

-- a head begins there, at a line's start, and lies in the region's range
pub record HeadLies (f : Frame) (at : ℕ) : Type 0 where
  pub low : f.first ≤ at
  pub high : at + HEAD_WORDS ≤ f.first + f.words
  pub line : at % LINE_WORDS ≡ 0

-- The kind word may be what it might be before or the new one, and the tail word what it might be before.
abbrev pub HasKind : (ℕ → Cell) → ℕ → ℕ → (ℕ → ℕ) → Type 0
HasKind old at kind image = (MayBe (old at) (image at) ⊎ (image at ≡ kind))
    × MayBe (old (at + 1)) (image (at + 1))

-- The kind word may be what it might be before, and the tail word that or the new one; or both are new.
abbrev pub HasTail : (ℕ → Cell) → ℕ → ℕ → (ℕ → ℕ) → Type 0
HasTail old at tail image = (MayBe (old at) (image at) × (MayBe (old (at + 1)) (image (at + 1))
    ⊎ (image (at + 1) ≡ tail))) ⊎ ((image at ≡ LOG_KIND) × (image (at + 1) ≡ tail))

-- what the two words of an image may be while the head is set
abbrev pub HeadTurns : (ℕ → Cell) → ℕ → Head → (ℕ → ℕ) → Type 0
HeadTurns old at Free image = HasKind old at FREE_KIND image
HeadTurns old at (Log tail) image = HasTail old at tail image
HeadTurns old at (Data class) image = HasKind old at (kind_of (Data class)) image

-- The head is certain. The tail word is only of a Log.
abbrev pub SurelyHead : (ℕ → Cell) → ℕ → Head → Type 0
SurelyHead cells at Free = Surely (cells at) FREE_KIND
SurelyHead cells at (Log tail) = Surely (cells at) LOG_KIND × Surely (cells (at + 1)) tail
SurelyHead cells at (Data class) = Surely (cells at) (kind_of (Data class))

-- the head of an image is this one, or breaks this rule
abbrev pub HasHead : Geometry → ℕ → Result Head ℕ → (ℕ → ℕ) → Type 0
HasHead l at head image = head_at l image at ≡ head

-- the head of an image is the old one or the new one
abbrev pub HasEitherHead : Geometry → ℕ → Result Head ℕ → Head → (ℕ → ℕ) → Type 0
HasEitherHead l at before after image = HasHead l at before image ⊎ HasHead l at (Ok after) image
