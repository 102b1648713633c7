-- What is answered of numbers, heads and superblocks that may break a rule.
use Rattle.std.specs.Prelude.{◌≡◌, ℕ, ◌%◌, ◌≤◌, true, Option, Some, None, Result, Ok, Err}
use Rattle.pm_region.specs.declared.region_sizes.TheConstants.{LINE_WORDS, MOST_BYTES, WORD_BYTES}
use Rattle.chunk_map.specs.declared.layout_sizes.TheConstants.{SUPERBLOCK_BYTES}
use Rattle.chunk_map.specs.declared.layouts.Geometry.{Geometry}
use Rattle.chunk_map.specs.declared.layouts.BadLayout.{BadLayout}
use Rattle.chunk_map.specs.declared.heads.Head.{Head}
use Rattle.chunk_map.specs.declared.heads.Head.TheVariants.{Free, Log, Data}
use Rattle.chunk_map.specs.declared.heads.BadHead.{BadHead}
use Rattle.chunk_map.specs.declared.superblock.NotARegion.{NotARegion}
use Rattle.chunk_map.specs.Layouts.{layout_rule, payload_words, is_class, superblock_rule, layout_of}

abbrev pub layout_by : Geometry → Option ℕ → Result Geometry BadLayout
layout_by l None = Ok l
layout_by l (Some rule) = Err (record { rule = rule })

-- the layout, or the first rule that the numbers break
abbrev pub checked_layout : Geometry → Result Geometry BadLayout
checked_layout l = layout_by l (layout_rule l)

-- the head, or the rule that its words break
abbrev pub checked_head : Result Head ℕ → Result Head BadHead
checked_head (Ok head) = Ok head
checked_head (Err rule) = Err (record { rule = rule })

-- the numbers of a head that breaks no rule
abbrev pub FitsHead : Geometry → Head → Type 0
FitsHead l Free = Unit {0}
FitsHead l (Log tail) = (tail % LINE_WORDS ≡ 0) × (tail ≤ payload_words l)
FitsHead l (Data class) = is_class l class ≡ true

abbrev pub superblock_by : (ℕ → ℕ) → Option ℕ → Result Geometry NotARegion
superblock_by image None = Ok (layout_of image)
superblock_by image (Some rule) = Err (record { rule = rule })

-- the layout of an image of so many bytes, or the first rule that its superblock breaks
abbrev pub checked_superblock : ℕ → (ℕ → ℕ) → Result Geometry NotARegion
checked_superblock bytes image = superblock_by image (superblock_rule bytes image)

-- a region may have this length in bytes
pub record IsLength (bytes : ℕ) : Type 0 where
  pub whole : bytes % WORD_BYTES ≡ 0
  pub low : SUPERBLOCK_BYTES ≤ bytes
  pub high : bytes ≤ MOST_BYTES

abbrev pub kept_by : Geometry → Option ℕ → Option Geometry
kept_by l None = Some l
kept_by l (Some rule) = None

-- the layout, where the numbers keep the rules
abbrev pub layout_by_rule : Geometry → Option Geometry
layout_by_rule l = kept_by l (layout_rule l)
