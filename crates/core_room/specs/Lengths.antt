-- What a value of some bytes needs: lines of the log, and a block.
use Rattle.std.specs.Prelude.{ℕ, ◌+◌, ◌/◌, nat_le, find, unwrap_or, if◌then◌else◌, ◌-◌}
use Rattle.log_entry.specs.declared.entry_limits.TheConstants.{MOST_ENTRIES}
use Rattle.log_entry.specs.Words.{words_for}
use Rattle.pm_region.specs.Words.{lines_for}
use Rattle.chunk_map.specs.declared.layout_sizes.TheConstants.{GREATEST_CLASS, SHORTEST_IN_BLOCK}
use Rattle.chunk_map.specs.Layouts.{numbers, has_class}

-- the class of the block that a value of this length gets, or 0 where it stands beside its key
abbrev pub class_for : ℕ → ℕ
class_for n = unwrap_or (find (has_class n) (numbers 1 GREATEST_CLASS)) 0

-- the lines that the entry of such a value takes
abbrev pub lines_needed : ℕ → ℕ
lines_needed n = if nat_le SHORTEST_IN_BLOCK n then 1 else lines_for (2 + words_for n)

-- the lines that so many entries with so many words take at most, in full batches
abbrev pub lines_to_copy : ℕ → ℕ → ℕ
lines_to_copy entries words = lines_for words + (entries + (MOST_ENTRIES - 1)) / MOST_ENTRIES
