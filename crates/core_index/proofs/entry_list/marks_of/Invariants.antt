use Rattle.std.proofs.Common.{◌≡◌, ◌++◌, map}
use Rattle.core_index.specs.Marks.{mark_of}
use Rattle.core_index.proofs.entry_list.marks_of.Given as goal

abbrev pub invariant-loop-version : goal.invariant-loop-version
invariant-loop-version l = l.marks.items ++ map mark_of l.version-iterator ≡ map mark_of l.homes.entries
