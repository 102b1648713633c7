use Rattle.std.proofs.Common.{◌≡◌, length}
use Rattle.recover.proofs.core_names.count_entries.Given as goal

abbrev pub invariant-loop-entry : goal.invariant-loop-entry
invariant-loop-entry l = length l.counts.items ≡ l.layout.cores
