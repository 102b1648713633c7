use Rattle.std.proofs.Common.{◌≡◌, length}
use Rattle.recover.proofs.core_names.no_counts.Given as goal

abbrev pub invariant-loop : goal.invariant-loop
invariant-loop l = length l.counts.items ≡ l.counter
