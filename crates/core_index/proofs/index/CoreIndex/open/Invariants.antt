use Rattle.std.proofs.Common.{length}
use Rattle.core_index.specs.Index.{Entering}
use Rattle.core_index.proofs.index.CoreIndex.open.Given as goal

abbrev pub invariant-loop-record : goal.invariant-loop-record
invariant-loop-record l = Entering l.fn.records.items l.left.items l.index

abbrev pub decreases-loop-record : goal.decreases-loop-record
decreases-loop-record l = length l.left.items
