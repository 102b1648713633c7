use Rattle.std.proofs.Common.{◌≡◌, ◌-◌, length}
use Rattle.core_worker.specs.Sending.{TakesNames}
use Rattle.core_worker.proofs.sending.take_names.Given as goal

abbrev pub invariant-loop-names : goal.invariant-loop-names
invariant-loop-names l = TakesNames l.home l.initial.index l.index l.initial.names.names l.names.names × (l.names.room ≡ l.initial.names.room)

abbrev pub decreases-loop-names : goal.decreases-loop-names
decreases-loop-names l = l.room - length l.names.names
