use Rattle.std.proofs.Common.{◌≤◌, ◌<◌, length}
use Rattle.core_index.specs.Index.{all_untold}
use Rattle.core_worker.specs.Sending.{TakesNames}
use Rattle.core_worker.proofs.sending.take_notices.Given as goal

abbrev pub invariant-loop-alloc : goal.invariant-loop-alloc
invariant-loop-alloc l = TakesNames l.home l.initial.index l.index l.initial.names.names l.names.names × (l.room ≤ l.names.room) × (length l.names.names < l.room)

-- each list that was full has taken a name
abbrev pub decreases-loop-alloc : goal.decreases-loop-alloc
decreases-loop-alloc l = all_untold l.index
