use Rattle.core_worker.proofs.NamesAdded.{AddsSoFar}
use Rattle.core_worker.proofs.batch_names.add_names.Given as goal

abbrev pub invariant-loop-at : goal.invariant-loop-at
invariant-loop-at l = AddsSoFar l.batch.changes.taken.items l.at l.fn.standing l.standing
