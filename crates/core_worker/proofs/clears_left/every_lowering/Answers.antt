use Rattle.core_worker.proofs.ClearsLeft.{begins, copies, dooms, clears, takes, sends, receives, commits, finishes, accepts}
use Rattle.core_worker.proofs.clears_left.every_lowering.Goals as goal

pub returns-clause-begins : goal.returns-clause-begins
returns-clause-begins c = begins

pub returns-clause-copies : goal.returns-clause-copies
returns-clause-copies c = copies

pub returns-clause-dooms : goal.returns-clause-dooms
returns-clause-dooms c = dooms

pub returns-clause-clears : goal.returns-clause-clears
returns-clause-clears c = clears

pub returns-clause-takes : goal.returns-clause-takes
returns-clause-takes c = takes

pub returns-clause-sends : goal.returns-clause-sends
returns-clause-sends c = sends

pub returns-clause-receives : goal.returns-clause-receives
returns-clause-receives c = receives

pub returns-clause-commits : goal.returns-clause-commits
returns-clause-commits c = commits

pub returns-clause-finishes : goal.returns-clause-finishes
returns-clause-finishes c = finishes

pub returns-clause-accepts : goal.returns-clause-accepts
returns-clause-accepts c = accepts
