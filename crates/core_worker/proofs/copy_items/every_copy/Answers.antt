use Rattle.core_worker.proofs.CopiedRoom.{never_left}
use Rattle.core_worker.proofs.copy_items.every_copy.Goals as goal

pub returns : goal.returns
returns c = λ p m v w x victim first H way had L. never_left p m v w x victim first H way had L
