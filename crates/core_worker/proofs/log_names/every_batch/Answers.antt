use Rattle.core_worker.proofs.Counted.{counted}
use Rattle.core_worker.proofs.log_names.every_batch.Goals as goal

pub returns : goal.returns
returns c = counted
