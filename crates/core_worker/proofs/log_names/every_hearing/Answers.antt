use Rattle.core_worker.proofs.LogNames.{received, retired}
use Rattle.core_worker.proofs.log_names.every_hearing.Goals as goal

pub returns-clause-receives : goal.returns-clause-receives
returns-clause-receives c = received

pub returns-clause-retires : goal.returns-clause-retires
returns-clause-retires c = retired
