use Rattle.core_worker.proofs.LogEnds.{others_none, names_agree}
use Rattle.core_worker.proofs.giving_up.every_log.Goals as goal

pub returns-clause-others : goal.returns-clause-others
returns-clause-others c = others_none

pub returns-clause-agrees : goal.returns-clause-agrees
returns-clause-agrees c = names_agree
