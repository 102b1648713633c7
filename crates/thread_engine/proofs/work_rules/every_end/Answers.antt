use Rattle.thread_engine.proofs.Rested.{has_rested}
use Rattle.thread_engine.proofs.work_rules.every_end.Goals as goal

pub returns : goal.returns
returns c seat x at ended = has_rested seat x at ended
