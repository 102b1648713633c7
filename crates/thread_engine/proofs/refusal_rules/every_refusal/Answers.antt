use Rattle.thread_engine.proofs.RunCauses.{run_causes}
use Rattle.thread_engine.proofs.refusal_rules.every_refusal.Goals as goal

pub returns : goal.returns
returns c o r refused e is A = run_causes o is r refused e A
