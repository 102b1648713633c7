use Rattle.batch_leader.proofs.CutLaws.{before_step, after_turn}
use Rattle.batch_leader.proofs.cut_laws.turn_at_a_cut.Goals as goal

pub returns-clause-before : goal.returns-clause-before
returns-clause-before c = before_step

pub returns-clause-after : goal.returns-clause-after
returns-clause-after c = after_turn
