use Rattle.core_index.proofs.StartLaws.{start_cleared, start_fewer}
use Rattle.core_index.proofs.start_keys.StartKeys.clear.Goals as goal

pub returns-clause-turns : goal.returns-clause-turns
returns-clause-turns c = start_cleared c.args.self.now c.clear.new.self c.args.key c.clear.ensures.turns

pub returns-clause-untold : goal.returns-clause-untold
returns-clause-untold c = start_fewer c.args.self.now c.clear.new.self c.args.key c.clear.ensures.turns c.clear.ensures.untold
