use Rattle.core_index.proofs.LoneLaws.{lone_cleared, lone_fewer}
use Rattle.core_index.proofs.lone_keys.LoneKeys.clear.Goals as goal

pub returns-clause-turns : goal.returns-clause-turns
returns-clause-turns c = lone_cleared c.args.self.now (record { live = c.clear.new.self; deleted = c.clear-2.new.self }) c.args.key c.clear.ensures.cleared c.clear-2.ensures.turns

pub returns-clause-untold : goal.returns-clause-untold
returns-clause-untold c = lone_fewer c.args.self.now (record { live = c.clear.new.self; deleted = c.clear-2.new.self }) c.args.key c.clear.ensures.untold c.clear-2.ensures.untold
