use Rattle.engine_laws.proofs.Kept.{done}
use Rattle.engine_laws.proofs.engine_rules.every_drain.Goals as goal

pub returns : goal.returns
returns c o lines e is r = done o lines e is r
