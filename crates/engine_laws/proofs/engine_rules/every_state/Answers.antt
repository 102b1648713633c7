use Rattle.engine_laws.proofs.Kept.{promised}
use Rattle.engine_laws.proofs.engine_rules.every_state.Goals as goal

pub returns : goal.returns
returns c o e S = promised o e S
