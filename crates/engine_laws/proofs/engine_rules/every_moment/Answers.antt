use Rattle.engine_laws.proofs.Kept.{promised_now}
use Rattle.engine_laws.proofs.engine_rules.every_moment.Goals as goal

pub returns : goal.returns
returns c o e S why cause = promised_now o e S why cause
