use Rattle.engine_laws.proofs.KeyLaw.{key_goes}
use Rattle.engine_laws.proofs.engine_rules.every_key.Goals as goal

pub returns : goal.returns
returns c start v u place place' stopped stopped' xs fixed S K after = key_goes start v u place place' stopped stopped' xs fixed S K after
