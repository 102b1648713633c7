use Rattle.core_index.proofs.StartLaws.{start_last}
use Rattle.core_index.proofs.start_keys.StartKeys.last.Goals as goal

pub returns : goal.returns
returns c = start_last c.args.self.now c.args.key c.last.result c.last.ensures
