use Rattle.core_index.proofs.StartLaws.{start_look}
use Rattle.core_index.proofs.start_keys.StartKeys.look.Goals as goal

pub returns : goal.returns
returns c = start_look c.args.self.now c.args.key c.look.result c.look.ensures
