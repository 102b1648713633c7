use Rattle.core_worker.proofs.GoneKeys.{knows_after, placed_after, own_after}
use Rattle.core_worker.proofs.gone_names.every_loss.Goals as goal

pub returns-clause-knows : goal.returns-clause-knows
returns-clause-knows c = knows_after

pub returns-clause-placed : goal.returns-clause-placed
returns-clause-placed c = placed_after

pub returns-clause-pledged : goal.returns-clause-pledged
returns-clause-pledged c = own_after
