use Rattle.group_laws.proofs.Opened.{opened}
use Rattle.group_laws.proofs.machine_laws.every_opening.Goals as goal

pub returns : goal.returns
returns c u x sound open_ = opened u x sound open_
