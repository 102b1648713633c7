use Rattle.group_laws.proofs.Runs.{step_keeps}
use Rattle.group_laws.proofs.machine_laws.every_step.Goals as goal

pub returns : goal.returns
returns c w m kind u L s = step_keeps w m kind u L s
