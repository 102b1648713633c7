use Rattle.group_laws.proofs.Runs.{run_keeps}
use Rattle.group_laws.proofs.Finishes.{run_cell}
use Rattle.group_laws.proofs.Posted.{run_posted}
use Rattle.group_laws.proofs.Safe as safe
use Rattle.group_laws.proofs.Images.{images_safe}
use Rattle.group_laws.proofs.machine_laws.every_run.Goals as goal

pub returns : goal.returns
returns c = record {
  lawful = λ w xs u L r. run_keeps w xs u L r;
  safe = λ w xs u images L r ok. images_safe u (run_keeps w xs u L r) images ok;
  cells = λ w xs u r k. run_cell w xs u r k;
  posted = λ w xs u r L k. run_posted w xs u r L k;
  distinct = λ w xs u L r. safe.distinct u (run_keeps w xs u L r);
}
