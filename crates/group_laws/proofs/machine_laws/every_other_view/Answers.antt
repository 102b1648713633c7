use Rattle.group_laws.proofs.Others.{frame, run_frame, run_place}
use Rattle.group_laws.proofs.machine_laws.every_other_view.Goals as goal

pub returns : goal.returns
returns c = record {
  step = λ w m kind u n ne s. frame w m kind u n ne s;
  run = λ w m kinds u n ne r. run_frame w m kinds u n ne r;
  place = λ w steps u r. run_place w steps u r;
}
