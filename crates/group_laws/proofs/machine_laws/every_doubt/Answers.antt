use Rattle.group_laws.proofs.Doubts.{run_doubt}
use Rattle.group_laws.proofs.machine_laws.every_doubt.Goals as goal

pub returns : goal.returns
returns c = record {
  stays = λ k d w steps u L r is. (run_doubt k d w steps u L r is).0;
  leaves = λ k d w steps u L r is. (run_doubt k d w steps u L r is).1;
}
