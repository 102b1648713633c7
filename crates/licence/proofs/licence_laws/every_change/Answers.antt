use Rattle.licence.proofs.Changes.{taken, committed, retired, posted}
use Rattle.licence.proofs.licence_laws.every_change.Goals as goal

pub returns : goal.returns
returns c = record {
  take = λ w m a s u step. taken w m a s u step;
  commit = λ w m u step. committed w m u step;
  retire = λ w m ns u step. retired w m ns u step;
  post = λ w m s e value u at step points. posted w m s e value u at step points;
}
