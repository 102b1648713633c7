use Rattle.licence.proofs.Quiet.{quiet, each_allowed, took, flown, landed}
use Rattle.licence.proofs.licence_laws.every_view.Goals as goal

pub returns : goal.returns
returns c = record {
  step = λ w m kind u step is. quiet w m kind u step is;
  keeps = λ p m v u cells a licensed. each_allowed p m v u cells a licensed;
  takes = λ p m v u e cells t licensed image may. took p m v u e image t (licensed image may);
  flies = λ p m v cells licensed image may. flown p m v image (licensed image may);
  lands = λ p m v cells none licensed image may. landed p m v image none (licensed image may);
}
