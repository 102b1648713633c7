use Rattle.std.proofs.Common.{refl, arith}
use Rattle.group_engine.proofs.Winding.{none_yet}
use Rattle.group_engine.proofs.engine.wind_all.Goals as goal

pub loop-core-init : goal.loop-core-init
loop-core-init g c = let W = g.W.CoreWorker in record {
  count = refl;
  within = omega arith;
  each = none_yet W.hands W.answers W.stands W.fair W.room W.leads W.winds c.args.workers.now.items;
}
