use Rattle.std.proofs.Common.{arith}
use Rattle.core_worker.proofs.GoneLaws.{lacks_first, lacks_more}
use Rattle.core_worker.proofs.gone_names.take_names.Goals as goal

pub loop-name-init : goal.loop-name-init
loop-name-init c = (lacks_first c.args.index.now, omega arith)

pub loop-name-preserved : goal.loop-name-preserved
loop-name-preserved c = (lacks_more c.args.names.now c.loop-name.name-index c.loop-name-test.true c.args.index.now c.loop-name.index c.gone.new.self c.loop-name.invariant.0 c.gone.ensures.gone c.gone.ensures.room c.gone.ensures.untold, (let had = c.loop-name.invariant.1 in let less = c.gone.ensures.untold in omega (arith, had, less)))
