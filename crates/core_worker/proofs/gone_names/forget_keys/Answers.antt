use Rattle.std.proofs.Common.{arith}
use Rattle.core_worker.proofs.GoneLaws.{forgets_first, forgets_more}
use Rattle.core_worker.proofs.gone_names.forget_keys.Goals as goal

pub loop-name-init : goal.loop-name-init
loop-name-init c = (forgets_first c.args.places.now.items c.args.index.now, omega arith)

pub loop-name-preserved : goal.loop-name-preserved
loop-name-preserved c = (forgets_more c.args.names.now c.loop-name.name-index c.loop-name-test.true c.args.places.now.items c.loop-name.places.items c.forget_key.new.places.items c.args.index.now c.loop-name.index c.forget_key.new.index c.loop-name.invariant.0 c.forget_key.ensures.forgets, (let had = c.loop-name.invariant.1 in let less = c.forget_key.ensures.untold in omega (arith, had, less)))
