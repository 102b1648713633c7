use Rattle.core_worker.proofs.LogNames.{kills_first, kills_more}
use Rattle.core_worker.proofs.log_names.kill_names.Goals as goal

pub loop-name-init : goal.loop-name-init
loop-name-init c = kills_first c.args.standing.now

pub loop-name-preserved : goal.loop-name-preserved
loop-name-preserved c = kills_more c.args.names.now c.loop-name.name-index c.loop-name-test.true c.args.standing.now c.loop-name.standing c.kill.new.self c.loop-name.invariant c.kill.ensures.killed c.kill.ensures.settled c.kill.ensures.room c.kill.ensures.count c.kill.ensures.tally c.kill.ensures.floors
