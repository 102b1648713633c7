use Rattle.recover.proofs.FoundEntryLaws.{key_any}
use Rattle.recover.proofs.RunLaws.{run_more}
use Rattle.recover.proofs.key_runs.key_run.Goals as goal

pub loop-i-preserved : goal.loop-i-preserved
loop-i-preserved c =
    run_more c.args.sorted.now c.requires.order c.args.at c.loop-i.winner c.loop-i.i c.loop-i.invariant c.loop-i-test.true
    (key_any c.args.sorted.now c.loop-i.i c.args.at c.loop-i-test.true c.requires.at c.if-sorted-i.false) c.newer-winner.result c.newer-winner.ensures
