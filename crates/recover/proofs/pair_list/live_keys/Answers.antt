use Rattle.std.proofs.Common.{arith}
use Rattle.recover.proofs.PairLaws.{live_added}
use Rattle.recover.proofs.pair_list.live_keys.Goals as goal

pub loop-start-preserved : goal.loop-start-preserved
loop-start-preserved c =
    live_added c.loop-start.keys c.add_live.new.keys c.args.starts.now c.loop-start.start-index c.start-item.result c.loop-start-test.true c.start-item.is c.in_ok-add_live.ensures.kept c.in_ok-add_live.ensures.live c.loop-start.invariant

pub returns : goal.returns
returns c = λ k j v d lt is. c.loop-start.invariant k j v d (omega (arith, lt, c.loop-start-test.false)) is
