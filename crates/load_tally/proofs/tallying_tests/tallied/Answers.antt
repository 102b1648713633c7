use Rattle.std.proofs.Common.{[], ◌++◌}
use Rattle.load_tally.proofs.tallying_tests.tallied.Goals as goal

pub returns : goal.returns
returns c = c.add_pairs.ensures (c.args.front.now ++ c.args.back.now) (c.add_replies-2.ensures.counts c.args.front.now (c.add_replies.ensures.counts [] c.nothing-tally.ensures.none))
