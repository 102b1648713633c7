use Rattle.core_index.proofs.LiveLaws.{less_missing}
use Rattle.core_index.proofs.live_list.live_spot.Goals as goal

pub returns-then-all_less-clause-missing : goal.returns-then-all_less-clause-missing
returns-then-all_less-clause-missing c = less_missing c.args.items.now c.args.key (c.all_less.ensures c.if-all_less.true)
