use Rattle.std.proofs.Common.{refl}
use Rattle.group_board.specs.Journals.{state}
use Rattle.group_tests.proofs.BoardTrialLaws.{may_post_long}
use Rattle.group_tests.proofs.board_tests.way_when_retracted.Goals as goal

pub offer-requires-clause-post : goal.offer-requires-clause-post
offer-requires-clause-post c = may_post_long (state c.args.board.now.keeper.me.0) c.put_long-change.result _ c.requires c.put_long-change.ensures refl
