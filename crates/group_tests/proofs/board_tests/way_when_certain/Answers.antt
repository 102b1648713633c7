use Rattle.group_board.specs.Journals.{state}
use Rattle.group_tests.proofs.BoardTrialLaws.{may_post}
use Rattle.group_tests.proofs.board_tests.way_when_certain.Goals as goal

pub offer-requires-clause-post : goal.offer-requires-clause-post
offer-requires-clause-post c = may_post (state c.args.board.now.keeper.me.0) c.args.change c.requires.board c.requires.change
