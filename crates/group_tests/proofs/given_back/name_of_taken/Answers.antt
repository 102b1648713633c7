use Rattle.group_board.specs.Journals.{state}
use Rattle.group_tests.proofs.LeadTrialLaws.{may_post}
use Rattle.group_tests.proofs.given_back.name_of_taken.Goals as goal

pub take_back-requires-clause-post : goal.take_back-requires-clause-post
take_back-requires-clause-post c = may_post (state c.args.board.now.keeper.me.0) c.args.change c.requires.board c.requires.change
