use Rattle.group_board.specs.Journals.{state}
use Rattle.group_tests.proofs.EightTrialLaws.{eight_may_lead}
use Rattle.group_tests.proofs.eight_members.gather_at.Goals as goal

pub gather_all-requires-clause-lock : goal.gather_all-requires-clause-lock
gather_all-requires-clause-lock c = eight_may_lead 64 (state c.args.board.now.keeper.me.0) c.requires
