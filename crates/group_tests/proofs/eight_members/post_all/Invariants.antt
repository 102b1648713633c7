use Rattle.group_board.specs.Journals.{state}
use Rattle.group_tests.specs.EightTrials.{IsPosted}
use Rattle.group_tests.proofs.eight_members.post_all.Given as goal

-- the posts before this one were made
abbrev pub invariant-loop-number : goal.invariant-loop-number
invariant-loop-number l = IsPosted l.number (state l.board.keeper.me.0)
