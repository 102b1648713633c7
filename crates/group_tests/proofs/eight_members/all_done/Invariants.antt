use Rattle.std.proofs.Common.{◌≡◌}
use Rattle.group_board.specs.Journals.{state}
use Rattle.group_laws.specs.Places.{members}
use Rattle.group_tests.proofs.eight_members.all_done.Given as goal

-- the group stays where it is
abbrev pub invariant-loop-number : goal.invariant-loop-number
invariant-loop-number l = members (state l.board.keeper.me.0).place ≡ 8
