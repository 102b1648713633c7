use Rattle.group_tests.proofs.BoardTrialLaws.{stays, may_fail}
use Rattle.group_tests.proofs.board_tests.give_up.Goals as goal

pub fail-requires : goal.fail-requires
fail-requires g c =
    let B = g.B.Board in
    let b = c.args.board.now in
    may_fail (B.seat b).place (B.seat c.unlock.new.self).place (B.seat b).number (B.seat c.unlock.new.self).number c.member-member.result (B.view b) (B.view c.unlock.new.self) c.args.change.entry c.member-member.ensures (stays c.unlock.ensures.seat) c.requires c.unlock.ensures.view
