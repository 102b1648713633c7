use Rattle.group_tests.proofs.BoardTrialLaws.{stays, may_mark}
use Rattle.group_tests.proofs.board_tests.give_back.Goals as goal

pub mark-requires : goal.mark-requires
mark-requires g c =
    let B = g.B.Board in
    let b = c.args.board.now in
    may_mark (B.seat b).place (B.seat c.unlock.new.self).place (B.seat c.commit.new.self).place (B.seat b).number (B.seat c.unlock.new.self).number (B.seat c.commit.new.self).number c.member-member.result (B.view b) (B.view c.unlock.new.self) (B.view c.commit.new.self) c.args.change.entry c.member-member.ensures (stays c.unlock.ensures.seat) (stays c.commit.ensures.seat) c.requires c.unlock.ensures.view c.commit.ensures.view
