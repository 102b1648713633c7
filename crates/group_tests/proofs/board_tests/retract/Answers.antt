use Rattle.std.proofs.Common.{◌∙◌}
use Rattle.group_tests.proofs.BoardTrialLaws.{stays, may_withdraw}
use Rattle.group_tests.proofs.board_tests.retract.Goals as goal

pub withdraw-requires : goal.withdraw-requires
withdraw-requires g c =
    let B = g.B.Board in
    let b = c.args.board.now in
    may_withdraw (B.seat b).place (B.seat c.look.new.self).place (B.seat b).number (B.seat c.look.new.self).number c.member-member.result c.in-Posted.words (B.view b) (B.view c.look.new.self) c.look.ensures.view.0 c.member-member.ensures (stays c.look.ensures.seat) c.requires (c.look.ensures.view.1 ∙ c.in-Posted.is) c.look.ensures.view.2
