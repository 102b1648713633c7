use Rattle.std.proofs.Common.{◌∙◌}
use Rattle.group_tests.proofs.BoardTrialLaws.{stays, may_finish}
use Rattle.group_tests.proofs.leader_tests.settle.Goals as goal

pub finish-requires : goal.finish-requires
finish-requires g c =
    let B = g.B.Board in
    let b = c.args.board.now in
    may_finish (B.seat b).place (B.seat c.look.new.self).place (B.seat b).number (B.seat c.look.new.self).number c.member-member.result (B.view b) (B.view c.look.new.self) c.look.ensures.view.0 c.member-member.ensures (stays c.look.ensures.seat) c.requires (c.look.ensures.view.1 ∙ c.in-Done.is) c.look.ensures.view.2
