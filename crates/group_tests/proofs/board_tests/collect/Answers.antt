use Rattle.std.proofs.Common.{◌∙◌}
use Rattle.group_tests.proofs.BoardTrialLaws.{stays, may_take, has_taken}
use Rattle.group_tests.proofs.board_tests.collect.Goals as goal

pub take-requires : goal.take-requires
take-requires g c =
    let B = g.B.Board in
    let b = c.args.board.now in
    may_take (B.seat b).place (B.seat c.look.new.self).place (B.seat b).number (B.seat c.look.new.self).number c.member-member.result c.in-Posted.words (B.view b) (B.view c.look.new.self) c.look.ensures.view.0 c.member-member.ensures (stays c.look.ensures.seat) c.requires (c.look.ensures.view.1 ∙ c.in-Posted.is) c.look.ensures.view.2

pub returns-in-Posted : goal.returns-in-Posted
returns-in-Posted g c =
    let B = g.B.Board in
    let b = c.args.board.now in
    has_taken (B.seat b).place (B.seat c.look.new.self).place (B.seat c.take.new.self).place (B.seat b).number (B.seat c.look.new.self).number (B.seat c.take.new.self).number c.member-member.result (B.view b) (B.view c.look.new.self) (B.view c.take.new.self) c.look.ensures.view.0 c.take.result.entry c.member-member.ensures (stays c.look.ensures.seat) (stays c.take.ensures.seat) c.requires c.look.ensures.view.2 c.take.ensures.view
