use Rattle.std.proofs.Common.{◌∙◌}
use Rattle.group_tests.proofs.ThreadTrialLaws.{may_take}
use Rattle.group_tests.proofs.thread_board_tests.collect.Goals as goal

pub take-requires : goal.take-requires
take-requires g c = let B = g.B.Board in let b = c.args.board.now in let lead = c.requires.leads in let look = c.look.ensures in
    may_take (B.seat b) (B.seat c.look.new.self) c.args.owner c.in-Posted.words (B.view b) (B.view c.look.new.self) look.view.0 look.seat lead.member lead.holds lead.whole c.requires.owner (look.view.1 ∙ c.in-Posted.is) look.view.2
