use Rattle.std.proofs.Common.{ap, ◌∙◌}
use Rattle.group_board.specs.Views.{after_commit}
use Rattle.group_tests.proofs.ThreadTrialLaws.{may_take, may_mark}
use Rattle.group_tests.proofs.thread_board_tests.serve.Goals as goal

pub take-change-requires : goal.take-change-requires
take-change-requires g c = let B = g.B.Board in let b = c.args.board.now in let w = c.requires.waits in let look = c.look.ensures in
    may_take (B.seat b) (B.seat c.look.new.self) c.args.owner c.in-Posted.words (B.view b) (B.view c.look.new.self) look.view.0 look.seat w.member w.holds w.whole c.requires.owner (look.view.1 ∙ c.in-Posted.is) look.view.2

pub mark-requires : goal.mark-requires
mark-requires g c = let B = g.B.Board in let b = c.args.board.now in let w = c.requires.waits in let look = c.look.ensures in
    may_mark (B.seat b) (B.seat c.commit.new.self) c.args.owner c.take-change.result.entry (B.view c.look.new.self) (B.view c.commit.new.self) (c.commit.ensures.seat ∙ (c.take-change.ensures.seat ∙ look.seat)) w.member c.requires.owner
    (c.commit.ensures.view ∙ ap after_commit c.take-change.ensures.view)
