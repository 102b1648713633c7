use Rattle.std.proofs.Common.{ap, ◌∙◌, false}
use Rattle.group_laws.specs.declared.types.Seen.TheVariants as loads
use Rattle.group_board.specs.Views.{after_find}
use Rattle.group_tests.proofs.ThreadTrialLaws.{may_finish, finds, takes_back}
use Rattle.group_tests.proofs.thread_board_tests.turn.Goals as goal

pub finish-requires : goal.finish-requires
finish-requires g c = let B = g.B.Board in let b = c.args.board.now in let look = c.look.ensures in
    may_finish (B.seat b) (B.seat c.look.new.self) c.args.version false (B.view b) (B.view c.look.new.self) look.view.0 look.seat c.requires (look.view.1 ∙ c.in-Done.is)
    (look.view.2 ∙ ap (λ j. after_find (loads.Slot j 0 look.view.0) (B.view b)) c.member-member.ensures)

pub lead-requires : goal.lead-requires
lead-requires g c = let B = g.B.Board in let b = c.args.board.now in let look = c.look.ensures in
    finds (B.seat b) (B.seat c.look.new.self) c.args.version false (loads.Slot c.member-member.result 0 look.view.0) (B.view b) (B.view c.look.new.self) look.seat c.requires look.view.2

pub returns-in-Done-clause-back : goal.returns-in-Done-clause-back
returns-in-Done-clause-back g c = let B = g.B.Board in let b = c.args.board.now in let look = c.look.ensures in let end = c.finish.ensures in
    takes_back (B.seat b) (B.seat c.look.new.self) (B.seat c.finish.new.self) c.args.version (B.view b) (B.view c.look.new.self) (B.view c.finish.new.self) (loads.Slot c.member-member.result 0 look.view.0) c.finish.result.entry c.finish.result.home
    look.seat end.seat c.requires look.view.2 end.pending end.view
