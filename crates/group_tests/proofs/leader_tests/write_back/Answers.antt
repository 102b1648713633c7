use Rattle.std.proofs.Common.{refl}
use Rattle.group_laws.specs.Runs.Kind.{Commit}
use Rattle.group_tests.proofs.OtherLaws.{others_one, others_marked, others_then, number_of}
use Rattle.group_tests.proofs.leader_tests.write_back.Goals as goal

pub returns-clause-others : goal.returns-clause-others
returns-clause-others g c done =
    let w = g.B.Board.whole in
    let v = g.B.Board.view in
    let m = (g.B.Board.seat c.args.board.now).number in
    let b0 = c.args.board.now in
    let b1 = c.persist.new.board in
    let b2 = c.mark_all.new.board in
    others_then (w b0) (w b1) (w b2) m (others_one (w b0) (w b1) m m Commit (v b1) refl c.in-Ok.ensures.made)
    (others_marked (w b1) (w b2) m (g.B.Board.seat b1).number c.in-Ok.done.left.taken.items (v b2) (number_of c.persist.ensures.seat) c.mark_all.ensures.made)
