use Rattle.std.proofs.Common.{[], refl}
use Rattle.group_laws.specs.Runs.Kind.{Post}
use Rattle.group_tests.proofs.OtherLaws.{others_one}
use Rattle.group_tests.proofs.eight_members.post.Goals as goal

pub returns-clause-others : goal.returns-clause-others
returns-clause-others g c =
    let m = (g.B.Board.seat c.args.board.now).number in
    others_one (g.B.Board.whole c.args.board.now) (g.B.Board.whole c.post.new.self) m m (Post c.args.slot c.args.change.entry []) (g.B.Board.view c.post.new.self) refl c.post.ensures.whole
