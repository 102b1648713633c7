use Rattle.std.proofs.Common.{refl}
use Rattle.batch_leader.proofs.CollectLaws.{collects_first}
use Rattle.batch_leader.proofs.starting.lead.Goals as goal

pub returns-in-Ok-clause-collects : goal.returns-in-Ok-clause-collects
returns-in-Ok-clause-collects g c =
    collects_first (g.B.Board.seat c.args.board.now) (g.B.Board.view c.args.board.now) (g.B.Board.view c.try_lock.new.self) _ c.requires.lock c.none.ensures c.requires.landed refl refl c.in-Ok.ensures.view
