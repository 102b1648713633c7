-- A turn as the engine reads it.
use Rattle.std.proofs.Common.{refl}
use Rattle.core_worker.specs.Turning.{at_entry}
use Rattle.core_worker.specs.Left.{StartsFirst}
use Rattle.engine_core.proofs.Working.{turns_by, did_by, lowers_by, not_more_by}
use Rattle.engine_core.proofs.real_worker.WorkerCoreWorker.turn.Goals as goal

pub returns-clause-turns : goal.returns-clause-turns
returns-clause-turns g c =
    let b = c.args.board.now in
    let d = c.turn.new.board in
    let e = c.turn.ensures in
    turns_by (g.B.Board.seat b) (g.R.Region.state c.args.region.now) (g.R.Region.state c.turn.new.region) (g.B.Board.whole b) (g.B.Board.whole d) (g.B.Board.view b) (g.B.Board.view d) c.args.self.now c.turn.new.self
    c.requires.stands e.holds e.stands e.order e.rule e.moves e.starts _ refl c.turn.result e.idles

pub returns-clause-turned : goal.returns-clause-turned
returns-clause-turned g c =
    let b = c.args.board.now in
    let d = c.turn.new.board in
    did_by c.turn.result (g.R.Region.state c.args.region.now) (g.R.Region.state c.turn.new.region) _ (g.B.Board.whole b) (g.B.Board.seat b) (at_entry c.args.self.now (g.B.Board.view b)) (at_entry c.turn.new.self (g.B.Board.view d)) c.turn.ensures.turned

pub returns-clause-less : goal.returns-clause-less
returns-clause-less g c =
    lowers_by (g.B.Board.whole c.args.board.now) (g.B.Board.whole c.turn.new.board) c.args.self.now c.turn.new.self (StartsFirst c.args.self.now) c.requires.fair c.turn.result (c.turn.ensures.less c.requires.stands.rule)

pub returns-clause-idle : goal.returns-clause-idle
returns-clause-idle g c =
    not_more_by (g.B.Board.whole c.args.board.now) (g.B.Board.whole c.turn.new.board) c.args.self.now c.turn.new.self (StartsFirst c.args.self.now) c.requires.fair c.turn.result (c.turn.ensures.less c.requires.stands.rule)
