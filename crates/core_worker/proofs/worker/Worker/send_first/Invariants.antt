use Rattle.std.proofs.Common.{◌≡◌}
use Rattle.batch_leader.specs.TurnSteps.{OnlyLoads}
use Rattle.core_worker.specs.Readying.{SendsNone, StaysTiedFrom}
use Rattle.core_worker.proofs.worker.Worker.send_first.Given as goal

-- what waits for each member below has a full mailbox
abbrev pub invariant-loop-to : goal.invariant-loop-to
invariant-loop-to g l = record {
  sits : g.B.Board.seat l.board ≡ g.B.Board.seat l.fn.board;
  none : SendsNone (g.B.Board.seat l.fn.board).place (g.B.Board.seat l.fn.board).number l.to (g.B.Board.whole l.fn.board) (g.B.Board.whole l.board) (g.B.Board.view l.fn.board) (g.B.Board.view l.board) l.fn.self l.self;
  tied : StaysTiedFrom (g.B.Board.seat l.fn.board) (g.B.Board.view l.fn.board) (g.B.Board.view l.board) l.fn.self l.self;
  trail : OnlyLoads (g.B.Board.view l.fn.board) (g.B.Board.view l.board) (g.B.Board.trail l.fn.board) (g.B.Board.trail l.board);
}
