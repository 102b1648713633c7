use Rattle.std.proofs.Common.{◌≡◌}
use Rattle.batch_leader.specs.TurnSteps.{OnlyLoads}
use Rattle.core_worker.specs.Mails.{FoundEmpty}
use Rattle.core_worker.proofs.worker.Worker.receive_first.Given as goal

-- each mailbox from a member below was found empty
abbrev pub invariant-loop-from : goal.invariant-loop-from
invariant-loop-from g l = record {
  sits : g.B.Board.seat l.board ≡ g.B.Board.seat l.fn.board;
  same : l.self ≡ l.fn.self;
  found : FoundEmpty (g.B.Board.seat l.fn.board).number l.from (g.B.Board.whole l.fn.board) (g.B.Board.whole l.board) (g.B.Board.view l.fn.board) (g.B.Board.view l.board);
  trail : OnlyLoads (g.B.Board.view l.fn.board) (g.B.Board.view l.board) (g.B.Board.trail l.fn.board) (g.B.Board.trail l.board);
}
