use Rattle.std.proofs.Common.{◌≡◌}
use Rattle.core_worker.specs.Searching.{Searched}
use Rattle.batch_leader.specs.TurnSteps.{OnlyLoads}
use Rattle.core_worker.proofs.worker.Worker.find_back.Given as goal

-- none below this place is given back
abbrev pub invariant-loop-slot : goal.invariant-loop-slot
invariant-loop-slot g l =
    let seat = g.B.Board.seat l.fn.board in
    record {
      sits : g.B.Board.seat l.board ≡ seat;
      searched : Searched (g.B.Board.whole l.fn.board) (g.B.Board.whole l.board) seat.number l.self.places.items (g.B.Board.view l.fn.board) l.slot l.posted (g.B.Board.view l.board);
      trail : OnlyLoads (g.B.Board.view l.fn.board) (g.B.Board.view l.board) (g.B.Board.trail l.fn.board) (g.B.Board.trail l.board);
    }
