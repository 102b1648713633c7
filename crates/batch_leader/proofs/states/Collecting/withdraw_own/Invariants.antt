use Rattle.std.proofs.Common.{◌≡◌}
use Rattle.batch_leader.specs.Leading.{Collects, HasLooked, NonePosted, SawNonePosted, MakesAll, looks_upto}
use Rattle.batch_leader.specs.TurnSteps.{OnlyLoads}
use Rattle.batch_leader.proofs.states.Collecting.withdraw_own.Given as goal

abbrev pub invariant-slots : goal.invariant-slots
invariant-slots g l =
    let seat = g.B.Board.seat l.fn.board in
    let view = g.B.Board.view in
    let whole = g.B.Board.whole in
    record {
      sits : g.B.Board.seat l.board ≡ seat;
      same : l.self ≡ l.fn.self;
      collects : Collects seat (view l.board) l.self;
      looked : HasLooked (view l.fn.board) (view l.board);
      lower : NonePosted (whole l.fn.board) seat.number l.slot;
      saw : SawNonePosted seat.number (view l.fn.board) (view l.board) l.slot;
      trail : OnlyLoads (g.B.Board.view l.fn.board) (g.B.Board.view l.board) (g.B.Board.trail l.fn.board) (g.B.Board.trail l.board);
      made : MakesAll (whole l.fn.board) (looks_upto seat.number 0 l.slot) (whole l.board) seat.number (view l.board);
    }
