use Rattle.std.proofs.Common.{◌≡◌, ◌-◌, ◌≤◌, false}
use Rattle.batch_leader.specs.Leading.{Collects, Suits, HasLooked, Passed, Saw, PassesAt, MakesAll, looks_upto}
use Rattle.batch_leader.specs.TurnSteps.{OnlyLoads}
use Rattle.batch_leader.proofs.states.Collecting.collect.Given as goal

abbrev pub invariant-round : goal.invariant-round
invariant-round g l =
    let view = g.B.Board.view in
    let whole = g.B.Board.whole in
    let seat = g.B.Board.seat l.fn.board in
    let m = seat.number in
    record {
      sits : g.B.Board.seat l.board ≡ g.B.Board.seat l.fn.board;
      collects : Collects seat (view l.board) l.self;
      broken : (view l.board).broken ≡ false;
      suits : Suits l.room l.self;
      low : l.fn.self.at ≤ l.self.at;
      changes : l.self.changes ≡ l.fn.self.changes;
      fresh : l.self.fresh ≡ l.fn.self.fresh;
      own : l.self.own_lines ≡ l.fn.self.own_lines;
      looked : HasLooked (view l.fn.board) (view l.board);
      passed : Passed (whole l.fn.board) l.room m l.fn.self l.self.at;
      saw : Saw (view l.fn.board) (view l.board) m l.fn.self.at l.self.at (PassesAt l.room m l.fn.self);
      trail : OnlyLoads (g.B.Board.view l.fn.board) (g.B.Board.view l.board) (g.B.Board.trail l.fn.board) (g.B.Board.trail l.board);
      made : MakesAll (whole l.fn.board) (looks_upto m l.fn.self.at (l.self.at - l.fn.self.at)) (whole l.board) m (view l.board);
    }

abbrev pub decreases-round : goal.decreases-round
decreases-round g l = l.end - l.self.at
