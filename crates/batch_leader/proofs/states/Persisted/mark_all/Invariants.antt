use Rattle.std.proofs.Common.{◌≡◌, ℕ, List, ◌++◌, length}
use Rattle.group_laws.specs.Runs.{Kind}
use Rattle.batch_leader.specs.Leading.{IsCertain, MakesAll}
use Rattle.batch_leader.specs.GivingBack.{marked_all, marks_of}
use Rattle.batch_leader.proofs.states.Persisted.mark_all.Given as goal

abbrev pub invariant-marks : goal.invariant-marks
invariant-marks g l =
    let seat = g.B.Board.seat l.fn.board in
    let views = g.B.Board.view in
    let whole = g.B.Board.whole in
    record {
      sits : g.B.Board.seat l.board ≡ seat;
      certain : IsCertain seat (views l.board) l.self.left.taken.items;
      view : marked_all l.self.left.taken.items (views l.board) ≡ marked_all l.fn.self.left.taken.items (views l.fn.board);
      made : (done : List (ℕ × Kind)) × (marks_of seat.number l.fn.self.left.taken.items ≡ done ++ marks_of seat.number l.self.left.taken.items) × MakesAll (whole l.fn.board) done (whole l.board) seat.number (views l.board);
    }

abbrev pub decreases-marks : goal.decreases-marks
decreases-marks g l = length l.self.left.taken.items
