use Rattle.std.proofs.Common.{◌≡◌, false}
use Rattle.batch_leader.specs.Leading.{Collects, Suits}
use Rattle.group_tests.specs.LeadTrials.{IsUnwritten}
use Rattle.group_tests.proofs.eight_members.gather_all.Given as goal

abbrev pub invariant-round : goal.invariant-round
invariant-round g l =
    let view = g.B.Board.view in
    let seat = g.B.Board.seat l.fn.board in
    record {
      sits : g.B.Board.seat l.board ≡ seat;
      collects : Collects seat (view l.board) l.leader;
      whole : (view l.board).broken ≡ false;
      suits : Suits l.room l.leader;
      unwritten : IsUnwritten (view l.fn.board) → IsUnwritten (view l.board);
    }
