use Rattle.std.proofs.Common.{◌≡◌, false}
use Rattle.group_tests.specs.ThreadTrials.{Waits}
use Rattle.group_tests.proofs.thread_board_tests.wait.Given as goal

abbrev pub invariant-loop : goal.invariant-loop
invariant-loop g l = let B = g.B.Board in (B.seat l.board ≡ B.seat l.fn.board) × Waits (B.seat l.board) l.version false (B.view l.board)
