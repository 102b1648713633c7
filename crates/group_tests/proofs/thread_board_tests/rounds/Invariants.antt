use Rattle.std.proofs.Common.{◌≡◌, ◌+◌}
use Rattle.group_tests.specs.ThreadTrials.{Rests, put_of}
use Rattle.group_tests.proofs.thread_board_tests.rounds.Given as goal

abbrev pub invariant-loop-done : goal.invariant-loop-done
invariant-loop-done g l = let B = g.B.Board in (B.seat l.board ≡ B.seat l.fn.board) × Rests (B.seat l.board) (l.done + 1) (B.view l.board) × (l.change ≡ put_of (B.seat l.board).number (l.done + 1))
