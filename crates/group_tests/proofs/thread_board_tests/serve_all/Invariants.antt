use Rattle.std.proofs.Common.{◌≡◌, true}
use Rattle.group_laws.specs.Places as places
use Rattle.group_tests.specs.ThreadTrials.{Waits}
use Rattle.group_tests.proofs.thread_board_tests.serve_all.Given as goal

abbrev pub invariant-loop-owner : goal.invariant-loop-owner
invariant-loop-owner g l = let B = g.B.Board in (B.seat l.board ≡ B.seat l.fn.board) × Waits (B.seat l.board) l.version true (B.view l.board) × (l.owner-end ≡ places.members (B.seat l.board).place)
