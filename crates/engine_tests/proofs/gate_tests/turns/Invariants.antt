use Rattle.region_memory.specs.Steady.{steady_state}
use Rattle.engine_tests.specs.WorkerTrials.{IsSeated}
use Rattle.engine_tests.proofs.gate_tests.turns.Given as goal

abbrev pub invariant-loop-turn : goal.invariant-loop-turn
invariant-loop-turn g l = IsSeated (steady_state l.region) (g.B.Board.seat l.board).place (g.B.Board.seat l.board).number (g.B.Board.view l.board) l.worker
