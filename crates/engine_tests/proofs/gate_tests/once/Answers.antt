use Rattle.region_memory.specs.Steady.{steady_state}
use Rattle.engine_tests.proofs.GateTrials.{seated_on}
use Rattle.engine_tests.proofs.gate_tests.once.Goals as goal

pub returns : goal.returns
returns g c =
    seated_on (steady_state c.args.region.now) (steady_state c.turn.new.region) (g.B.Board.seat c.args.board.now) (g.B.Board.seat c.turn.new.board)
    (g.B.Board.view c.args.board.now) (g.B.Board.view c.turn.new.board) c.args.worker.now c.turn.new.self c.next_answer-answer.new.self
    c.requires c.turn.ensures.seat c.turn.ensures.holds c.turn.ensures.stands c.turn.ensures.order
    c.next_answer-answer.ensures.holds c.next_answer-answer.ensures.stands c.next_answer-answer.ensures.order
