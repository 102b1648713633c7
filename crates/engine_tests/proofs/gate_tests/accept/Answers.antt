use Rattle.region_memory.specs.Steady.{steady_state}
use Rattle.fs_model.specs.Cells.{key_of}
use Rattle.engine_tests.proofs.GateTrials.{has_tie, still_seated}
use Rattle.engine_tests.proofs.gate_tests.accept.Goals as goal

pub accept-requires-clause-tied : goal.accept-requires-clause-tied
accept-requires-clause-tied g c =
    let at = g.B.Board.seat c.args._board.now in
    has_tie (steady_state c.args.region.now) at.place at.number (g.B.Board.view c.args._board.now) c.args.worker.now c.requires.seated (key_of c.args.request) c.requires.own

pub returns : goal.returns
returns g c =
    let at = g.B.Board.seat c.args._board.now in
    still_seated (steady_state c.args.region.now) at.place at.number (g.B.Board.view c.args._board.now) c.args.worker.now c.accept.new.self (key_of c.args.request)
    c.requires.seated c.requires.own c.accept.ensures.ties
