-- Where nothing is heeded, no move is made.
use Rattle.thread_engine.specs.WorkStates.{stands_at, sight_by}
use Rattle.thread_engine.proofs.WorkMoves.{on_none}
use Rattle.thread_engine.proofs.core_job.CoreJob.heed.Goals as goal

pub returns-else-not-winding_down-clause-works : goal.returns-else-not-winding_down-clause-works
returns-else-not-winding_down-clause-works g c refused =
    on_none (g.B.Board.seat c.args.self.now.seat) refused (stands_at (sight_by g.B.Board.view g.B.Board.trail g.B.Board.at) g.P.Region.state c.args.self.now)
