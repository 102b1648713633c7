-- At first no move is made.
use Rattle.thread_engine.specs.WorkStates.{sight_by}
use Rattle.thread_engine.proofs.WorkMoves.{none_yet}
use Rattle.thread_engine.proofs.core_job.CoreJob.work.Goals as goal

pub loop-init : goal.loop-init
loop-init g c = (tt, tt, none_yet g.B.Board.seat (sight_by g.B.Board.view g.B.Board.trail g.B.Board.at) g.P.Region.state (g.G.Gate.may_refuse c.args.gate.now) c.args.self.now c.requires)
