use Rattle.thread_engine.specs.WorkStates.{sight_by}
use Rattle.thread_engine.specs.Windows.{Winds}
use Rattle.thread_engine.proofs.Changes.{ChangedBelow}
use Rattle.thread_engine.proofs.windows.wind_all_down.Given as goal

abbrev pub invariant-loop-job : goal.invariant-loop-job
invariant-loop-job g l = ChangedBelow (Winds g.B.Board.seat (sight_by g.B.Board.view g.B.Board.trail g.B.Board.at) g.P.Region.state) l.job-index l.fn.jobs l.jobs
