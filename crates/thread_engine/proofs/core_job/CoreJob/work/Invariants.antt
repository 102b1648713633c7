use Rattle.thread_engine.specs.WorkStates.{GoesOn, sight_by}
use Rattle.thread_engine.proofs.core_job.CoreJob.work.Given as goal

abbrev pub invariant-loop : goal.invariant-loop
invariant-loop g l = (goal.iterator-loop g).can_next l.iterator'
    × (goal.iterator-loop g).is_finite l.iterator'
    × GoesOn g.B.Board.seat (sight_by g.B.Board.view g.B.Board.trail g.B.Board.at) g.P.Region.state (g.G.Gate.may_refuse l.gate) l.fn.self l.self
