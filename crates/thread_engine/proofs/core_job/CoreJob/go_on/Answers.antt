-- A move, and where there was no memory the worker winds down.
use Rattle.std.proofs.Common.{[], subst}
use Rattle.thread_engine.specs.WorkStates.{WorksOn, stands_at, sight_by}
use Rattle.thread_engine.proofs.WorkMoves.{on_one, on_more}
use Rattle.thread_engine.proofs.core_job.CoreJob.go_on.Goals as goal

pub returns-in-Ok-Moved-clause-works : goal.returns-in-Ok-Moved-clause-works
returns-in-Ok-Moved-clause-works g c = on_one (g.B.Board.seat c.args.self.now.seat) (g.G.Gate.may_refuse c.args.gate.now) (stands_at (sight_by g.B.Board.view g.B.Board.trail g.B.Board.at) g.P.Region.state c.args.self.now) (stands_at (sight_by g.B.Board.view g.B.Board.trail g.B.Board.at) g.P.Region.state c.step.new.self) c.step.ensures.moves c.step.ensures.work

pub returns-in-Ok-Idle-clause-works : goal.returns-in-Ok-Idle-clause-works
returns-in-Ok-Idle-clause-works g c = on_one (g.B.Board.seat c.args.self.now.seat) (g.G.Gate.may_refuse c.args.gate.now) (stands_at (sight_by g.B.Board.view g.B.Board.trail g.B.Board.at) g.P.Region.state c.args.self.now) (stands_at (sight_by g.B.Board.view g.B.Board.trail g.B.Board.at) g.P.Region.state c.step.new.self) c.step.ensures.moves c.step.ensures.work

pub returns-in-Err-clause-works : goal.returns-in-Err-clause-works
returns-in-Err-clause-works g c =
    let seat = g.B.Board.seat c.args.self.now.seat in
    let refused = g.G.Gate.may_refuse c.args.gate.now in
    let a = stands_at (sight_by g.B.Board.view g.B.Board.trail g.B.Board.at) g.P.Region.state c.args.self.now in
    let b = stands_at (sight_by g.B.Board.view g.B.Board.trail g.B.Board.at) g.P.Region.state c.step.new.self in
    let d = stands_at (sight_by g.B.Board.view g.B.Board.trail g.B.Board.at) g.P.Region.state c.wind_down.new.self in
    on_more seat refused [] [] [] [] a b d (on_one seat refused a b c.step.ensures.moves c.step.ensures.work)
    (subst (λ z. WorksOn z refused [] [] b d) c.step.ensures.seat (c.wind_down.ensures.works refused))
