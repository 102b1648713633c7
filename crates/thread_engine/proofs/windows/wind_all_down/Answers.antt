use Rattle.std.proofs.Common.{subst, arith}
use Rattle.thread_engine.specs.declared.core_job.CoreJob.{CoreJob}
use Rattle.thread_engine.specs.WorkStates.{sight_by}
use Rattle.thread_engine.specs.Windows.{Winds}
use Rattle.thread_engine.proofs.Changes.{next_changed, all_changed}
use Rattle.thread_engine.proofs.Deals.{index_any}
use Rattle.thread_engine.proofs.windows.wind_all_down.Goals as goal

pub loop-job-preserved : goal.loop-job-preserved
loop-job-preserved g c =
    let seat = g.B.Board.seat in
    let sight = sight_by g.B.Board.view g.B.Board.trail g.B.Board.at in
    let state = g.P.Region.state in
    let I = c.loop-job.invariant in
    let a = c.args.jobs.now in
    let b = c.loop-job.jobs in
    let n = c.loop-job.job-index in
    let there = c.loop-job-test.true in
    let same = I.count in
    next_changed (Winds seat sight state) n a b c.wind_down.new.self (omega (arith, there, same)) I
    (λ d. subst (λ (y : CoreJob g.row.B.Denot g.row.P.Denot). Winds seat sight state y c.wind_down.new.self) (index_any b n c.job-item.result d (omega (arith, there, same))) (record { winds = c.wind_down.ensures.winds; work = c.wind_down.ensures.work }))

pub returns : goal.returns
returns g c =
    let past = c.loop-job-test.false in
    let same = c.loop-job.invariant.count in
    all_changed (Winds g.B.Board.seat (sight_by g.B.Board.view g.B.Board.trail g.B.Board.at) g.P.Region.state) c.loop-job.job-index c.args.jobs.now c.loop-job.jobs (omega (arith, past, same)) c.loop-job.invariant
