use Rattle.std.proofs.Common.{rules, subst}
use Rattle.thread_engine.specs.Printed.{RanToSink}
use Rattle.thread_engine.proofs.Looks.{as_err, as_ok}
use Rattle.thread_engine.proofs.Printing.{one_sink, ran_to_sink}
use Rattle.thread_engine.proofs.run_to_sink.run_to_sink.Goals as goal

pub returns-in-Err-clause-cause : goal.returns-in-Err-clause-cause
returns-in-Err-clause-cause g c = as_err (g.R.Region.state c.args.region.now) (g.R.Region.state c.run.new.region) c.in-Err.error c.in-Err.ensures.cause

pub returns-in-Ok-clause-cause : goal.returns-in-Ok-clause-cause
returns-in-Ok-clause-cause g c = as_ok (g.R.Region.state c.args.region.now) (g.R.Region.state c.run.new.region) c.in-Ok.ran _ c.in-Ok.ensures.cause

pub returns-in-Ok-clause-ran : goal.returns-in-Ok-clause-ran
returns-in-Ok-clause-ran g c =
    let W = c.in-Ok.ensures.ran in
    let N = one_sink (λ x. x.outlet.sink.ghost_name) (λ x. x.outlet.sink.now) (λ x. x.outlet.cause) g.O.Sink.taken g.O.Sink.flushed g.O.Sink.fault_count _ _ _ _ _ _ c.run.new.outlet W.hands in
    let R = ran_to_sink (λ x. x.outlet.sink.ghost_name) (λ x. x.outlet.sink.now) (λ x. x.outlet.cause) g.O.Sink.taken g.O.Sink.flushed g.O.Sink.fault_count W c.unwritten_by.result c.unwritten_by.ensures.none c.unwritten_by.ensures.cause in
    subst (λ z. RanToSink (g.O.Sink.taken c.args.sink.now) (g.O.Sink.taken z) (g.O.Sink.flushed z) (g.O.Sink.fault_count c.args.sink.now) (g.O.Sink.fault_count z) (g.R.Region.state c.args.region.now) (g.R.ReadRegion.word c.args.region.now)
    (g.G.Gate.may_refuse c.args.gate.now) c.args.recovered (g.Q.Requests.left c.args.requests.now) (g.R.Region.state c.run.new.region) (record { outcome = c.in-Ok.ran.outcome; unwritten = c.unwritten_by.result })) (search (rules, N)) R
