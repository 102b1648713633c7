-- The split failed, or there was no memory for the run.
use Rattle.std.proofs.Common.{subst}
use Rattle.thread_engine.specs.Printed.{RanToSink}
use Rattle.flatstore_commands.specs.Ends.{sink_use, source_use}
use Rattle.flatstore_commands.proofs.ThreadRunning.{split_refused}
use Rattle.flatstore_commands.proofs.run_threads.run_cores.Goals as goal

pub returns-in_err-ran-clause-refused : goal.returns-in_err-ran-clause-refused
returns-in_err-ran-clause-refused g c =
    split_refused (g.R.Region.state c.args.region.now) (g.R.Region.state c.run_to_sink.new.region) (g.R.ReadRegion.word c.args.region.now) c.in_err-ran.ensures.stays
    (source_use g.S.Source.coming g.S.Source.fault_count c.args.source.now c.prepared.new.source)
    c.run_to_sink.result c.run_to_sink.ensures.cause c.in_ok-recovered.recovered c.in_ok-recovered.input c.in_ok-recovered.ensures.ready
    c.in_err-ran.field-0.0 c.in_err-ran.was c.from_residual-in_err-ran.result c.from_residual-in_err-ran.ensures.1

-- the requests are those among the lines
pub returns-clause-played : goal.returns-clause-played
returns-clause-played g c =
    let s = g.R.Region.state c.args.region.now in
    let word = g.R.ReadRegion.word c.args.region.now in
    let refused = g.G.Gate.may_refuse c.args.gate.now in
    let t = g.R.Region.state c.run_to_sink.new.region in
    let sink = sink_use g.O.Sink.taken g.O.Sink.flushed g.O.Sink.fault_count c.args.sink.now c.run_to_sink.new.sink in
    record {
      recovered = c.in_ok-recovered.recovered;
      lines = c.in_ok-recovered.input;
      ready = c.in_ok-recovered.ensures.ready;
      ran = subst (λ xs. RanToSink sink.before sink.now sink.flushed sink.faults sink.faults' s word refused c.in_ok-recovered.recovered xs t c.in_ok-ran.ran) c.of-requests.ensures c.in_ok-ran.ensures.ran;
    }
