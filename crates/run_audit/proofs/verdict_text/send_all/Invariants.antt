use Rattle.std.proofs.Common.{◌≤◌, length}
use Rattle.fs_text.specs.Streams.{TakesUpTo}
use Rattle.run_audit.proofs.verdict_text.send_all.Given as goal

abbrev pub invariant-loop-rest : goal.invariant-loop-rest
invariant-loop-rest g l = record {
  sent : TakesUpTo (g.O.Sink.taken l.fn.sink) (g.O.Sink.taken l.sink) l.bytes l.rest;
  count : g.O.Sink.fault_count l.fn.sink ≤ g.O.Sink.fault_count l.sink;
}

abbrev pub decreases-loop-rest : goal.decreases-loop-rest
decreases-loop-rest g l = length l.rest
