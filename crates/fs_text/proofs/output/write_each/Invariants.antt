use Rattle.std.proofs.Common.{◌≤◌, take}
use Rattle.fs_text.specs.Output.{lines_text}
use Rattle.fs_text.specs.Streams.{TakesUpTo}
use Rattle.fs_text.proofs.output.write_each.Given as goal

abbrev pub invariant-loop-item : goal.invariant-loop-item
invariant-loop-item g l = record {
  sent : TakesUpTo (g.O.Sink.taken l.fn.sink) (g.O.Sink.taken l.sink) (lines_text g.T.TextLine.line (take l.item-index l.items)) l.pending;
  count : g.O.Sink.fault_count l.fn.sink ≤ g.O.Sink.fault_count l.sink;
}
