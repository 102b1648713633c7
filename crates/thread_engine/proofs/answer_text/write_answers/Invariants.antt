use Rattle.std.proofs.Common.{◌≤◌, take}
use Rattle.fs_text.specs.Output.{lines_text, reply_line}
use Rattle.fs_text.specs.Streams.{TakesUpTo}
use Rattle.engine_core.specs.Reports.{reply_in}
use Rattle.thread_engine.proofs.answer_text.write_answers.Given as goal

abbrev pub invariant-loop-answer : goal.invariant-loop-answer
invariant-loop-answer g l = record {
  sent : TakesUpTo (g.O.Sink.taken l.fn.sink) (g.O.Sink.taken l.sink) (lines_text (λ x. reply_line (reply_in x)) (take l.answer-index l.answers)) l.pending;
  count : g.O.Sink.fault_count l.fn.sink ≤ g.O.Sink.fault_count l.sink;
}
