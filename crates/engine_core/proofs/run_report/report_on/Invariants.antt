use Rattle.std.proofs.Common.{◌≡◌, ◌++◌, length}
use Rattle.engine_core.specs.Reports.{listed, IsReport, HasRoomFor, IsWithin}
use Rattle.engine_core.proofs.run_report.report_on.Given as goal

abbrev pub invariant-loop-answer : goal.invariant-loop-answer
invariant-loop-answer l = record {
  made : IsReport l.yielded (listed l.report);
  split : l.fn.answers.items ≡ l.yielded ++ l.answer-iterator.rest.items;
  room : HasRoomFor (length l.fn.answers.items) l.report;
  within : IsWithin (length l.yielded) l.report;
}
