use Rattle.std.proofs.Common.{◌≡◌, ◌+◌, List, [], ◌++◌, map, take}
use Rattle.fs_model.specs.declared.model.Reply.{Reply}
use Rattle.engine_core.specs.Reports.{reply_in}
use Rattle.load_tally.specs.Tallied.{IsWithin, tally_of}
use Rattle.load_run.proofs.answer_counts.add_answers.Given as goal

abbrev pub invariant-loop-answer : goal.invariant-loop-answer
invariant-loop-answer l = record {
  counts : (rs : List Reply) → l.fn.tally ≡ tally_of rs [] → l.tally ≡ tally_of (rs ++ map reply_in (take l.answer-index l.answers)) [];
  within : IsWithin l.tally;
  requests : l.tally.requests ≡ l.fn.tally.requests + l.answer-index;
}
