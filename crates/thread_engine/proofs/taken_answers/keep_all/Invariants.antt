use Rattle.std.proofs.Common.{◌≡◌, map}
use Rattle.answer_queue.specs.declared.window_sizes.TheConstants.{PARTS}
use Rattle.answer_queue.specs.Queues.{IsOf, account_of}
use Rattle.engine_core.specs.Answers.{stored}
use Rattle.thread_engine.specs.Takings.{numbered_from}
use Rattle.thread_engine.proofs.taken_answers.keep_all.Given as goal

abbrev pub invariant-loop : goal.invariant-loop
invariant-loop g l = record {
  of : IsOf l.queue l.pass;
  parts : (account_of l.pass).parts ≡ PARTS;
  put : (account_of l.pass).put ≡ (account_of l.fn.pass).put;
  kept : l.window.items ≡ stored (map (numbered_from l.first) (account_of l.pass).took) 0 l.fn.window.items;
}
