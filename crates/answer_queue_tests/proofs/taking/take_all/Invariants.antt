use Rattle.std.proofs.Common.{◌≡◌, ◌≤◌, vec_capacity}
use Rattle.answer_queue.specs.declared.window_sizes.TheConstants.{WINDOW, PARTS}
use Rattle.answer_queue.specs.Queues.{IsOf, account_of}
use Rattle.answer_queue_tests.proofs.taking.take_all.Given as goal

abbrev pub invariant-loop : goal.invariant-loop
invariant-loop g l = record {
  of : IsOf l.queue l.pass;
  parts : (account_of l.pass).parts ≡ PARTS;
  put : (account_of l.pass).put ≡ (account_of l.fn.pass).put;
  took : (account_of l.pass).took ≡ l.room.items;
  room : WINDOW ≤ vec_capacity l.room;
}
