use Rattle.std.proofs.Common.{◌≡◌, ◌<◌}
use Rattle.answer_queue.specs.Accounts.{AreAmong, numbers, after_puts}
use Rattle.answer_queue.specs.Queues.{IsOf, account_of}
use Rattle.answer_queue_tests.proofs.two_threads.put_all.Given as goal

abbrev pub invariant-loop-answer : goal.invariant-loop-answer
invariant-loop-answer g l = record {
  of : IsOf l.queue l.pass;
  part : 0 < (account_of l.pass).parts;
  may : AreAmong (numbers l.answer-iterator.rest.items) (account_of l.pass).may;
  put : after_puts (account_of l.pass) l.answer-iterator.rest.items ≡ after_puts (account_of l.fn.pass) l.fn.answers.items;
}
