use Rattle.std.proofs.Common.{◌≡◌, ◌<◌}
use Rattle.core_worker.specs.Beginning.{answers_of}
use Rattle.answer_queue.specs.Accounts.{numbers, AreAmong, after_puts}
use Rattle.answer_queue.specs.Queues.{IsOf, account_of}
use Rattle.answer_cores.specs.Handing.{Keeps}
use Rattle.answer_cores.proofs.handing.hand_over.Given as goal

abbrev pub invariant-loop : goal.invariant-loop
invariant-loop g l = record {
  of : IsOf l.queue l.pass;
  part : 0 < (account_of l.pass).parts;
  may : AreAmong (numbers (answers_of l.worker)) (account_of l.pass).may;
  put : after_puts (account_of l.pass) (answers_of l.worker) ≡ after_puts (account_of l.fn.pass) (answers_of l.fn.worker);
  keeps : Keeps l.fn.worker l.worker;
}
