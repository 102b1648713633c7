use Rattle.std.proofs.Common.{◌≡◌, ◌≤◌, vec_len, vec_capacity}
use Rattle.answer_queue.specs.Accounts.{numbers, numbers_from}
use Rattle.answer_queue_tests.proofs.two_threads_tests.twenty.Given as goal

abbrev pub invariant-loop-i : goal.invariant-loop-i
invariant-loop-i l = record {
  are : numbers l.answers.items ≡ numbers_from l.from l.i;
  len : vec_len l.answers ≡ l.i;
  room : 20 ≤ vec_capacity l.answers;
}
