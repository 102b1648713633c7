-- What a thread may put, and what it put.
use Rattle.std.specs.Prelude.{◌≡◌, List}
use Rattle.crossbeam_queue.specs.Passes.{Pass}
use Rattle.core_worker.specs.declared.types.Answer.{Answer}
use Rattle.answer_queue.specs.declared.account.Account.{Account}
use Rattle.answer_queue.specs.declared.answer_queue.AnswerQueue.{AnswerQueue}
use Rattle.answer_queue.specs.Accounts.{numbers, with_numbers, after_puts}
use Rattle.answer_queue.specs.Queues.{IsOf, account_of}

-- a pass of this queue with the numbers of these answers
pub record MayPut (q : AnswerQueue) (xs : List Answer) (p : Pass Answer Account) : Type 0 where
  pub of : IsOf q p
  pub may : account_of p ≡ with_numbers (numbers xs)

-- such a pass with which they were put
pub record HasPut (q : AnswerQueue) (xs : List Answer) (p : Pass Answer Account) : Type 0 where
  pub of : IsOf q p
  pub put : account_of p ≡ after_puts (with_numbers (numbers xs)) xs
