-- What a clause says of the queue of answers and its passes.
use Rattle.crossbeam_queue.specs.Passes.{Pass, view, IsPassOf}
use Rattle.core_worker.specs.declared.types.Answer.{Answer}
use Rattle.answer_queue.specs.declared.account.Account.{Account}
use Rattle.answer_queue.specs.declared.answer_queue.AnswerQueue.{AnswerQueue}

-- it is a pass of this queue
abbrev pub IsOf : AnswerQueue → Pass Answer Account → Type 0
IsOf q p = IsPassOf q.ring p

-- what the pass knows
abbrev pub account_of : Pass Answer Account → Account
account_of p = view p
