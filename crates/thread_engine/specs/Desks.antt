-- A run's queue of answers with its pass, between windows and at the beginning of one.
use Rattle.std.specs.Prelude.{◌≡◌, ℕ, ◌-◌}
use Rattle.answer_queue.specs.Accounts.{IsClear, granted, numbers_from}
use Rattle.answer_queue.specs.Queues.{IsOf, account_of}
use Rattle.thread_engine.specs.declared.desk.Desk.{Desk}

-- The pass has all parts, and all that was put was taken.
pub record IsCleared (x : Desk) : Type 0 where
  pub of : IsOf x.queue x.pass
  pub clear : IsClear (account_of x.pass)

-- The pass has all parts and has put and taken nothing.
pub record IsFresh (x : Desk) : Type 0 where
  pub of : IsOf x.queue x.pass
  pub whole : account_of x.pass ≡ granted (account_of x.pass).may

-- for answers of the numbers from n on and below m
pub record IsOpen (n m : ℕ) (x : Desk) : Type 0 where
  pub fresh : IsFresh x
  pub may : (account_of x.pass).may ≡ numbers_from n (m - n)
