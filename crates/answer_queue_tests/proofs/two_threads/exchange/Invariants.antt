use Rattle.std.proofs.Common.{◌++◌}
use Rattle.answer_queue.specs.Accounts.{numbers}
use Rattle.answer_queue_tests.proofs.two_threads.exchange.Given as goal

abbrev pub ghosts-open : goal.ghosts-open
ghosts-open g a = record { numbers = numbers (a._of.now.0.now.items ++ a._of.now.1.now.items) }

abbrev pub ghosts-deal : goal.ghosts-deal
ghosts-deal g a = record { numbers = numbers a._of.now.items }
