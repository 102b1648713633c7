use Rattle.std.proofs.Common.{◌-◌}
use Rattle.answer_queue.specs.Accounts.{numbers_from}
use Rattle.thread_engine.proofs.desk.Desk.begin.Given as goal

abbrev pub ghosts-renew : goal.ghosts-renew
ghosts-renew a = record { numbers = numbers_from a._of.now.0 (a._of.now.1 - a._of.now.0) }
