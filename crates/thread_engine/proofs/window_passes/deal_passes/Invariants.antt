use Rattle.std.proofs.Common.{◌≡◌, ◌<◌, ◌+◌, length, drop}
use Rattle.answer_queue.specs.Accounts.{AreAmong}
use Rattle.answer_queue.specs.Queues.{IsOf, account_of}
use Rattle.answer_cores.specs.Passes.{after_deals, all_numbers, numbers_in}
use Rattle.thread_engine.specs.WindowJobs.{waiting_for, TakesPass}
use Rattle.thread_engine.proofs.Changes.{ChangedBelow}
use Rattle.thread_engine.proofs.window_passes.deal_passes.Given as goal

abbrev pub ghosts-deal : goal.ghosts-deal
ghosts-deal g a = record { numbers = numbers_in a._of.now.items }

abbrev pub invariant-loop-job : goal.invariant-loop-job
invariant-loop-job g l = record {
  of : IsOf l.queue l.pass;
  parts : length l.fn.jobs < (account_of l.pass).parts + l.job-index;
  may : AreAmong (all_numbers (drop l.job-index (waiting_for l.fn.jobs))) (account_of l.pass).may;
  left : after_deals (account_of l.pass) (drop l.job-index (waiting_for l.fn.jobs)) ≡ after_deals (account_of l.fn.pass) (waiting_for l.fn.jobs);
  changed : ChangedBelow (TakesPass l.queue) l.job-index l.fn.jobs l.jobs;
}
