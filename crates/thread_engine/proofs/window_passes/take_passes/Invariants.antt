use Rattle.std.proofs.Common.{◌≡◌, drop}
use Rattle.answer_queue.specs.Queues.{IsOf, account_of}
use Rattle.answer_cores.specs.Passes.{joined_all}
use Rattle.thread_engine.specs.WindowJobs.{passes_of, LosesPass}
use Rattle.thread_engine.proofs.Changes.{ChangedBelow}
use Rattle.thread_engine.proofs.window_passes.take_passes.Given as goal

abbrev pub invariant-loop-job : goal.invariant-loop-job
invariant-loop-job g l = record {
  of : IsOf l.queue l.pass;
  joined : joined_all (account_of l.pass) (passes_of (drop l.job-index l.fn.jobs)) ≡ joined_all (account_of l.fn.pass) (passes_of l.fn.jobs);
  changed : ChangedBelow LosesPass l.job-index l.fn.jobs l.jobs;
}
