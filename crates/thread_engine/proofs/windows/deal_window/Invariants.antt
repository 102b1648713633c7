use Rattle.std.proofs.Common.{◌≡◌, ◌+◌, ◌≤◌, List, ◌++◌, length}
use Rattle.fs_model.specs.declared.model.Request.{Request}
use Rattle.thread_engine.specs.Windows.{AreDealt}
use Rattle.thread_engine.proofs.windows.deal_window.Given as goal

abbrev pub invariant-loop-number : goal.invariant-loop-number
invariant-loop-number g l = record {
  dealt : List Request;
  split : g.Q.Requests.left l.fn.requests ≡ dealt ++ g.Q.Requests.left l.requests;
  count : l.fn.from + length dealt ≡ l.number;
  deals : AreDealt l.fn.from dealt l.fn.jobs l.jobs;
  within : l.number ≤ l.to;
}
