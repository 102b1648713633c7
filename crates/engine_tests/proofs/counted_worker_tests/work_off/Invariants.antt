use Rattle.std.proofs.Common.{◌+◌, ◌*◌, length}
use Rattle.region_memory.specs.Steady.{steady_state}
use Rattle.group_laws.specs.MemberViews.{view_of}
use Rattle.group_board.specs.Journals.{state}
use Rattle.engine_core.specs.Calls.{AreOwn}
use Rattle.engine_tests.proofs.counted_worker_tests.work_off.Given as goal

abbrev pub invariant-loop : goal.invariant-loop
invariant-loop g l =
    let W = g.W.CoreWorker in
    let a = state l.board.keeper.me.0 in
    record {
      stands : W.stands a.place 1 (steady_state l.region) (view_of a 1) l.worker;
      fair : W.fair a 1 l.worker;
      own : AreOwn a.place 1 l.backlog.items;
    }

abbrev pub decreases-loop : goal.decreases-loop
decreases-loop g l =
    let W = g.W.CoreWorker in
    W.left l.worker + W.under_way (state l.board.keeper.me.0) + (W.most + 1) * length l.backlog.items
