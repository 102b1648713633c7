use Rattle.region_memory.specs.Steady.{steady_state}
use Rattle.group_board.specs.Journals.{state}
use Rattle.engine_tests.proofs.CountedWorkers.{place_kept, own_left}
use Rattle.engine_tests.proofs.counted_worker_tests.work_off.Goals as goal

pub loop-preserved : goal.loop-preserved
loop-preserved g c =
    let W = g.W.CoreWorker in
    let a = state c.loop.board.keeper.me.0 in
    let b = state c.step.new.board.keeper.me.0 in
    let T = c.in_ok-step.ensures.steps in
    let kept = place_kept W.hands W.answers W.stands W.fair (steady_state c.loop.region) (steady_state c.step.new.region) a b c.loop.worker c.step.new.worker c.loop.backlog.items T.0 T.1 _ _ T.2 in
    record {
      stands = kept;
      fair = T.2.fairly;
      own = own_left W.hands W.answers W.stands W.fair (steady_state c.loop.region) (steady_state c.step.new.region) a b c.loop.worker c.step.new.worker c.loop.backlog.items T.0 T.1 _ _ T.2 c.loop.invariant.own c.step.new.backlog.items T.3;
    }
