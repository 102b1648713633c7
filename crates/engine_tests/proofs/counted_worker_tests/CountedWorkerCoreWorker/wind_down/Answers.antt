use Rattle.engine_tests.proofs.CountedWorkers.{winds_around}
use Rattle.engine_tests.proofs.counted_worker_tests.CountedWorkerCoreWorker.wind_down.Goals as goal

pub returns : goal.returns
returns g c =
    let W = g.W.CoreWorker in
    winds_around (λ z. z.worker) W.hands W.answers W.stands W.fair W.room W.leads W.winds c.args.self.now _ c.wind_down.ensures
