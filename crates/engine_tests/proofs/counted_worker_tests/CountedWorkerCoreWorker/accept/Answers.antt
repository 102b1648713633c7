use Rattle.engine_tests.proofs.CountedWorkers.{accepted_around, refused_around}
use Rattle.engine_tests.proofs.counted_worker_tests.CountedWorkerCoreWorker.accept.Goals as goal

pub returns-clause-accepted : goal.returns-clause-accepted
returns-clause-accepted g c =
    let W = g.W.CoreWorker in
    accepted_around (λ z. z.worker) W.hands W.answers W.stands W.fair c.accept-answer.result (g.R.Region.state c.args.region.now) c.args.self.now _ (c.args.number, c.args.request) c.accept-answer.ensures.accepted

pub returns-clause-refused : goal.returns-clause-refused
returns-clause-refused g c =
    let W = g.W.CoreWorker in
    refused_around (λ z. z.worker) W.hands W.answers W.stands W.fair c.accept-answer.result (g.R.Region.state c.args.region.now) c.args.self.now _ c.args.request c.accept-answer.ensures.refused
