use Rattle.engine_tests.proofs.CountedWorkers.{turns_around}
use Rattle.engine_tests.proofs.counted_worker_tests.CountedWorkerCoreWorker.turn.Goals as goal

pub returns-clause-turns : goal.returns-clause-turns
returns-clause-turns g c =
    let W = g.W.CoreWorker in
    turns_around (λ z. z.worker) W.hands W.answers W.stands W.fair W.room W.leads _ _ _ _ _ _ _ _ c.args.self.now _ _ _ c.turn-turn.ensures.turns
