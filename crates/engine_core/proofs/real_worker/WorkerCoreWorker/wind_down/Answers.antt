use Rattle.engine_core.proofs.Working.{wound}
use Rattle.engine_core.proofs.real_worker.WorkerCoreWorker.wind_down.Goals as goal

pub returns : goal.returns
returns c = let e = c.wind_down.ensures in wound c.args.self.now c.wind_down.new.self e.winds e.holds e.stands e.order
