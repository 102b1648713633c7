use Rattle.core_worker.proofs.PartsGiven.{given_back}
use Rattle.core_worker.proofs.worker.Worker.stop.Goals as goal

pub returns-clause-view : goal.returns-clause-view
returns-clause-view c = λ p m v H O runs works. given_back p m v c.args.self c.requires.idle H O runs works

pub returns-clause-names : goal.returns-clause-names
returns-clause-names c = λ s p m v S runs works telling. let N = S.names runs works telling in record { counted = N.counted; read = N.read; floors = N.floors; knows = N.knows; cleaned = tt }
