use Rattle.core_worker.proofs.AcceptedOrder.{wound_order}
use Rattle.core_worker.proofs.Winding.{wound_holds, wound_stands}
use Rattle.core_worker.proofs.worker.Worker.wind_down.Goals as goal

pub returns-clause-holds : goal.returns-clause-holds
returns-clause-holds c p m v H = wound_holds p m v c.args.self.now H

pub returns-clause-stands : goal.returns-clause-stands
returns-clause-stands c s p m v S = wound_stands s p m v c.args.self.now S

pub returns-clause-order : goal.returns-clause-order
returns-clause-order c p m v O = wound_order p m v c.args.self.now O
