use Rattle.std.proofs.Common.{arith}
use Rattle.core_worker.proofs.AcceptedOrder.{given_order}
use Rattle.core_worker.proofs.Winding.{given_holds, given_stands}
use Rattle.core_worker.proofs.worker.Worker.next_answer.Goals as goal

pub returns-clause-holds : goal.returns-clause-holds
returns-clause-holds c p m v H = given_holds p m v c.args.self.now c.pop_front.new.self H

pub returns-clause-stands : goal.returns-clause-stands
returns-clause-stands c s p m v S = given_stands s p m v c.args.self.now c.pop_front.new.self S

pub returns-clause-order : goal.returns-clause-order
returns-clause-order c p m v O =
    let e = c.pop_front.ensures.len in
    given_order p m v c.args.self.now c.pop_front.new.self (omega (arith, e)) c.pop_front.ensures.capacity O
