-- The next answer is taken: nothing else differs.
use Rattle.std.proofs.Common.{sym, ap, subst}
use Rattle.core_worker.specs.Left.{left, StartsFirst}
use Rattle.core_worker.specs.WorkerMoves.{hands_of}
use Rattle.engine_core.specs.Calls.{is_open}
use Rattle.engine_core.specs.Working.{may_take, leads}
use Rattle.engine_core.proofs.Working.{given_member}
use Rattle.engine_core.proofs.real_worker.WorkerCoreWorker.next_answer.Goals as goal

pub returns-clause-hands : goal.returns-clause-hands
returns-clause-hands c v = ap (hands_of v) c.next_answer.ensures.rest

pub returns-clause-stands : goal.returns-clause-stands
returns-clause-stands c p m s v M =
    let e = c.next_answer.ensures in
    given_member p m s v c.args.self.now c.next_answer.new.self e.rest (e.holds p m v) (e.stands s p m v) (e.order p m v) M

pub returns-clause-fair : goal.returns-clause-fair
returns-clause-fair c a m starts = subst StartsFirst (sym c.next_answer.ensures.rest) starts

pub returns-clause-open : goal.returns-clause-open
returns-clause-open c = ap (is_open may_take leads) c.next_answer.ensures.rest

pub returns-clause-left : goal.returns-clause-left
returns-clause-left c = ap left c.next_answer.ensures.rest
