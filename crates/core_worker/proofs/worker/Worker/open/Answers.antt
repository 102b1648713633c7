use Rattle.core_worker.proofs.JustRooms.{just_new}
use Rattle.core_worker.proofs.Starting.{kept_room, holds_now, order_now, stands_now}
use Rattle.core_worker.proofs.worker.Worker.open.Goals as goal

pub returns-clause-rule : goal.returns-clause-rule
returns-clause-rule c = kept_room c.args.start c.args.layout c.in_ok-worker.worker c.in_ok-worker.ensures

pub returns-clause-holds : goal.returns-clause-holds
returns-clause-holds c = λ p m image same at. holds_now p m image c.args.start c.args.layout c.in_ok-worker.worker c.in_ok-worker.ensures same at

pub returns-clause-order : goal.returns-clause-order
returns-clause-order c = λ p m image same at. order_now p m image c.args.start c.args.layout c.in_ok-worker.worker c.in_ok-worker.ensures same at

pub returns-clause-stands : goal.returns-clause-stands
returns-clause-stands c = λ p m image same at s here. stands_now p m image c.args.start c.args.layout c.in_ok-worker.worker c.in_ok-worker.ensures same at s here

pub returns-clause-just : goal.returns-clause-just
returns-clause-just c = just_new c.args.start c.args.layout c.in_ok-worker.worker c.in_ok-worker.ensures
