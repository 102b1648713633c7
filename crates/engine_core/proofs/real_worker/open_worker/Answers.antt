-- What a worker opens with seats it.
use Rattle.engine_core.proofs.Seating.{ok_seats}
use Rattle.engine_core.proofs.real_worker.open_worker.Goals as goal

pub returns-clause-seated : goal.returns-clause-seated
returns-clause-seated c =
    let e = c.open.ensures in
    ok_seats c.open.result c.args.start c.args.layout e.new e.rule e.holds e.order e.stands
