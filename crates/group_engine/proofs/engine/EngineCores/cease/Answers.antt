use Rattle.std.proofs.Common.{◌≡◌, ◌<◌, length, true, false, ap, sym, ◌∙◌, arith}
use Rattle.chunk_map.specs.declared.layouts.Geometry.{Geometry}
use Rattle.engine_core.proofs.Clients.{some_there}
use Rattle.group_engine.proofs.engine.EngineCores.cease.Goals as goal

pub move_core-requires-clause-stays : goal.move_core-requires-clause-stays
move_core-requires-clause-stays g c = let h = c.requires.stays.1 in (c.requires.stays.0, h.0, h.1, h.2)

pub unreachable-requires : goal.unreachable-requires
unreachable-requires g c =
    let en = c.args.self.now in
    let there : c.args.core < length en.workers.items = (let low = c.requires.core in let n = c.requires.stays.1.2.worker_count in omega (arith, low, n)) in
    let at = some_there en.workers.items c.args.core there in
    let both : true ≡ false = sym (c.requires.winds c.args.core at.0 at.1) ∙ c.in-Err.ensures.sure at.0 at.1 in
    cc both

pub returns-clause-ceases : goal.returns-clause-ceases
returns-clause-ceases g c = λ e h.
    let en = c.args.self.now in
    let there : c.args.core < length en.workers.items = (let low = c.requires.core in let n = c.requires.stays.1.2.worker_count in omega (arith, low, n)) in
    let at = some_there en.workers.items c.args.core there in
    let a = c.in-Ok.ensures.advances at.0 at.1 h.0 e h.1 h.2 in
    (a.0, (a.1, a.2, a.3), record { ends = a.4.ends; halts = a.4.halts })

pub returns-clause-winds : goal.returns-clause-winds
returns-clause-winds g c = c.move_core.ensures.winds c.requires.winds

pub returns-clause-cores : goal.returns-clause-cores
returns-clause-cores g c = ap (λ (l : Geometry). l.cores) c.move_core.ensures.layout
