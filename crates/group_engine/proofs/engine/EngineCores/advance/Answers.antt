use Rattle.std.proofs.Common.{◌<◌, length, refl, ap, subst, arith, Result, OnOk, IfOk}
use Rattle.fs_model.specs.declared.memory.Memory.{Memory}
use Rattle.chunk_map.specs.declared.layouts.Geometry.{Geometry}
use Rattle.engine_core.specs.Calls.{NoneWinds, has_moved}
use Rattle.group_engine.specs.Runs.{RunMoves, run_state}
use Rattle.engine_core.proofs.Clients.{on_err, ok_of, some_there}
use Rattle.group_engine.proofs.Running.{of_lists}
use Rattle.group_engine.proofs.engine.EngineCores.advance.Goals as goal

pub move_core-requires-clause-stays : goal.move_core-requires-clause-stays
move_core-requires-clause-stays g c = let h = c.requires.shows.1 in (c.requires.shows.0.engine, h.0, h.1, h.2.shows)

pub returns-clause-moved : goal.returns-clause-moved
returns-clause-moved g c =
    let W = g.W.CoreWorker in
    let en = c.args.self.now in
    let there : c.args.core < length en.workers.items = (let low = c.requires.core in let n = c.requires.shows.1.2.shows.worker_count in omega (arith, low, n)) in
    let at = some_there en.workers.items c.args.core there in
    ok_of c.move_core.result _ (λ b is e h.
    let a = c.move_core.ensures.advances at.0 at.1 h.0 e.engine h.1 h.2.shows in
    let new = c.move_core.new.self in
    let f = run_state a.0 new.workers.items new.answers.items in
    let run = subst (λ (z : Result _ Memory). IfOk z (λ d. RunMoves W.hands W.answers W.stands W.fair W.room W.leads W.begins W.turned W.alike (run_state e.engine en.workers.items en.answers.items) c.args.core (has_moved d) f)) is (a.5 (h.3 c.args.core at.0 at.1)) in
    (f, (a.1, a.2, record { shows = a.3; workers_are = refl; answers_are = refl }, subst (λ (z : Result _ Memory). OnOk z (NoneWinds W.winds c.move_core.new.self.workers.items)) is (c.move_core.ensures.goes h.3)), of_lists W.hands W.answers W.stands W.fair W.room W.leads W.begins W.turned W.alike e c.args.core (has_moved b) f en.workers.items en.answers.items h.2.workers_are h.2.answers_are run))

pub returns-clause-failed : goal.returns-clause-failed
returns-clause-failed g c =
    let en = c.args.self.now in
    let there : c.args.core < length en.workers.items = (let low = c.requires.core in let n = c.requires.shows.1.2.shows.worker_count in omega (arith, low, n)) in
    let at = some_there en.workers.items c.args.core there in
    on_err c.move_core.result (λ e h. let a = c.move_core.ensures.advances at.0 at.1 h.0 e.engine h.1 h.2.shows in (a.0, (a.1, a.2, a.3), a.4.ends))

pub returns-clause-cores : goal.returns-clause-cores
returns-clause-cores g c = ap (λ (l : Geometry). l.cores) c.move_core.ensures.layout
