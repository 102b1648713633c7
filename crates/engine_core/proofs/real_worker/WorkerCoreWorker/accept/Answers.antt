-- A request is accepted as the engine reads it.
use Rattle.fs_model.specs.Cells.{key_of}
use Rattle.std.proofs.Common.{refl}
use Rattle.engine_core.proofs.Working.{open_parts, has_tie, ok_begins, ok_takes, err_takes}
use Rattle.engine_core.proofs.real_worker.WorkerCoreWorker.accept.Goals as goal

pub accept-requires-clause-tied : goal.accept-requires-clause-tied
accept-requires-clause-tied g c = has_tie (g.R.Region.state c.args.region.now) c.args.self.now (key_of c.args.request) c.requires.stands

pub accept-requires-clause-room : goal.accept-requires-clause-room
accept-requires-clause-room g c = (open_parts c.args.self.now c.requires.open).1.1

pub accept-requires-clause-free : goal.accept-requires-clause-free
accept-requires-clause-free g c = (open_parts c.args.self.now c.requires.open).0

pub accept-requires-clause-works : goal.accept-requires-clause-works
accept-requires-clause-works g c = (open_parts c.args.self.now c.requires.open).1.0

pub returns-clause-accepted : goal.returns-clause-accepted
returns-clause-accepted g c =
    let e = c.accept.ensures in
    ok_takes (g.R.Region.state c.args.region.now) c.args.self.now c.accept.new.self (key_of c.args.request) e.ties e.rule e.runs e.starts c.accept.result c.args.number c.args.request refl e.moves

pub returns-clause-refused : goal.returns-clause-refused
returns-clause-refused g c =
    let e = c.accept.ensures in
    let s = g.R.Region.state c.args.region.now in
    err_takes s c.args.self.now c.accept.new.self (key_of c.args.request) e.ties e.rule e.runs e.starts c.accept.result c.args.request (has_tie s c.args.self.now (key_of c.args.request) c.requires.stands) e.given_back e.stays

pub returns-clause-begins : goal.returns-clause-begins
returns-clause-begins g c =
    let e = c.accept.ensures in
    ok_begins (g.R.Region.state c.args.region.now) c.args.self.now c.accept.new.self (key_of c.args.request) e.ties e.rule e.runs e.starts c.accept.result c.args.number c.args.request e.accepts
