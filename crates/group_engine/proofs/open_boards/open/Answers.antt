use Rattle.std.proofs.Common.{sym, subst}
use Rattle.engine_laws.specs.Stands.{opening}
use Rattle.group_engine.specs.Shows.{Shows}
use Rattle.group_engine.proofs.Opened.{shows_opening}
use Rattle.group_engine.proofs.open_boards.open.Goals as goal

pub returns-clause-opened : goal.returns-clause-opened
returns-clause-opened g c =
    let W = g.W.CoreWorker in
    λ o found seats. subst (λ ks. Shows W.hands W.answers W.stands W.fair W.room W.leads (λ q. q.items) o.region c.args.layout c.args.workers.items c.in_ok-boards.boards.items c.in_ok-backlogs.backlogs.items ks (opening o)) (sym c.new.ensures.items)
    (shows_opening W.hands W.answers W.stands W.fair W.room W.leads (λ q. q.items) g.O.Opening.words c.args.layout c.args.workers.items c.in_ok-boards.boards.items c.in_ok-backlogs.backlogs.items c.requires.layout c.requires.workers c.in_ok-boards.ensures.length c.in_ok-backlogs.ensures.length c.in_ok-boards.ensures.opened c.in_ok-backlogs.ensures.empty o found seats)
