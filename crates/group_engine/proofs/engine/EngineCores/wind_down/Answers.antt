use Rattle.group_engine.proofs.Winding.{all_wind, wound_shows}
use Rattle.group_engine.proofs.engine.EngineCores.wind_down.Goals as goal

pub returns-clause-winds : goal.returns-clause-winds
returns-clause-winds g c =
    let W = g.W.CoreWorker in
    all_wind W.hands W.answers W.stands W.fair W.room W.leads W.winds c.args.self.now.workers.items c.wind_all.new.workers.items c.wind_all.ensures.count c.wind_all.ensures.each

pub returns-clause-stays : goal.returns-clause-stays
returns-clause-stays g c = λ s e h.
    let W = g.W.CoreWorker in
    let en = c.args.self.now in
    wound_shows W.hands W.answers W.stands W.fair W.room W.leads W.winds (λ q. q.items) h.0 e h.1 s en.layout en.workers.items c.wind_all.new.workers.items en.boards.items en.backlogs.items en.answers.items h.2 c.wind_all.ensures.count c.wind_all.ensures.each
