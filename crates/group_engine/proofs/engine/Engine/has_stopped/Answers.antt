use Rattle.group_engine.proofs.Stopping.{stopped_there, going_there}
use Rattle.group_engine.proofs.engine.Engine.has_stopped.Goals as goal

pub returns : goal.returns
returns g c =
    let W = g.W.CoreWorker in
    let en = c.args.self.now in
    record {
      stopped = λ yes s o e S H. stopped_there W.hands W.answers W.stands W.fair W.room W.leads (λ q. q.items) e s en.layout en.workers.items en.boards.items en.backlogs.items en.answers.items H (c.any_stopped.ensures.stopped yes);
      going = λ no s o e S H k low. going_there W.hands W.answers W.stands W.fair W.room W.leads (λ q. q.items) e s en.layout en.workers.items en.boards.items en.backlogs.items en.answers.items H (c.any_stopped.ensures.going no) k low;
    }
