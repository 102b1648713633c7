-- What waits of a key is begun, but by a core that winds down.
use Rattle.core_worker.proofs.Served.{held_aside, served_none, served_all, serves_all, serves_short}
use Rattle.core_worker.proofs.worker.Worker.serve.Goals as goal

pub returns-then-self-clause-ties : goal.returns-then-self-clause-ties
returns-then-self-clause-ties g c s t T = served_none s c.args.self.now c.args.key t c.if-self.true c.requires.ready T

pub begin_waiting-requires-clause-tied : goal.begin_waiting-requires-clause-tied
begin_waiting-requires-clause-tied g c =
    let t = c.requires.tied.0 in
    let T = c.requires.tied.1 in
    (t, held_aside (g.R.Region.state c.args.region.now) c.args.self.now c.args.key t T, T.stands)

pub begin_waiting-requires-clause-hand : goal.begin_waiting-requires-clause-hand
begin_waiting-requires-clause-hand g c = c.requires.tied.1.order.hand c.if-self.false

pub returns-clause-ties : goal.returns-clause-ties
returns-clause-ties g c s t T = served_all s c.args.self.now c.begin_waiting.new.self c.args.key t c.begin_waiting.ensures.keeps c.begin_waiting.ensures.waits c.begin_waiting.ensures.order T

pub returns-clause-begins : goal.returns-clause-begins
returns-clause-begins g c = serves_all c.begin_waiting.result (g.R.Region.state c.args.region.now) c.args.self.now c.begin_waiting.new.self c.args.key c.if-self.false c.begin_waiting.ensures.begins

pub returns-clause-short : goal.returns-clause-short
returns-clause-short g c = serves_short c.begin_waiting.result (g.R.Region.state c.args.region.now) c.args.self.now c.begin_waiting.new.self c.args.key c.if-self.false c.begin_waiting.ensures.short
