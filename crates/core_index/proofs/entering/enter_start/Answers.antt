use Rattle.core_index.specs.Records.{opened_with}
use Rattle.core_index.proofs.IndexLaws.{lone_entering, lone_keeping}
use Rattle.core_index.proofs.entering.enter_start.Goals as goal

pub returns-in-None-clause-enters : goal.returns-in-None-clause-enters
returns-in-None-clause-enters c = lone_entering c.enter_lone.result c.args.slots.now.entries c.args.start.now c.enter_lone.new.start c.args.key (opened_with c.args.version c.args.body.now c.args.standing.now) c.enter_lone.ensures.enters

pub returns-in-None-clause-waits : goal.returns-in-None-clause-waits
returns-in-None-clause-waits c =
    let known = opened_with c.args.version c.args.body.now c.args.standing.now in
    lone_keeping c.enter_lone.result c.args.slots.now.entries c.args.start.now c.enter_lone.new.start c.args.key known c.enter_lone.ensures.enters c.enter_lone.ensures.stays c.enter_lone.ensures.err
