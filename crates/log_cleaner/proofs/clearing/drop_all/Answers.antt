use Rattle.std.proofs.Common.{◌∙◌}
use Rattle.log_cleaner.proofs.DropLaws.{dropped_on, lone_on}
use Rattle.log_cleaner.proofs.clearing.drop_all.Goals as goal

pub loop-name-preserved : goal.loop-name-preserved
loop-name-preserved c = (dropped_on c.args.standing.now c.loop-name.standing c.drop_one.new.standing c.args.names.now c.loop-name.name-index (record { key = 0; version = 0 }) c.loop-name-test.true c.requires c.loop-name.invariant.0 c.drop_one.ensures.lowered, lone_on c.args.standing.now c.loop-name.standing c.drop_one.new.standing c.args.names.now c.loop-name.name-index (record { key = 0; version = 0 }) c.loop-name-test.true c.requires c.loop-name.invariant.0 c.loop-name.invariant.1 c.drop_one.ensures.count, c.drop_one.ensures.room ∙ c.loop-name.invariant.2, c.drop_one.ensures.floors ∙ c.loop-name.invariant.3)
