use Rattle.std.proofs.Common.{◌∙◌}
use Rattle.log_standing.proofs.StandingLaws.{entered}
use Rattle.log_standing.proofs.standing_names.Standing.open.Goals as goal

pub loop-name-preserved : goal.loop-name-preserved
loop-name-preserved c = record {
  copies = entered c.loop-name.standing c.reserve.new.self c.add.new.self c.args.names.now c.loop-name.name-index (record { key = 0; version = 0 }) c.loop-name-test.true c.loop-name.invariant.copies c.reserve.ensures.copies c.add.ensures.added;
  settled = c.add.ensures.settled ∙ c.reserve.ensures.settled ∙ c.loop-name.invariant.settled;
}
