use Rattle.std.proofs.Common.{◌∙◌}
use Rattle.core_worker.proofs.SendingLaws.{takes_one}
use Rattle.core_worker.proofs.sending.take_names.Goals as goal

pub loop-names-preserved : goal.loop-names-preserved
loop-names-preserved c = (
  takes_one c.args.home c.args.index.now c.loop-names.index c.next_notice.new.self c.args.names.now.names c.loop-names.names.names c.push.new.self.names c.in-Some.name c.loop-names.invariant.0 c.in-Some.ensures.told c.in-Some.ensures.fewer c.push.ensures.names,
  c.push.ensures.room ∙ c.loop-names.invariant.1,
)
