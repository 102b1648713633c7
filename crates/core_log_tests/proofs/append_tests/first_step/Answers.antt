use Rattle.std.proofs.Common.{false}
use Rattle.region_memory.specs.Steady.{steady_state}
use Rattle.core_log.proofs.Clients.{may_start}
use Rattle.core_log_tests.proofs.append_tests.first_step.Goals as goal

pub walk-requires-clause-readable : goal.walk-requires-clause-readable
walk-requires-clause-readable c = may_start (record (steady_state c.args.stage.now.region.region) { told = λ t. false }) c.args.stage.now.log 1 c.requires.stands c.requires.has
