use Rattle.std.proofs.Common.{◌*◌}
use Rattle.recover_tests.proofs.RecoveryTrials.{allocators_laid}
use Rattle.recover_tests.proofs.recovery_tests.seen_of.Goals as goal

pub seen_in-requires : goal.seen_in-requires
seen_in-requires c = allocators_laid (8 * c.args.words) c.in_ok-recovered.recovered c.in_ok-recovered.ensures.made
