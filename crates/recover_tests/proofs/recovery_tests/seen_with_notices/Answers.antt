use Rattle.recover_tests.proofs.RecoveryTrials.{allocators_laid}
use Rattle.recover_tests.proofs.recovery_tests.seen_with_notices.Goals as goal

pub seen_in-seen-requires : goal.seen_in-seen-requires
seen_in-seen-requires c = allocators_laid 20480 c.in_ok-recovered.recovered c.in_ok-recovered.ensures.made
