use Rattle.region_memory.specs.Steady.{steady_state}
use Rattle.pm_region.specs.Words.{lasts}
use Rattle.recover_tests.proofs.RecoveryTrials.{found_made}
use Rattle.recover_tests.proofs.recovery_tests.pairs_of.Goals as goal

pub pairs-requires-clause-found : goal.pairs-requires-clause-found
pairs-requires-clause-found c = λ telling.
    found_made 36864 c.in_ok-recovered.recovered c.in_ok-recovered.ensures.made (lasts (steady_state c.args.region.now)) (c.in_ok-recovered.ensures.told telling)
