use Rattle.engine_tests.proofs.counted_worker_tests.counts.Goals as goal

pub work_off-requires : goal.work_off-requires
work_off-requires g c = record { stands = c.requires.stands; fair = c.requires.fair; own = c.requires.own }
