use Rattle.std.specs.Prelude.{◌+◌, ◌*◌, length}
use Rattle.thread_engine.proofs.for_each_flat.+flat.Given as goal

abbrev pub decreases-for_each_flat : goal.decreases-for_each_flat
decreases-for_each_flat g l = 4 * length l.s.now

abbrev pub decreases-rest_and_last-own : goal.decreases-rest_and_last-own
decreases-rest_and_last-own g l = 4 * length l.rest.now + 1

abbrev pub decreases-rest_and_last : goal.decreases-rest_and_last
decreases-rest_and_last g l = 4 * l.at + 3
