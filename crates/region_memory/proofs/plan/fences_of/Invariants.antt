use Rattle.std.proofs.Common.{◌≡◌, take}
use Rattle.region_memory.specs.Plans.{numbers_in}
use Rattle.region_memory.proofs.plan.fences_of.Given as goal

abbrev pub invariant-loop-fence : goal.invariant-loop-fence
invariant-loop-fence l = l.numbers.items ≡ numbers_in l.piece (take l.fence-index l.fences)
