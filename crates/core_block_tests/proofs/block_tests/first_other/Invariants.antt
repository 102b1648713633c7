use Rattle.std.proofs.Common.{◌≡◌}
use Rattle.lazy_alloc.specs.Sets.{AreSets}
use Rattle.core_block_tests.specs.SmallParts.{small}
use Rattle.core_block_tests.proofs.block_tests.first_other.Given as goal

abbrev pub invariant-loop-place : goal.invariant-loop-place
invariant-loop-place l = record { sets : AreSets l.a; layout : l.a.layout ≡ small }
