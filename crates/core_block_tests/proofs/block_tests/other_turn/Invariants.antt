use Rattle.std.proofs.Common.{◌≡◌}
use Rattle.lazy_alloc.specs.Sets.{AreSets}
use Rattle.core_block_tests.specs.SmallParts.{small}
use Rattle.core_block_tests.proofs.block_tests.other_turn.Given as goal

abbrev pub invariant-loop-turn : goal.invariant-loop-turn
invariant-loop-turn l = record { sets : AreSets l.a; layout : l.a.layout ≡ small }
