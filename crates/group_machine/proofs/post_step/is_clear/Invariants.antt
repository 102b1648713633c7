use Rattle.std.proofs.Common.{◌≡◌, ℕ, Some, length, ◌⊎◌}
use Rattle.std.specs.Ordering.{nat_cmp}
use Rattle.std.specs.BTreeMap.{get, is_at}
use Rattle.std.specs.Map.{lookup}
use Rattle.group_laws.specs.declared.types.Block.{Block}
use Rattle.group_laws.specs.Places.{Apart, units}
use Rattle.group_machine.proofs.post_step.is_clear.Given as goal

-- each block is apart, or still to come
abbrev pub invariant-loop-pointer : goal.invariant-loop-pointer
invariant-loop-pointer l = (q : ℕ) (b : Block) → get nat_cmp l.blocks q ≡ Some b → Apart l.first l.count q (units (length b.bytes)) ⊎ (lookup (is_at (nat_cmp q)) l.pointer-iterator ≡ Some b)
