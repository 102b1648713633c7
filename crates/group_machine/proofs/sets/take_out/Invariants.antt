use Rattle.std.proofs.Common.{◌≡◌, ℕ, None, cond, take}
use Rattle.std.specs.BTreeMap.{get}
use Rattle.group_laws.specs.Updates.{has}
use Rattle.group_machine.specs.Shows.{pair_cmp}
use Rattle.group_machine.proofs.sets.take_out.Given as goal

abbrev pub invariant-loop-name : goal.invariant-loop-name
invariant-loop-name l = (k n : ℕ) → get pair_cmp l.present (k, n) ≡ cond (has (take l.name-index l.names) k n) None (get pair_cmp l.fn.present (k, n))
