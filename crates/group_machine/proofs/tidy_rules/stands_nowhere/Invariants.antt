use Rattle.std.proofs.Common.{◌≡◌, ℕ, Some, ◌⊎◌}
use Rattle.std.specs.BTreeMap.{get, is_at}
use Rattle.std.specs.Map.{lookup}
use Rattle.group_machine.specs.Shows.{pair_cmp}
use Rattle.group_machine.proofs.tidy_rules.stands_nowhere.Given as goal

abbrev pub invariant-loop-name : goal.invariant-loop-name
invariant-loop-name l = (q : ℕ × ℕ) (h : ℕ) → get pair_cmp l.present q ≡ Some h → (q.0 ≡ l.key → ⊥) ⊎ (lookup (is_at (pair_cmp q)) l.name-iterator ≡ Some h)
