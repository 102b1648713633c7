use Rattle.std.proofs.Common.{◌≡◌, ℕ, Some, ◌⊎◌}
use Rattle.std.specs.Ordering.{nat_cmp}
use Rattle.std.specs.BTreeMap.{get, is_at}
use Rattle.std.specs.Map.{lookup}
use Rattle.store_image.specs.Facts.{In}
use Rattle.group_machine.specs.Deaths.{IsSpentIn}
use Rattle.group_machine.proofs.tidy_rules.spent_keys.Given as goal

abbrev pub invariant-loop-key : goal.invariant-loop-key
invariant-loop-key l = record {
  only : (k : ℕ) → In k l.keys.items → IsSpentIn l.view k;
  all : (k v : ℕ) → get nat_cmp l.view.last k ≡ Some v → (IsSpentIn l.view k → In k l.keys.items) ⊎ (lookup (is_at (nat_cmp k)) l.key-iterator ≡ Some v);
}
