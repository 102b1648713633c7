use Rattle.std.proofs.Common.{◌≡◌, ℕ, true, Some, ◌⊎◌}
use Rattle.std.specs.BTreeMap.{get, is_at}
use Rattle.std.specs.Map.{lookup}
use Rattle.group_laws.specs.Updates.{has}
use Rattle.group_machine.specs.Shows.{pair_cmp, place_of}
use Rattle.group_machine.specs.Deaths.{MustTell}
use Rattle.group_machine.proofs.tidy_rules.names_to_tell.Given as goal

abbrev pub invariant-loop-name : goal.invariant-loop-name
invariant-loop-name l = record {
  only : (k n : ℕ) → has l.names.items k n ≡ true → MustTell (place_of l.state) l.member l.view k n;
  all : (q : ℕ × ℕ) (h : ℕ) → get pair_cmp l.view.present q ≡ Some h → (MustTell (place_of l.state) l.member l.view q.0 q.1 → has l.names.items q.0 q.1 ≡ true) ⊎ (lookup (is_at (pair_cmp q)) l.name-iterator ≡ Some h);
}
