use Rattle.std.proofs.Common.{◌≡◌, ℕ, true, Some, ◌&&◌, not, ◌⊎◌}
use Rattle.std.specs.Ordering.{nat_cmp}
use Rattle.std.specs.BTreeMap.{get, is_at}
use Rattle.std.specs.Map.{lookup}
use Rattle.store_image.specs.Facts.{In}
use Rattle.group_laws.specs.declared.types.Block.{Block}
use Rattle.group_laws.specs.Steps.{is_of, points_at}
use Rattle.group_machine.proofs.finishing.replaced.Given as goal

abbrev pub invariant-loop-pointer : goal.invariant-loop-pointer
invariant-loop-pointer l = record {
  only : (q : ℕ) → In q l.pointers.items → (is_of l.key (get nat_cmp l.blocks q) && not (points_at l.body q)) ≡ true;
  all : (q : ℕ) (b : Block) → get nat_cmp l.blocks q ≡ Some b → ((is_of l.key (Some b) && not (points_at l.body q)) ≡ true → In q l.pointers.items) ⊎ (lookup (is_at (nat_cmp q)) l.pointer-iterator ≡ Some b);
}
