use Rattle.std.proofs.Common.{◌≡◌, ℕ, None, take}
use Rattle.std.specs.Ordering.{nat_cmp}
use Rattle.std.specs.BTreeMap.{get}
use Rattle.store_image.specs.Facts.{In}
use Rattle.group_machine.proofs.finishing.drop_blocks.Given as goal

abbrev pub invariant-loop-pointer : goal.invariant-loop-pointer
invariant-loop-pointer l = record {
  gone : (q : ℕ) → In q (take l.pointer-index l.pointers) → get nat_cmp l.blocks q ≡ None;
  kept : (q : ℕ) → (In q (take l.pointer-index l.pointers) → ⊥) → get nat_cmp l.blocks q ≡ get nat_cmp l.fn.blocks q;
}
