use Rattle.std.proofs.Common.{◌≡◌, ℕ, None, take}
use Rattle.std.specs.Ordering.{nat_cmp}
use Rattle.std.specs.BTreeMap.{get}
use Rattle.store_image.specs.Facts.{In}
use Rattle.group_machine.proofs.tidy_rules.forget.Given as goal

abbrev pub invariant-loop-key : goal.invariant-loop-key
invariant-loop-key l = record {
  gone : (k : ℕ) → In k (take l.key-index l.keys) → get nat_cmp l.last k ≡ None;
  kept : (k : ℕ) → (In k (take l.key-index l.keys) → ⊥) → get nat_cmp l.last k ≡ get nat_cmp l.fn.last k;
}
