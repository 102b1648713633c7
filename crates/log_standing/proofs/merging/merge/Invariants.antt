use Rattle.std.proofs.Common.{◌≡◌, ◌≤◌, ℕ, List, length, take, drop}
use Rattle.log_standing.specs.declared.name_item.NameItem.{NameItem}
use Rattle.log_standing.specs.NameItems.{IsMerged}
use Rattle.log_standing.proofs.merging.merge.Given as goal

pub record Merging (was now : List NameItem) (n i : ℕ) : Type 0 where
  pub kept : n ≤ i
  pub length : length now ≡ length was
  pub merged : IsMerged (take i was) (take n now)
  pub later : drop i now ≡ drop i was

abbrev pub invariant-loop-i : goal.invariant-loop-i
invariant-loop-i l = Merging l.fn.items.items l.items.items l.kept l.i
