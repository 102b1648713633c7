use Rattle.std.proofs.Common.{◌≡◌, ◌≤◌, length, drop}
use Rattle.std.specs.BTreeMap.{IsOrdered}
use Rattle.std.specs.Ordering.{nat_cmp}
use Rattle.core_index.specs.Records.{homes_of}
use Rattle.core_index.proofs.entry_list.homes_of.Given as goal

abbrev pub invariant-loop-left : goal.invariant-loop-left
invariant-loop-left l = record {
  within : l.left ≤ length l.standees;
  gathered : l.homes.entries ≡ homes_of (drop l.left l.standees);
  ordered : IsOrdered nat_cmp l.homes;
}

abbrev pub decreases-loop-left : goal.decreases-loop-left
decreases-loop-left l = l.left
