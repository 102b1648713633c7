use Rattle.std.proofs.Common.{◌≡◌, length}
use Rattle.conflict_queue.specs.Chains.{AllFree, last_below}
use Rattle.conflict_queue.proofs.nodes.free_nodes.Given as goal

abbrev pub invariant-loop-i : goal.invariant-loop-i
invariant-loop-i l = record {
  length : length l.nodes.items ≡ l.i;
  next : l.next ≡ last_below l.i;
  free : AllFree l.nodes.items l.next;
}
