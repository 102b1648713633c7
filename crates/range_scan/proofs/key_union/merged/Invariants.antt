use Rattle.std.proofs.Common.{◌+◌, length}
use Rattle.range_scan.proofs.KeyLaws.{Merging}
use Rattle.range_scan.proofs.key_union.merged.Given as goal

abbrev pub invariant-loop-key : goal.invariant-loop-key
invariant-loop-key l = Merging l.left l.right l.keys.items l.front l.back

abbrev pub decreases-loop-key : goal.decreases-loop-key
decreases-loop-key l = length l.front + length l.back
