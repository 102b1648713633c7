use Rattle.std.proofs.Common.{◌≡◌, ◌≤◌, drop, length}
use Rattle.store_image.specs.Winners.{keys_of}
use Rattle.image_yardstick.proofs.winners.keys_of.Given as goal

abbrev pub invariant-loop-i : goal.invariant-loop-i
invariant-loop-i l = (l.i ≤ length l.entries) × (l.keys.items ≡ keys_of (drop l.i l.entries))

abbrev pub decreases-loop-i : goal.decreases-loop-i
decreases-loop-i l = l.i
