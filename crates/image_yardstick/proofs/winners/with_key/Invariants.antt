use Rattle.std.proofs.Common.{◌≡◌, ◌≤◌, ◌-◌, ◌++◌, drop, take, length}
use Rattle.store_image.specs.Winners.{with_key}
use Rattle.image_yardstick.proofs.winners.with_key.Given as goal

abbrev pub invariant-loop-i : goal.invariant-loop-i
invariant-loop-i l = (l.keys.items ≡ l.initial.keys.items) × (l.i ≤ length l.keys.items) × (with_key l.key l.keys.items ≡ take l.i l.keys.items ++ with_key l.key (drop l.i l.keys.items))

abbrev pub decreases-loop-i : goal.decreases-loop-i
decreases-loop-i l = length l.keys.items - l.i
