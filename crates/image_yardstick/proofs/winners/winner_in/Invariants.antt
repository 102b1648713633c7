use Rattle.std.proofs.Common.{◌≡◌, ◌≤◌, drop, length}
use Rattle.std.specs.Option.{option_copied}
use Rattle.store_image.specs.Winners.{winner_in}
use Rattle.image_yardstick.proofs.winners.winner_in.Given as goal

abbrev pub invariant-loop-i : goal.invariant-loop-i
invariant-loop-i l = (l.i ≤ length l.entries) × (option_copied l.best ≡ winner_in l.key (drop l.i l.entries))

abbrev pub decreases-loop-i : goal.decreases-loop-i
decreases-loop-i l = l.i
