use Rattle.std.proofs.Common.{◌≡◌, drop, take, []}
use Rattle.store_image.specs.Soundness.{clash_after}
use Rattle.image_yardstick.proofs.entry_rules.clash.Given as goal

abbrev pub invariant-loop-i : goal.invariant-loop-i
invariant-loop-i l = clash_after [] l.entries ≡ clash_after (take l.i l.entries) (drop l.i l.entries)
