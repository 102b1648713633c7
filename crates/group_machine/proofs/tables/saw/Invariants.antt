use Rattle.std.proofs.Common.{take}
use Rattle.store_image.specs.Facts.{In}
use Rattle.group_machine.proofs.tables.saw.Given as goal

abbrev pub invariant-loop-seen : goal.invariant-loop-seen
invariant-loop-seen l = In l.what (take l.seen-index l.looked) → ⊥
