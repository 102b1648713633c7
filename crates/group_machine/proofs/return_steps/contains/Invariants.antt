use Rattle.std.proofs.Common.{take}
use Rattle.store_image.specs.Facts.{In}
use Rattle.group_machine.proofs.return_steps.contains.Given as goal

abbrev pub invariant-loop-other : goal.invariant-loop-other
invariant-loop-other l = In l.entry (take l.other-index l.entries) → ⊥
