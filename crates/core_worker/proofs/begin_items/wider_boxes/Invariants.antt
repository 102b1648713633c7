use Rattle.std.proofs.Common.{take}
use Rattle.core_worker.proofs.WiderBoxes.{WidenedSoFar}
use Rattle.core_worker.proofs.begin_items.wider_boxes.Given as goal

abbrev pub invariant-loop-waiting : goal.invariant-loop-waiting
invariant-loop-waiting l = WidenedSoFar l.more (take l.waiting-index l.boxes.items) l.wider.items
