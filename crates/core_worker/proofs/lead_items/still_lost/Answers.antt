use Rattle.std.proofs.Common.{inl, inr, refl}
use Rattle.core_worker.proofs.lead_items.still_lost.Goals as goal

pub returns-then-is_done : goal.returns-then-is_done
returns-then-is_done c = inr (c.if-is_done.ensures, (c.done.result, refl))

pub returns-else-is_done : goal.returns-else-is_done
returns-else-is_done c = inl (c.if-is_done.ensures, (c.args.lost, refl, refl))
