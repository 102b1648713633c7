use Rattle.core_index.proofs.key_slot.KeySlot.with_room.Goals as goal

pub invariant_of-result : goal.invariant_of-result
invariant_of-result c = record { below = c.of_one.ensures.items; top = c.of_one.ensures.top 0 tt }
