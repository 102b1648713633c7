use Rattle.std.proofs.Common.{◌≡◌, ℕ, length, get_or}
use Rattle.group_laws.specs.declared.types.Slot.TheVariants.{Empty}
use Rattle.group_board.proofs.local_board.empty_slots.Given as goal

abbrev pub invariant-loop : goal.invariant-loop
invariant-loop l = (length l.slots.items ≡ l.counter) × ((i : ℕ) → get_or l.slots.items i Empty ≡ Empty)
