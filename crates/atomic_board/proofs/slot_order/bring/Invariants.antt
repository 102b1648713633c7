use Rattle.std.proofs.Common.{◌≡◌, ℕ}
use Rattle.atomic_board.specs.SlotsOut.{has, numbers, distinct, all_empty}
use Rattle.atomic_board.proofs.SlotsHeld.{place_of}
use Rattle.atomic_board.proofs.slot_order.bring.Given as goal

abbrev pub invariant-loop-held : goal.invariant-loop-held
invariant-loop-held l =
    (l.seat.table_id ≡ l.initial.seat.table_id) × (l.seat.id ≡ l.initial.seat.id) × (l.seat.me.0 ≡ l.initial.seat.me.0) × (numbers l.seat.me.1 ≡ l.held.items)
    × (all_empty l.seat.me.1 ≡ all_empty l.initial.seat.me.1) × (l.held.cap ≡ l.initial.held.cap) × ((k : ℕ) → has k l.held.items ≡ has k l.initial.held.items) × (distinct l.held.items ≡ distinct l.initial.held.items)

abbrev pub decreases-loop-held : goal.decreases-loop-held
decreases-loop-held l = place_of l.slot l.held.items
