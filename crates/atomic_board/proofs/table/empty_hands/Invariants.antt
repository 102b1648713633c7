use Rattle.std.proofs.Common.{◌≡◌, ◌≤◌, length}
use Rattle.atomic_board.specs.Tokens.{AreEmptyHands}
use Rattle.atomic_board.proofs.table.empty_hands.Given as goal

abbrev pub invariant-loop : goal.invariant-loop
invariant-loop l = (length l.hands.items ≡ l.counter) × (l.members ≤ l.hands.cap) × AreEmptyHands l.hands.items
