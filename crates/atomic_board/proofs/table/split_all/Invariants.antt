use Rattle.std.proofs.Common.{◌≡◌, ◌+◌, ◌≤◌, length, []}
use Rattle.atomic_board.specs.declared.seat_data.SeatData.TheVariants.{Store}
use Rattle.atomic_board.specs.Deeds.{place_of}
use Rattle.atomic_board.specs.Tokens.{AreEmptyHands, AreTokens, AreFresh, AreIdle}
use Rattle.atomic_board.proofs.table.split_all.Given as goal

abbrev pub invariant-loop-member : goal.invariant-loop-member
invariant-loop-member l =
    (length l.hands.items + l.member ≡ l.members) × AreEmptyHands l.hands.items × (length l.tokens.items ≡ l.member) × (l.members ≤ l.tokens.cap)
    × AreTokens l.fn.shared.table_id (place_of l.fn.shared.key.me.0) l.tokens.items × AreFresh l.fn.shared.key.me.0 l.tokens.items
    × (l.first.table_id ≡ l.fn.shared.table_id) × (l.first.me ≡ (Store l.member l.fn.shared.key.me.0 [], [])) × AreIdle l.tokens.items
