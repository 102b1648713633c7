use Rattle.std.proofs.Common.{◌≡◌, List, ◌++◌, length, []}
use Rattle.atomic_board.specs.declared.token.SeatToken.{SeatToken}
use Rattle.atomic_board.specs.Tokens.{HasFrom}
use Rattle.atomic_board.proofs.table.join_all.Given as goal

abbrev pub invariant-loop-token : goal.invariant-loop-token
invariant-loop-token l = ((rest : List SeatToken) × (l.fn.tokens.items ≡ l.tokens.items ++ rest)) × (l.spare.table_id ≡ l.fn.shared.table_id) × (l.spare.me.1 ≡ []) × HasFrom l.fn.shared.key.me.0 l.fn.tokens.items (length l.tokens.items) l.spare.me.0

abbrev pub decreases-loop-token : goal.decreases-loop-token
decreases-loop-token l = length l.tokens.items
