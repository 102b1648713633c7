use Rattle.std.proofs.Common.{sym, ◌∙◌}
use Rattle.atomic_board.proofs.TableEnd.{ended}
use Rattle.atomic_board.proofs.group_table.GroupTable.close.Goals as goal

pub returns : goal.returns
returns c = let last = c.close_with.ensures.values.2 in let t = c.args.self.table.shared in
    ended t.key.me.0 c.args.tokens.items c.words_of.result.items c.join_all-seat.result.id c.join_all-seat.result.me.0 c.join_all-seat.ensures.has last.0 last.1.0 last.1.1 (last.2 ∙ sym c.words_of.ensures)
