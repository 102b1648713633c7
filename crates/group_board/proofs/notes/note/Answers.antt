use Rattle.std.proofs.Common.{refl}
use Rattle.atomic_table.specs.Table.{keeps}
use Rattle.group_board.specs.Journals.{noted}
use Rattle.group_board.proofs.notes.note.Goals as goal

pub load-requires : goal.load-requires
load-requires g c = (c.requires.0, c.requires.1, λ s free many me fits64. (noted g.W.Wish.wish c.args.seat.now.me.0, keeps, tt, tt, refl))
