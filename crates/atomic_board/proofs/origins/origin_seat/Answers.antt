use Rattle.std.proofs.Common.{rules, refl}
use Rattle.atomic_table.specs.Table.{keeps}
use Rattle.atomic_board.proofs.origins.origin_seat.Goals as goal

pub load-requires : goal.load-requires
load-requires g c = (search rules, search rules, λ s free many me fits64. (record { group = g.O.Opening.group; words = g.O.Opening.words }, keeps, tt, tt, refl))
