use Rattle.core_index.proofs.PlaceLaws.{forgettable_there, forgotten, forgotten_room, untold_less}
use Rattle.std.proofs.Common.{arith}
use Rattle.core_index.proofs.compact.forget_in.Goals as goal

pub forget_there-requires : goal.forget_there-requires
forget_there-requires c = forgettable_there c.args.slots.now.entries c.args.start.now c.args.key c.requires

pub returns-clause-change : goal.returns-clause-change
returns-clause-change c = forgotten c.args.slots.now.entries c.forget_there.new.slots.entries c.args.start.now c.clear.new.self c.args.key c.forget_there.ensures.here c.forget_there.ensures.others c.clear.ensures.turns

pub returns-clause-room : goal.returns-clause-room
returns-clause-room c = forgotten_room c.args.slots.now.entries c.forget_there.new.slots.entries c.args.start.now c.clear.new.self c.forget_there.ensures.room

pub returns-clause-untold : goal.returns-clause-untold
returns-clause-untold c =
    let fewer = c.clear.ensures.untold in
    untold_less c.args.slots.now.entries c.forget_there.new.slots.entries c.args.start.now c.clear.new.self c.forget_there.ensures.untold (omega (arith, fewer))
