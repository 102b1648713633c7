use Rattle.std.proofs.Common.{arith}
use Rattle.core_index.proofs.PlaceLaws.{gives_known, gives_room, gives_others, untold_less}
use Rattle.core_index.proofs.compact.give_back_in.Goals as goal

pub returns-clause-less : goal.returns-clause-less
returns-clause-less c = record {
  here = gives_room c.args.slots.now.entries c.give_back_at.new.slots.entries c.args.start.now c.clear.new.self c.args.key c.give_back_at.ensures.gives;
  others = gives_others c.args.slots.now.entries c.give_back_at.new.slots.entries c.args.start.now c.clear.new.self c.args.key c.give_back_at.ensures.gives;
  records = gives_known c.args.slots.now.entries c.give_back_at.new.slots.entries c.args.start.now c.clear.new.self c.args.key c.requires c.give_back_at.ensures.gives c.clear.ensures.turns;
  untold =
      let fewer = c.clear.ensures.untold in
      let gives = c.give_back_at.ensures.gives in
      untold_less c.args.slots.now.entries c.give_back_at.new.slots.entries c.args.start.now c.clear.new.self gives.untold (omega (arith, fewer));
}
