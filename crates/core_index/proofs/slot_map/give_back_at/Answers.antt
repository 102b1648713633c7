use Rattle.std.proofs.Common.{◌-◌, sym, ◌∙◌}
use Rattle.core_index.specs.Index.{known_at, room_at}
use Rattle.core_index.proofs.StepLaws.{bare_is, gives_all, gives_keeping}
use Rattle.core_index.proofs.slot_map.give_back_at.Goals as goal

pub returns-then-bare-clause-gives : goal.returns-then-bare-clause-gives
returns-then-bare-clause-gives c =
    let es = c.args.slots.now.entries in
    let fs = c.lower_at-bare.new.slots.entries in
    let second = c.remove.ensures.step in
    let none = bare_is (known_at es c.args.key) (room_at es c.args.key - 1) (sym c.lower_at-bare.ensures.bare ∙ c.if-bare.true) in
    gives_all es fs c.remove.new.self.entries c.args.key c.requires c.lower_at-bare.ensures.step second none.0 none.1

pub returns-else-bare-clause-gives : goal.returns-else-bare-clause-gives
returns-else-bare-clause-gives c = gives_keeping c.args.slots.now.entries c.lower_at-bare.new.slots.entries c.args.key c.requires c.lower_at-bare.ensures.step
