use Rattle.std.proofs.Common.{sym, ◌∙◌}
use Rattle.core_index.proofs.StepLaws.{forgets_all, forgets_keeping}
use Rattle.core_index.proofs.slot_map.forget_at.Goals as goal

pub returns-then-room-eq0 : goal.returns-then-room-eq0
returns-then-room-eq0 c =
    let es = c.args.slots.now.entries in
    let fs = c.clear_at-room.new.slots.entries in
    let first = c.clear_at-room.ensures.step in
    let second = c.remove.ensures.step in
    forgets_all es fs c.remove.new.self.entries c.args.key first second (sym c.clear_at-room.ensures.room ∙ c.if-room-eq0.true)

pub returns-else-room-eq0 : goal.returns-else-room-eq0
returns-else-room-eq0 c = forgets_keeping c.args.slots.now.entries c.clear_at-room.new.slots.entries c.args.key c.clear_at-room.ensures.step
