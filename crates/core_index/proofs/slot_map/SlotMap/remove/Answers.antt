use Rattle.std.proofs.Common.{ap}
use Rattle.core_index.specs.Slabs.{Slab}
use Rattle.core_index.proofs.SlabLaws.{taken, taken_entries}
use Rattle.core_index.proofs.slot_map.SlotMap.remove.Goals as goal

pub returns-clause-step : goal.returns-clause-step
returns-clause-step c =
    let olds = c.args.self.now.entries in
    let m = c.self.inside.slots in
    let k = c.args.key in
    let view = ap (λ (s : Slab). s.entries) c.self.view_is in
    taken olds m k view c.remove.new.self c.remove.ensures.updates

pub returns-clause-entries : goal.returns-clause-entries
returns-clause-entries c =
    let olds = c.args.self.now.entries in
    let m = c.self.inside.slots in
    let k = c.args.key in
    let view = ap (λ (s : Slab). s.entries) c.self.view_is in
    taken_entries olds m k view c.remove.new.self c.remove.ensures.updates
