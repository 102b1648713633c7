use Rattle.std.proofs.Common.{ap}
use Rattle.core_index.specs.Slabs.{Slab}
use Rattle.core_index.proofs.SlabLaws.{updated, put_entries}
use Rattle.core_index.proofs.slot_map.enter_at.Goals as goal

pub returns-in-Ok-clause-ok : goal.returns-in-Ok-clause-ok
returns-in-Ok-clause-ok c =
    let olds = c.args.slots.now.entries in
    let m = c.slots.inside.slots in
    let k = c.args.key in
    let view = ap (λ (s : Slab). s.entries) c.slots.view_is in
    updated olds m k view c.insert.new.self c.args.slot c.in-Ok.ensures.updates

pub returns-in-Ok-clause-entered : goal.returns-in-Ok-clause-entered
returns-in-Ok-clause-entered c =
    let olds = c.args.slots.now.entries in
    let m = c.slots.inside.slots in
    let k = c.args.key in
    let view = ap (λ (s : Slab). s.entries) c.slots.view_is in
    put_entries olds m k view c.insert.new.self c.args.slot c.in-Ok.ensures.updates
