use Rattle.std.proofs.Common.{nat_eq, refl, sym, ◌∙◌, ap}
use Rattle.std.specs.HashMap.{get_by}
use Rattle.core_index.specs.Slabs.{Slab}
use Rattle.core_index.specs.Index.{place_at}
use Rattle.core_index.proofs.SlabLaws.{here, within}
use Rattle.core_index.proofs.slot_map.SlotMap.get.Goals as goal

pub returns-clause-value : goal.returns-clause-value
returns-clause-value c =
    let olds = c.args.self.now.entries in
    let m = c.self.inside.slots in
    let k = c.args.key in
    let view = ap (λ (s : Slab). s.entries) c.self.view_is in
    c.get.ensures.value ∙ sym (here olds m k view (get_by (nat_eq k) m) refl)

pub returns-clause-within : goal.returns-clause-within
returns-clause-within c =
    let olds = c.args.self.now.entries in
    let m = c.self.inside.slots in
    let k = c.args.key in
    let view = ap (λ (s : Slab). s.entries) c.self.view_is in
    within (place_at olds k) c.get.result (c.get.ensures.value ∙ sym (here olds m k view (get_by (nat_eq k) m) refl))
