use Rattle.std.proofs.Common.{◌≡◌, nat_eq, Some, None, sym, ◌∙◌, ap}
use Rattle.std.specs.Option.{is_some, option_copied_mut}
use Rattle.std.specs.HashMap.{get_by}
use Rattle.core_index.specs.Slabs.{Slab}
use Rattle.core_index.specs.Index.{place_at}
use Rattle.core_index.proofs.SlabLaws.{here, wrote}
use Rattle.core_index.proofs.slot_map.replace_at.Goals as goal

pub returns-in_default : goal.returns-in_default
returns-in_default c =
    let m = c.slots.inside.slots in
    let none : place_at c.args.slots.now.entries c.args.key ≡ None = here c.args.slots.now.entries m c.args.key (ap (λ (s : Slab). s.entries) c.slots.view_is) None (sym c.get_mut.ensures.value ∙ ap option_copied_mut c.in_default.is) in
    let some = sym c.requires ∙ ap is_some none in
    absurd (cc some)

pub returns : goal.returns
returns c =
    let m = c.slots.inside.slots in
    let found : get_by (nat_eq c.args.key) m ≡ Some c.in-Some.place.now = sym c.get_mut.ensures.value ∙ ap option_copied_mut c.in-Some.is in
    wrote c.args.slots.now.entries m c.args.key (ap (λ (s : Slab). s.entries) c.slots.view_is) (c.get_mut.follows.lender c.args.slot) c.in-Some.place.now c.args.slot found (c.get_mut.follows.holds c.args.slot)
