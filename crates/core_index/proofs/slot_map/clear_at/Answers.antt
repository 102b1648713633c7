use Rattle.std.proofs.Common.{◌≡◌, nat_eq, Option, Some, None, sym, ◌∙◌, ap, subst}
use Rattle.std.specs.Option.{option_copied_mut}
use Rattle.std.specs.Prelude.{IsTrue}
use Rattle.std.specs.HashMap.{get_by}
use Rattle.core_index.specs.Records.{is_forgettable}
use Rattle.core_index.specs.Slots.{Place}
use Rattle.core_index.specs.Slabs.{Slab, by_key}
use Rattle.core_index.specs.Index.{Step, place_at, room_at, known_in, room_in}
use Rattle.core_index.proofs.SlabLaws.{here, wrote}
use Rattle.core_index.proofs.slot_map.clear_at.Goals as goal

pub returns-in_default-clause-step : goal.returns-in_default-clause-step
returns-in_default-clause-step c =
    let olds = c.args.slots.now.entries in
    let k = c.args.key in
    let none : place_at olds k ≡ None = here olds c.slots.inside.slots k (ap (λ (s : Slab). s.entries) c.slots.view_is) None (sym c.get_mut.ensures.value ∙ ap option_copied_mut c.in_default.is) in
    let no = subst (λ (o : Option Place). IsTrue (is_forgettable (known_in o))) none c.requires in
    absurd (cc no)

pub returns-in_default-clause-room : goal.returns-in_default-clause-room
returns-in_default-clause-room c =
    let olds = c.args.slots.now.entries in
    let k = c.args.key in
    let none : place_at olds k ≡ None = here olds c.slots.inside.slots k (ap (λ (s : Slab). s.entries) c.slots.view_is) None (sym c.get_mut.ensures.value ∙ ap option_copied_mut c.in_default.is) in
    sym (ap room_in none)

pub forget-requires : goal.forget-requires
forget-requires c =
    let olds = c.args.slots.now.entries in
    let m = c.slots.inside.slots in
    let k = c.args.key in
    let view = ap (λ (s : Slab). s.entries) c.slots.view_is in
    let v : Place = c.in-Some.slot.now in
    let found : get_by (nat_eq k) m ≡ Some v = sym c.get_mut.ensures.value ∙ ap option_copied_mut c.in-Some.is in
    let old : place_at olds k ≡ Some v = here olds m k view (Some v) found in
    subst (λ (o : Option Place). IsTrue (is_forgettable (known_in o))) old c.requires

pub returns-clause-step : goal.returns-clause-step
returns-clause-step c =
    let olds = c.args.slots.now.entries in
    let m = c.slots.inside.slots in
    let k = c.args.key in
    let view = ap (λ (s : Slab). s.entries) c.slots.view_is in
    let v : Place = c.in-Some.slot.now in
    let found : get_by (nat_eq k) m ≡ Some v = sym c.get_mut.ensures.value ∙ ap option_copied_mut c.in-Some.is in
    let old : place_at olds k ≡ Some v = here olds m k view (Some v) found in
    let w : Place = c.forget.new.self in
    let n = c.get_mut.follows.lender w in
    let fs = by_key n.entries in
    let step : Step olds fs k (Some w) = wrote olds m k view n v w found (c.get_mut.follows.holds w) in
    let now : w ≡ record { known = None; room = room_at olds k } = c.forget.ensures ∙ (λ j. record { known = None; room = room_in (sym old j) }) in
    subst (λ (p : Place). Step olds fs k (Some p)) now step

pub returns-clause-room : goal.returns-clause-room
returns-clause-room c =
    let olds = c.args.slots.now.entries in
    let m = c.slots.inside.slots in
    let k = c.args.key in
    let view = ap (λ (s : Slab). s.entries) c.slots.view_is in
    let v : Place = c.in-Some.slot.now in
    let found : get_by (nat_eq k) m ≡ Some v = sym c.get_mut.ensures.value ∙ ap option_copied_mut c.in-Some.is in
    let old : place_at olds k ≡ Some v = here olds m k view (Some v) found in
    c.room.ensures ∙ ap (λ (p : Place). p.room) c.forget.ensures ∙ ap room_in (sym old)
