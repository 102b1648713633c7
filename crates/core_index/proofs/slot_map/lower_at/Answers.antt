use Rattle.std.proofs.Common.{◌≡◌, ◌-◌, nat_eq, Some, None, sym, ◌∙◌, ap, subst, arith}
use Rattle.std.specs.Option.{option_copied_mut}
use Rattle.std.specs.HashMap.{get_by}
use Rattle.core_index.specs.Slots.{Place, is_bare}
use Rattle.core_index.specs.Slabs.{Slab, by_key}
use Rattle.core_index.specs.Index.{Step, place_at, known_at, room_at, known_in, room_in}
use Rattle.core_index.proofs.SlabLaws.{here, wrote}
use Rattle.core_index.proofs.slot_map.lower_at.Goals as goal

pub returns-in_default-clause-step : goal.returns-in_default-clause-step
returns-in_default-clause-step c =
    let olds = c.args.slots.now.entries in
    let k = c.args.key in
    let none : place_at olds k ≡ None = here olds c.slots.inside.slots k (ap (λ (s : Slab). s.entries) c.slots.view_is) None (sym c.get_mut.ensures.value ∙ ap option_copied_mut c.in_default.is) in
    let room : room_at olds k ≡ 0 = ap room_in none in
    let some = c.requires in
    absurd (omega (arith, room, some))

pub returns-in_default-clause-bare : goal.returns-in_default-clause-bare
returns-in_default-clause-bare c =
    let olds = c.args.slots.now.entries in
    let k = c.args.key in
    let none : place_at olds k ≡ None = here olds c.slots.inside.slots k (ap (λ (s : Slab). s.entries) c.slots.view_is) None (sym c.get_mut.ensures.value ∙ ap option_copied_mut c.in_default.is) in
    let room : room_at olds k ≡ 0 = ap room_in none in
    let some = c.requires in
    absurd (omega (arith, room, some))

pub give_back-requires : goal.give_back-requires
give_back-requires c =
    let olds = c.args.slots.now.entries in
    let m = c.slots.inside.slots in
    let k = c.args.key in
    let view = ap (λ (s : Slab). s.entries) c.slots.view_is in
    let v : Place = c.in-Some.slot.now in
    let found : get_by (nat_eq k) m ≡ Some v = sym c.get_mut.ensures.value ∙ ap option_copied_mut c.in-Some.is in
    let old : place_at olds k ≡ Some v = here olds m k view (Some v) found in
    let room : room_at olds k ≡ v.room = ap room_in old in
    let some = c.requires in
    omega (arith, room, some)

pub returns-clause-step : goal.returns-clause-step
returns-clause-step c =
    let olds = c.args.slots.now.entries in
    let m = c.slots.inside.slots in
    let k = c.args.key in
    let view = ap (λ (s : Slab). s.entries) c.slots.view_is in
    let v : Place = c.in-Some.slot.now in
    let found : get_by (nat_eq k) m ≡ Some v = sym c.get_mut.ensures.value ∙ ap option_copied_mut c.in-Some.is in
    let old : place_at olds k ≡ Some v = here olds m k view (Some v) found in
    let w : Place = c.give_back.new.self in
    let n = c.get_mut.follows.lender w in
    let fs = by_key n.entries in
    let step : Step olds fs k (Some w) = wrote olds m k view n v w found (c.get_mut.follows.holds w) in
    let now : w ≡ record { known = known_at olds k; room = room_at olds k - 1 } = c.give_back.ensures ∙ (λ j. record { known = known_in (sym old j); room = room_in (sym old j) - 1 }) in
    subst (λ (p : Place). Step olds fs k (Some p)) now step

pub returns-clause-bare : goal.returns-clause-bare
returns-clause-bare c =
    let olds = c.args.slots.now.entries in
    let m = c.slots.inside.slots in
    let k = c.args.key in
    let view = ap (λ (s : Slab). s.entries) c.slots.view_is in
    let v : Place = c.in-Some.slot.now in
    let found : get_by (nat_eq k) m ≡ Some v = sym c.get_mut.ensures.value ∙ ap option_copied_mut c.in-Some.is in
    let old : place_at olds k ≡ Some v = here olds m k view (Some v) found in
    let w : Place = c.give_back.new.self in
    let n = c.get_mut.follows.lender w in
    let fs = by_key n.entries in
    let step : Step olds fs k (Some w) = wrote olds m k view n v w found (c.get_mut.follows.holds w) in
    let now : w ≡ record { known = known_at olds k; room = room_at olds k - 1 } = c.give_back.ensures ∙ (λ j. record { known = known_in (sym old j); room = room_in (sym old j) - 1 }) in
    c.is_bare.ensures ∙ ap is_bare now
