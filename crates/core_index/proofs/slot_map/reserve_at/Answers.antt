use Rattle.std.proofs.Common.{◌≡◌, ℕ, ◌+◌, List, nat_eq, Some, None, sym, ◌∙◌, ap, subst}
use Rattle.std.specs.Option.{is_some, option_copied_mut}
use Rattle.std.specs.HashMap.{HashMap, get_by}
use Rattle.core_index.specs.Slots.{Place}
use Rattle.core_index.specs.Slabs.{Slab, by_key}
use Rattle.core_index.specs.Index.{Step, place_at, known_at, room_at, known_in, room_in}
use Rattle.core_index.proofs.StepLaws.{err_is}
use Rattle.core_index.proofs.SlabLaws.{here, wrote, wrote_same}
use Rattle.core_index.proofs.slot_map.reserve_at.Goals as goal

pub returns-in_default-clause-there : goal.returns-in_default-clause-there
returns-in_default-clause-there c =
    let olds = c.args.slots.now.entries in
    let k = c.args.key in
    let none : place_at olds k ≡ None = here olds c.slots.inside.slots k (ap (λ (s : Slab). s.entries) c.slots.view_is) None (sym c.get_mut.ensures.value ∙ ap option_copied_mut c.in_default.is) in
    sym (ap is_some none)

pub returns-in_default-clause-step : goal.returns-in_default-clause-step
returns-in_default-clause-step c =
    let olds = c.args.slots.now.entries in
    let k = c.args.key in
    let none : place_at olds k ≡ None = here olds c.slots.inside.slots k (ap (λ (s : Slab). s.entries) c.slots.view_is) None (sym c.get_mut.ensures.value ∙ ap option_copied_mut c.in_default.is) in
    let same : by_key c.get_mut.follows.lender-at-none.entries ≡ olds = ap (λ (m : HashMap ℕ Place _). by_key m.entries) c.get_mut.follows.holds-at-none ∙ ap (λ (s : Slab). s.entries) c.slots.view_is in
    let step : Step olds c.enter_at.new.slots.entries k (Some c.with_room.result) = subst (λ (es : List (ℕ × Place)). Step es c.enter_at.new.slots.entries k (Some c.with_room.result)) same c.in_ok-enter_at.ensures.ok in
    subst (λ (p : Place). Step olds c.enter_at.new.slots.entries k (Some p)) (c.with_room.ensures ∙ (λ j. record { known = known_in (sym none j); room = room_in (sym none j) + 1 })) step

pub returns-in_err-reserve-clause-err : goal.returns-in_err-reserve-clause-err
returns-in_err-reserve-clause-err c =
    let olds = c.args.slots.now.entries in
    let m = c.slots.inside.slots in
    let k = c.args.key in
    let view = ap (λ (s : Slab). s.entries) c.slots.view_is in
    let v : Place = c.in-Some.slot.now in
    let found : get_by (nat_eq k) m ≡ Some v = sym c.get_mut.ensures.value ∙ ap option_copied_mut c.in-Some.is in
    let old : place_at olds k ≡ Some v = here olds m k view (Some v) found in
    let w : Place = c.reserve.new.self in
    let n = c.get_mut.follows.lender w in
    err_is c.from_residual-in_err-reserve.result (wrote_same olds m k view n v w found (c.get_mut.follows.holds w) c.in_err-reserve.ensures.err)

pub returns-clause-there : goal.returns-clause-there
returns-clause-there c =
    let olds = c.args.slots.now.entries in
    let m = c.slots.inside.slots in
    let k = c.args.key in
    let view = ap (λ (s : Slab). s.entries) c.slots.view_is in
    let v : Place = c.in-Some.slot.now in
    let found : get_by (nat_eq k) m ≡ Some v = sym c.get_mut.ensures.value ∙ ap option_copied_mut c.in-Some.is in
    let old : place_at olds k ≡ Some v = here olds m k view (Some v) found in
    let w : Place = c.reserve.new.self in
    let n = c.get_mut.follows.lender w in
    sym (ap is_some old)

pub returns-clause-step : goal.returns-clause-step
returns-clause-step c =
    let olds = c.args.slots.now.entries in
    let m = c.slots.inside.slots in
    let k = c.args.key in
    let view = ap (λ (s : Slab). s.entries) c.slots.view_is in
    let v : Place = c.in-Some.slot.now in
    let found : get_by (nat_eq k) m ≡ Some v = sym c.get_mut.ensures.value ∙ ap option_copied_mut c.in-Some.is in
    let old : place_at olds k ≡ Some v = here olds m k view (Some v) found in
    let w : Place = c.reserve.new.self in
    let n = c.get_mut.follows.lender w in
    let step : Step olds (by_key n.entries) k (Some w) = wrote olds m k view n v w found (c.get_mut.follows.holds w) in
    let was : v ≡ record { known = known_at olds k; room = room_at olds k } = λ j. record { known = ap known_in (sym old) j; room = ap room_in (sym old) j } in
    subst (λ (p : Place). Step olds (by_key n.entries) k (Some p)) (c.in_ok-reserve.ensures.ok ∙ ap (λ (p : Place). record { known = p.known; room = p.room + 1 }) was) step
