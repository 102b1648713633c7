use Rattle.std.proofs.Common.{◌≡◌, ◌-◌, ◌+◌, nat_eq, Option, Some, None, sym, ◌∙◌, ap, subst, arith}
use Rattle.std.specs.Option.{option_copied_mut}
use Rattle.std.specs.HashMap.{get_by}
use Rattle.core_index.specs.Records.{KeyRecord, settled, block_of, last_of}
use Rattle.core_index.specs.Slots.{Place, mortal, OnlyDead}
use Rattle.core_index.specs.Slabs.{Slab, by_key}
use Rattle.core_index.specs.Index.{Step, place_at, known_at, room_at, known_in, room_in, mortal_in}
use Rattle.core_index.proofs.SlabLaws.{here, wrote}
use Rattle.core_index.proofs.slot_map.settle_at.Goals as goal

pub returns-in_default-clause-step : goal.returns-in_default-clause-step
returns-in_default-clause-step c =
    let olds = c.args.slots.now.entries in
    let k = c.args.key in
    let none : place_at olds k ≡ None = here olds c.slots.inside.slots k (ap (λ (s : Slab). s.entries) c.slots.view_is) None (sym c.get_mut.ensures.value ∙ ap option_copied_mut c.in_default.is) in
    let room : room_at olds k ≡ 0 = ap room_in none in
    let some = c.requires.room in
    absurd (omega (arith, room, some))

pub returns-in_default-clause-replaced : goal.returns-in_default-clause-replaced
returns-in_default-clause-replaced c =
    let olds = c.args.slots.now.entries in
    let k = c.args.key in
    let none : place_at olds k ≡ None = here olds c.slots.inside.slots k (ap (λ (s : Slab). s.entries) c.slots.view_is) None (sym c.get_mut.ensures.value ∙ ap option_copied_mut c.in_default.is) in
    let room : room_at olds k ≡ 0 = ap room_in none in
    let some = c.requires.room in
    absurd (omega (arith, room, some))

pub settle-requires-clause-room : goal.settle-requires-clause-room
settle-requires-clause-room c =
    let olds = c.args.slots.now.entries in
    let m = c.slots.inside.slots in
    let k = c.args.key in
    let view = ap (λ (s : Slab). s.entries) c.slots.view_is in
    let v : Place = c.in-Some.slot.now in
    let found : get_by (nat_eq k) m ≡ Some v = sym c.get_mut.ensures.value ∙ ap option_copied_mut c.in-Some.is in
    let old : place_at olds k ≡ Some v = here olds m k view (Some v) found in
    let room : room_at olds k ≡ v.room = ap room_in old in
    let some = c.requires.room in
    omega (arith, room, some)

pub settle-requires-clause-next : goal.settle-requires-clause-next
settle-requires-clause-next c =
    let olds = c.args.slots.now.entries in
    let m = c.slots.inside.slots in
    let k = c.args.key in
    let view = ap (λ (s : Slab). s.entries) c.slots.view_is in
    let v : Place = c.in-Some.slot.now in
    let found : get_by (nat_eq k) m ≡ Some v = sym c.get_mut.ensures.value ∙ ap option_copied_mut c.in-Some.is in
    let old : place_at olds k ≡ Some v = here olds m k view (Some v) found in
    c.requires.next ∙ ap (λ (o : Option Place). last_of (known_in o) + 1) old

pub returns-clause-step : goal.returns-clause-step
returns-clause-step c =
    let olds = c.args.slots.now.entries in
    let m = c.slots.inside.slots in
    let k = c.args.key in
    let view = ap (λ (s : Slab). s.entries) c.slots.view_is in
    let v : Place = c.in-Some.slot.now in
    let found : get_by (nat_eq k) m ≡ Some v = sym c.get_mut.ensures.value ∙ ap option_copied_mut c.in-Some.is in
    let old : place_at olds k ≡ Some v = here olds m k view (Some v) found in
    let w : Place = c.settle.new.self in
    let n = c.get_mut.follows.lender w in
    let fs = by_key n.entries in
    let step : Step olds fs k (Some w) = wrote olds m k view n v w found (c.get_mut.follows.holds w) in
    let now : w ≡ record { known = Some (settled (known_at olds k) c.args.version c.args.body c.args.home); room = room_at olds k - 1 } = c.settle.ensures.settled ∙ (λ j. record { known = Some (settled (known_in (sym old j)) c.args.version c.args.body c.args.home); room = room_in (sym old j) - 1 }) in
    subst (λ (p : Place). Step olds fs k (Some p)) now step

pub returns-clause-replaced : goal.returns-clause-replaced
returns-clause-replaced c =
    let olds = c.args.slots.now.entries in
    let m = c.slots.inside.slots in
    let k = c.args.key in
    let view = ap (λ (s : Slab). s.entries) c.slots.view_is in
    let v : Place = c.in-Some.slot.now in
    let found : get_by (nat_eq k) m ≡ Some v = sym c.get_mut.ensures.value ∙ ap option_copied_mut c.in-Some.is in
    let old : place_at olds k ≡ Some v = here olds m k view (Some v) found in
    c.settle.ensures.replaced ∙ ap (λ (o : Option Place). block_of (known_in o)) (sym old)

pub returns-clause-dead : goal.returns-clause-dead
returns-clause-dead c =
    let olds = c.args.slots.now.entries in
    let m = c.slots.inside.slots in
    let k = c.args.key in
    let view = ap (λ (s : Slab). s.entries) c.slots.view_is in
    let v : Place = c.in-Some.slot.now in
    let found : get_by (nat_eq k) m ≡ Some v = sym c.get_mut.ensures.value ∙ ap option_copied_mut c.in-Some.is in
    let old : place_at olds k ≡ Some v = here olds m k view (Some v) found in
    let w : Place = c.settle.new.self in
    let n = c.get_mut.follows.lender w in
    let fs = by_key n.entries in
    let step : Step olds fs k (Some w) = wrote olds m k view n v w found (c.get_mut.follows.holds w) in
    let now : known_at fs k ≡ w.known = ap known_in step.here in
    subst (λ (o : Option Place). OnlyDead (known_in o) (known_at fs k) c.settle.result.dead) (sym old) (subst (λ (o : Option KeyRecord). OnlyDead v.known o c.settle.result.dead) (sym now) c.settle.ensures.dead)

pub returns-clause-mortal : goal.returns-clause-mortal
returns-clause-mortal c =
    let olds = c.args.slots.now.entries in
    let m = c.slots.inside.slots in
    let k = c.args.key in
    let view = ap (λ (s : Slab). s.entries) c.slots.view_is in
    let v : Place = c.in-Some.slot.now in
    let found : get_by (nat_eq k) m ≡ Some v = sym c.get_mut.ensures.value ∙ ap option_copied_mut c.in-Some.is in
    let old : place_at olds k ≡ Some v = here olds m k view (Some v) found in
    let w : Place = c.settle.new.self in
    let n = c.get_mut.follows.lender w in
    let fs = by_key n.entries in
    let step : Step olds fs k (Some w) = wrote olds m k view n v w found (c.get_mut.follows.holds w) in
    let now : mortal_in (place_at fs k) ≡ mortal w = ap mortal_in step.here in
    let was : mortal_in (place_at olds k) ≡ mortal v = ap mortal_in old in
    let sum = c.settle.ensures.mortal in
    omega (arith, now, was, sum)
