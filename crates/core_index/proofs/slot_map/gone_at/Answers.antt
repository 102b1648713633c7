use Rattle.std.proofs.Common.{◌≡◌, nat_eq, Option, Some, None, option_map, sym, ◌∙◌, ap, subst, arith}
use Rattle.std.specs.Option.{is_some, option_copied_mut}
use Rattle.std.specs.HashMap.{get_by}
use Rattle.core_index.specs.Records.{KeyRecord}
use Rattle.core_index.specs.Slots.{Place, mortal, OnlyDead}
use Rattle.core_index.specs.Slabs.{Slab, by_key}
use Rattle.core_index.specs.Index.{Step, place_at, known_at, known_in, mortal_in, gone_place}
use Rattle.core_index.proofs.SlabLaws.{here, wrote}
use Rattle.core_index.proofs.slot_map.gone_at.Goals as goal

pub returns-in_default-clause-missing : goal.returns-in_default-clause-missing
returns-in_default-clause-missing c =
    let olds = c.args.slots.now.entries in
    let k = c.args.name.key in
    let none : place_at olds k ≡ None = here olds c.slots.inside.slots k (ap (λ (s : Slab). s.entries) c.slots.view_is) None (sym c.get_mut.ensures.value ∙ ap option_copied_mut c.in_default.is) in
    none

pub returns-clause-there : goal.returns-clause-there
returns-clause-there c =
    let olds = c.args.slots.now.entries in
    let m = c.slots.inside.slots in
    let k = c.args.name.key in
    let view = ap (λ (s : Slab). s.entries) c.slots.view_is in
    let v : Place = c.in-Some.slot.now in
    let found : get_by (nat_eq k) m ≡ Some v = sym c.get_mut.ensures.value ∙ ap option_copied_mut c.in-Some.is in
    let old : place_at olds k ≡ Some v = here olds m k view (Some v) found in
    ap is_some old

pub returns-clause-step : goal.returns-clause-step
returns-clause-step c =
    let olds = c.args.slots.now.entries in
    let m = c.slots.inside.slots in
    let k = c.args.name.key in
    let view = ap (λ (s : Slab). s.entries) c.slots.view_is in
    let v : Place = c.in-Some.slot.now in
    let found : get_by (nat_eq k) m ≡ Some v = sym c.get_mut.ensures.value ∙ ap option_copied_mut c.in-Some.is in
    let old : place_at olds k ≡ Some v = here olds m k view (Some v) found in
    let w : Place = c.gone.new.self in
    let n = c.get_mut.follows.lender w in
    let fs = by_key n.entries in
    let step : Step olds fs k (Some w) = wrote olds m k view n v w found (c.get_mut.follows.holds w) in
    let now : Some w ≡ option_map (gone_place c.args.name.version) (place_at olds k) = ap (λ (p : Place). Some p) c.gone.ensures.gone ∙ ap (option_map (gone_place c.args.name.version)) (sym old) in
    subst (Step olds fs k) now step

pub returns-clause-dead : goal.returns-clause-dead
returns-clause-dead c =
    let olds = c.args.slots.now.entries in
    let m = c.slots.inside.slots in
    let k = c.args.name.key in
    let view = ap (λ (s : Slab). s.entries) c.slots.view_is in
    let v : Place = c.in-Some.slot.now in
    let found : get_by (nat_eq k) m ≡ Some v = sym c.get_mut.ensures.value ∙ ap option_copied_mut c.in-Some.is in
    let old : place_at olds k ≡ Some v = here olds m k view (Some v) found in
    let w : Place = c.gone.new.self in
    let n = c.get_mut.follows.lender w in
    let fs = by_key n.entries in
    let step : Step olds fs k (Some w) = wrote olds m k view n v w found (c.get_mut.follows.holds w) in
    let now : known_at fs k ≡ w.known = ap known_in step.here in
    subst (λ (o : Option Place). OnlyDead (known_in o) (known_at fs k) c.gone.result.dead) (sym old) (subst (λ (o : Option KeyRecord). OnlyDead v.known o c.gone.result.dead) (sym now) c.gone.ensures.dead)

pub returns-clause-mortal : goal.returns-clause-mortal
returns-clause-mortal c =
    let olds = c.args.slots.now.entries in
    let m = c.slots.inside.slots in
    let k = c.args.name.key in
    let view = ap (λ (s : Slab). s.entries) c.slots.view_is in
    let v : Place = c.in-Some.slot.now in
    let found : get_by (nat_eq k) m ≡ Some v = sym c.get_mut.ensures.value ∙ ap option_copied_mut c.in-Some.is in
    let old : place_at olds k ≡ Some v = here olds m k view (Some v) found in
    let w : Place = c.gone.new.self in
    let n = c.get_mut.follows.lender w in
    let fs = by_key n.entries in
    let step : Step olds fs k (Some w) = wrote olds m k view n v w found (c.get_mut.follows.holds w) in
    let now : mortal_in (place_at fs k) ≡ mortal w = ap mortal_in step.here in
    let was : mortal_in (place_at olds k) ≡ mortal v = ap mortal_in old in
    let sum = c.gone.ensures.mortal in
    omega (arith, now, was, sum)
