use Rattle.std.proofs.Common.{◌≡◌, nat_eq, Option, Some, None, sym, ◌∙◌, ap, subst}
use Rattle.std.specs.Option.{is_some, option_copied_mut}
use Rattle.std.specs.HashMap.{get_by}
use Rattle.core_index.specs.Records.{Awaits}
use Rattle.core_index.specs.Slots.{Place}
use Rattle.core_index.specs.Slabs.{Slab, by_key}
use Rattle.core_index.specs.Index.{Step, place_at, known_in}
use Rattle.core_index.proofs.SlabLaws.{here, wrote, wrote_same}
use Rattle.core_index.proofs.StepLaws.{told_at, told_mortal}
use Rattle.core_index.proofs.slot_map.tell_at.Goals as goal

pub returns-in_default-clause-missing : goal.returns-in_default-clause-missing
returns-in_default-clause-missing c =
    let olds = c.args.slots.now.entries in
    let k = c.args.name.key in
    let none : place_at olds k ≡ None = here olds c.slots.inside.slots k (ap (λ (s : Slab). s.entries) c.slots.view_is) None (sym c.get_mut.ensures.value ∙ ap option_copied_mut c.in_default.is) in
    none

pub returns-clause-there : goal.returns-clause-there
returns-clause-there c =
    let olds = c.args.slots.now.entries in
    let m = c.slots.inside.slots in
    let k = c.args.name.key in
    let view = ap (λ (s : Slab). s.entries) c.slots.view_is in
    let v : Place = c.in-Some.slot.now in
    let found : get_by (nat_eq k) m ≡ Some v = sym c.get_mut.ensures.value ∙ ap option_copied_mut c.in-Some.is in
    let old : place_at olds k ≡ Some v = here olds m k view (Some v) found in
    ap is_some old

pub returns-clause-told : goal.returns-clause-told
returns-clause-told c =
    let olds = c.args.slots.now.entries in
    let m = c.slots.inside.slots in
    let k = c.args.name.key in
    let view = ap (λ (s : Slab). s.entries) c.slots.view_is in
    let v : Place = c.in-Some.slot.now in
    let found : get_by (nat_eq k) m ≡ Some v = sym c.get_mut.ensures.value ∙ ap option_copied_mut c.in-Some.is in
    let old : place_at olds k ≡ Some v = here olds m k view (Some v) found in
    let w : Place = c.tell.new.self in
    let n = c.get_mut.follows.lender w in
    let fs = by_key n.entries in
    let step : Step olds fs k (Some w) = wrote olds m k view n v w found (c.get_mut.follows.holds w) in
    λ tells. told_at olds fs c.args.home c.args.name v w old step (c.tell.ensures.told tells)

pub returns-clause-mortal : goal.returns-clause-mortal
returns-clause-mortal c =
    let olds = c.args.slots.now.entries in
    let m = c.slots.inside.slots in
    let k = c.args.name.key in
    let view = ap (λ (s : Slab). s.entries) c.slots.view_is in
    let v : Place = c.in-Some.slot.now in
    let found : get_by (nat_eq k) m ≡ Some v = sym c.get_mut.ensures.value ∙ ap option_copied_mut c.in-Some.is in
    let old : place_at olds k ≡ Some v = here olds m k view (Some v) found in
    let w : Place = c.tell.new.self in
    let n = c.get_mut.follows.lender w in
    let fs = by_key n.entries in
    let step : Step olds fs k (Some w) = wrote olds m k view n v w found (c.get_mut.follows.holds w) in
    λ tells. told_mortal olds fs k v w old step c.tell.ensures.mortal

pub returns-clause-none : goal.returns-clause-none
returns-clause-none c =
    let olds = c.args.slots.now.entries in
    let m = c.slots.inside.slots in
    let k = c.args.name.key in
    let view = ap (λ (s : Slab). s.entries) c.slots.view_is in
    let v : Place = c.in-Some.slot.now in
    let found : get_by (nat_eq k) m ≡ Some v = sym c.get_mut.ensures.value ∙ ap option_copied_mut c.in-Some.is in
    let old : place_at olds k ≡ Some v = here olds m k view (Some v) found in
    λ none waits. c.tell.ensures.none none (subst (λ (o : Option Place). Awaits (known_in o) c.args.home c.args.name.version) old waits)

pub returns-clause-unchanged : goal.returns-clause-unchanged
returns-clause-unchanged c =
    let olds = c.args.slots.now.entries in
    let m = c.slots.inside.slots in
    let k = c.args.name.key in
    let view = ap (λ (s : Slab). s.entries) c.slots.view_is in
    let v : Place = c.in-Some.slot.now in
    let found : get_by (nat_eq k) m ≡ Some v = sym c.get_mut.ensures.value ∙ ap option_copied_mut c.in-Some.is in
    let old : place_at olds k ≡ Some v = here olds m k view (Some v) found in
    let w : Place = c.tell.new.self in
    let n = c.get_mut.follows.lender w in
    let fs = by_key n.entries in
    let step : Step olds fs k (Some w) = wrote olds m k view n v w found (c.get_mut.follows.holds w) in
    λ none. wrote_same olds m k view n v w found (c.get_mut.follows.holds w) (c.tell.ensures.unchanged none)
