use Rattle.std.proofs.Common.{◌≡◌, List, get_or, sym, ◌∙◌, ap, subst, slice_set}
use Rattle.std.proofs.lemmas.List.{get_or_read}
use Rattle.core_index.specs.declared.types.LiveKey.{LiveKey}
use Rattle.core_index.specs.Lives.{Lives, AreLives, with_live_fate, turned, IsLiveSpot, IsNotThere}
use Rattle.core_index.proofs.LiveLaws.{bare_live, missing_turned, spot_turned, turned_lives}
use Rattle.core_index.proofs.live_list.LiveList.set.Goals as goal

pub returns-in_default : goal.returns-in_default
returns-in_default c =
    let ts = c.self.inside.items.items in
    let k = c.args.key in
    let none : IsNotThere ts k = subst (λ (xs : List LiveKey). IsNotThere xs k) c.deref.ensures.value c.in_default.ensures.missing in
    subst (λ (a : Lives). a ≡ record { items = turned a.items k c.args.fate; bytes = a.bytes }) c.self.view_is (ap (λ (xs : List LiveKey). record { items = xs; bytes = c.self.inside.bytes.items }) (sym (missing_turned ts k c.args.fate none)))

pub invariant_of-self : goal.invariant_of-self
invariant_of-self c =
    let ts = c.self.inside.items.items in
    let k = c.args.key in
    let i = c.in-Some.spot in
    let at : IsLiveSpot ts k i = subst (λ (xs : List LiveKey). IsLiveSpot xs k i) c.deref.ensures.value c.in-Some.ensures.found in
    let read : c.index_mut.result.now ≡ get_or ts i bare_live = get_or_read ts i c.index_mut.result.now at.within c.index_mut.ensures.value bare_live in
    let new : slice_set ts i (with_live_fate c.args.fate c.index_mut.result.now) ≡ turned ts k c.args.fate = ap (λ (t : LiveKey). slice_set ts i (with_live_fate c.args.fate t)) read ∙ spot_turned ts k i c.args.fate bare_live c.self.invariant.rising at.within (at.key bare_live) in
    subst (λ (xs : List LiveKey). AreLives xs c.self.inside.bytes.items) (sym new) (turned_lives ts c.self.inside.bytes.items k c.args.fate c.self.invariant)

pub returns : goal.returns
returns c =
    let ts = c.self.inside.items.items in
    let k = c.args.key in
    let i = c.in-Some.spot in
    let at : IsLiveSpot ts k i = subst (λ (xs : List LiveKey). IsLiveSpot xs k i) c.deref.ensures.value c.in-Some.ensures.found in
    let read : c.index_mut.result.now ≡ get_or ts i bare_live = get_or_read ts i c.index_mut.result.now at.within c.index_mut.ensures.value bare_live in
    let new : slice_set ts i (with_live_fate c.args.fate c.index_mut.result.now) ≡ turned ts k c.args.fate = ap (λ (t : LiveKey). slice_set ts i (with_live_fate c.args.fate t)) read ∙ spot_turned ts k i c.args.fate bare_live c.self.invariant.rising at.within (at.key bare_live) in
    ap (λ (xs : List LiveKey). record { items = xs; bytes = c.self.inside.bytes.items }) new ∙ ap (λ (a : Lives). record { items = turned a.items k c.args.fate; bytes = a.bytes }) c.self.view_is
