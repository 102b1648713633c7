use Rattle.std.proofs.Common.{◌≡◌, List, get_or, Some, sym, ◌∙◌, ap, subst}
use Rattle.std.proofs.lemmas.List.{get_or_read}
use Rattle.core_index.specs.declared.types.LiveKey.{LiveKey}
use Rattle.core_index.specs.Lives.{Lives, live_at, IsLiveSpot, IsNotThere}
use Rattle.core_index.proofs.LiveLaws.{bare_live, missing_found, spot_found}
use Rattle.core_index.proofs.live_list.LiveList.find.Goals as goal

pub returns-in_default-clause-found : goal.returns-in_default-clause-found
returns-in_default-clause-found c =
    let ts = c.self.inside.items.items in
    let k = c.args.key in
    let none : IsNotThere ts k = subst (λ (xs : List LiveKey). IsNotThere xs k) c.deref.ensures.value c.in_default.ensures.missing in
    sym (ap (λ (a : Lives). live_at a.items k) (sym c.self.view_is) ∙ missing_found ts k none)

pub returns-clause-found : goal.returns-clause-found
returns-clause-found c =
    let ts = c.self.inside.items.items in
    let k = c.args.key in
    let i = c.in-Some.spot in
    let at : IsLiveSpot ts k i = subst (λ (xs : List LiveKey). IsLiveSpot xs k i) c.deref.ensures.value c.in-Some.ensures.found in
    let read : c.index.result.now ≡ get_or ts i bare_live = get_or_read ts i c.index.result.now at.within c.index.ensures bare_live in
    sym (ap (λ (a : Lives). live_at a.items k) (sym c.self.view_is) ∙ spot_found ts k i bare_live c.self.invariant.rising at.within (at.key bare_live) ∙ ap (λ (t : LiveKey). Some t) (sym read))
