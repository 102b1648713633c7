use Rattle.std.proofs.Common.{List, get_or, Some, sym, ◌∙◌, ap}
use Rattle.std.proofs.lemmas.List.{get_or_default}
use Rattle.core_index.specs.declared.types.Tombstone.{Tombstone}
use Rattle.core_index.specs.Tombs.{Tombs, found_at, IsSpot, bare_tombstone}
use Rattle.core_index.proofs.TombLaws.{missing_found, spot_found}
use Rattle.core_index.proofs.tombstones.Tombstones.find.Goals as goal

pub returns-in_default-clause-found : goal.returns-in_default-clause-found
returns-in_default-clause-found c = sym (ap (λ (a : Tombs). found_at a.items c.args.key) (sym c.self.view_is) ∙ missing_found c.self.inside.list.items c.args.key c.in_default.ensures.missing)

pub returns-clause-found : goal.returns-clause-found
returns-clause-found c =
    let ts = c.self.inside.list.items in
    let k = c.args.key in
    let i = c.in-Some.spot in
    let at : IsSpot ts k i = c.in-Some.ensures.spot in
    let read = ap (λ (xs : List Tombstone). get_or xs i _) c.items.ensures.items ∙ get_or_default ts i _ bare_tombstone at.within in
    sym (ap (λ (a : Tombs). found_at a.items k) (sym c.self.view_is) ∙ spot_found ts k i bare_tombstone c.self.invariant at.within (at.key bare_tombstone) ∙ ap (λ (t : Tombstone). Some t) (sym read))
