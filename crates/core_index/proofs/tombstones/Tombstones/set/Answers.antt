use Rattle.std.proofs.Common.{◌≡◌, List, sym, ◌∙◌, ap, subst}
use Rattle.core_index.specs.declared.types.Tombstone.{Tombstone}
use Rattle.core_index.specs.Tombs.{Tombs, Rising, IsSpot, bare_tombstone}
use Rattle.core_index.proofs.TombLaws.{missing_fated, spot_fated, rising_fated, fated_in}
use Rattle.core_index.proofs.tombstones.Tombstones.set.Goals as goal

pub returns-in_default : goal.returns-in_default
returns-in_default c =
    let ts = c.self.inside.list.items in
    sym c.self.view_is
    ∙ ap (λ (xs : List Tombstone). record { items = xs; passed = c.self.inside.list.passed }) (sym (missing_fated ts c.args.key c.args.fate c.in_default.ensures.missing))
    ∙ ap (λ (a : Tombs). fated_in a c.args.key c.args.fate) c.self.view_is

turned : (c : goal.After-turn) → c.turn.new.self ≡ fated_in c.self.inside.list c.args.key c.args.fate
turned c =
    let a = c.self.inside.list in
    let i = c.in-Some.spot in
    let at : IsSpot a.items c.args.key i = c.in-Some.ensures.spot in
    c.turn.ensures bare_tombstone ∙ ap (λ (xs : List Tombstone). record { items = xs; passed = a.passed }) (spot_fated a.items c.args.key i c.args.fate bare_tombstone c.self.invariant at.within (at.key bare_tombstone))

pub invariant_of-self : goal.invariant_of-self
invariant_of-self c = subst (λ (a : Tombs). Rising a.items) (sym (turned c)) (rising_fated c.self.inside.list.items c.args.key c.args.fate c.self.invariant)

pub returns : goal.returns
returns c = turned c ∙ ap (λ (a : Tombs). fated_in a c.args.key c.args.fate) c.self.view_is
