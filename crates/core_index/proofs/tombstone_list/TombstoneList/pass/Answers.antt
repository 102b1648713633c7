use Rattle.std.proofs.Common.{◌≡◌, ◌<◌, length, get_or, sym, subst, rules}
use Rattle.std.proofs.lemmas.List.{get_or_read}
use Rattle.core_index.specs.Tombs.{Tombs, Ahead, bare_tombstone}
use Rattle.core_index.proofs.TombLaws.{none_far, passed_one}
use Rattle.core_index.proofs.tombstone_list.TombstoneList.pass.Goals as goal

pub returns-then-home-ge-HOMES-clause-none : goal.returns-then-home-ge-HOMES-clause-none
returns-then-home-ge-HOMES-clause-none c = λ n ahead.
    none_far (record { items = c.self.inside.items.items; passed = c.self.inside.passed }) c.args.home n c.self.invariant.homes c.if-home-ge-HOMES.true (subst (λ (a : Tombs). Ahead a c.args.home n) (sym c.self.view_is) ahead)

pub returns-clause-others : goal.returns-clause-others
returns-clause-others c = λ h n ahead.
    let a : Tombs = record { items = c.self.inside.items.items; passed = c.self.inside.passed } in
    let at = get_or c.self.inside.passed c.args.home 0 in
    let eight : c.args.home < length c.self.inside.passed = search rules in
    let within : at < length c.self.inside.items.items = search rules in
    let read : c.index.result.now ≡ get_or c.self.inside.items.items at bare_tombstone = get_or_read c.self.inside.items.items at c.index.result.now within c.index.ensures bare_tombstone in
    passed_one a c.args.home c.index.result.now eight read h n (subst (λ (b : Tombs). Ahead b h n) (sym c.self.view_is) ahead)
