use Rattle.std.proofs.Common.{List, sym, ◌∙◌, ap, subst}
use Rattle.std.proofs.lemmas.List.{get_or_read}
use Rattle.core_index.specs.declared.types.Tombstone.{Tombstone}
use Rattle.core_index.specs.Tombs.{Tombs, key_of, Rising, IsFirst, IsMissing}
use Rattle.core_index.proofs.TombLaws.{first_missing}
use Rattle.core_index.proofs.tombstone_list.TombstoneList.spot.Goals as goal

pub first_of-requires : goal.first_of-requires
first_of-requires c = subst Rising (sym c.deref.ensures.value) (subst (λ (a : Tombs). Rising a.items) (sym c.self.view_is) c.requires)

pub returns-then-key_of-key-clause-missing : goal.returns-then-key_of-key-clause-missing
returns-then-key_of-key-clause-missing c =
    let ts = c.self.inside.items.items in
    let k = c.args.key in
    let i = c.in-Some.first in
    let rising = subst (λ (a : Tombs). Rising a.items) (sym c.self.view_is) c.requires in
    let is : IsFirst ts k i = subst (λ (xs : List Tombstone). IsFirst xs k i) c.deref.ensures.value c.in-Some.ensures.found in
    subst (λ (a : Tombs). IsMissing a.items k) c.self.view_is (first_missing ts k i rising is (λ d e. c.if-key_of-key.true (c.key_of.ensures ∙ ap key_of (get_or_read ts i c.index.result.now is.within c.index.ensures d) ∙ e)))
