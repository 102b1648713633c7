use Rattle.std.proofs.Common.{◌≡◌, ◌≤◌, ◌++◌, max, Option, Some, None, true, is_some, sym, ◌∙◌, ap, subst, arith}
use Rattle.log_standing.specs.declared.types.Copies.{Copies}
use Rattle.log_standing.specs.NameCounts.{count_in}
use Rattle.log_standing.specs.NameItems.{copies_among, Recounts, Writes}
use Rattle.log_standing.specs.TwoParts.{NamesState}
use Rattle.log_standing.proofs.PartLaws.{writes_none, writes_first, writes_second, apart_second, joined_none, joined_first, none_from, bounded, one_is, one_none, recounts_first, recounts_second}
use Rattle.log_standing.proofs.logged_names.LoggedNames.set.Goals as goal

pub invariant_of-self-else-is_some : goal.invariant_of-self-else-is_some
invariant_of-self-else-is_some c =
    let k = c.args.name.key in
    let v = c.args.name.version in
    let t = c.self.inside.table in
    let l = c.self.inside.later.entries in
    let more = c.set_in.new.names.entries in
    let gone : copies_among t k v ≡ None = none_from (copies_among t k v) (ap (λ (o : Option Copies). is_some o) (sym c.get.ensures.copies) ∙ sym c.is_some.ensures ∙ c.if-is_some.false) in
    let stands : is_some (copies_among l k v) ≡ true = ap (λ (o : Option Copies). is_some o) (sym (joined_none t l k v gone)) ∙ ap (λ (s : NamesState). is_some (copies_among s.entries k v)) c.self.view_is ∙ c.requires.stands in
    let later : Writes l more k v (Some c.args.copies) = λ j w. c.set_in.ensures.set stands (j, w) in
    apart_second t t l more k v (Some c.args.copies) c.self.invariant (writes_none t k v gone) later

pub returns-then-is_some-clause-set : goal.returns-then-is_some-clause-set
returns-then-is_some-clause-set c =
    let k = c.args.name.key in
    let v = c.args.name.version in
    let t = c.self.inside.table in
    let l = c.self.inside.later.entries in
    let some : is_some (copies_among t k v) ≡ true = ap (λ (o : Option Copies). is_some o) (sym c.get.ensures.copies) ∙ sym c.is_some.ensures ∙ c.if-is_some.true in
    let there : copies_among c.args.self.now.entries k v ≡ c.get.result = ap (λ (s : NamesState). copies_among s.entries k v) (sym c.self.view_is) ∙ joined_first t l k v some ∙ sym c.get.ensures.copies in
    let fits : c.args.copies.count ≤ max 2 (count_in c.get.result) = subst (λ (o : Option Copies). c.args.copies.count ≤ max 2 (count_in o)) there c.requires.fits in
    let most = bounded c.get.result c.args.copies.count 255 c.get.ensures.small (omega arith) fits in
    let put : c.put.result ≡ true = c.put.ensures.fits c.requires.some most some in
    subst (λ (s : NamesState). Writes s.entries (c.put.new.self ++ l) k v (Some c.args.copies)) c.self.view_is
    (writes_first t c.put.new.self l k v c.args.copies (c.put.ensures.put put))

pub returns-else-is_some-clause-set : goal.returns-else-is_some-clause-set
returns-else-is_some-clause-set c =
    let k = c.args.name.key in
    let v = c.args.name.version in
    let t = c.self.inside.table in
    let l = c.self.inside.later.entries in
    let more = c.set_in.new.names.entries in
    let gone : copies_among t k v ≡ None = none_from (copies_among t k v) (ap (λ (o : Option Copies). is_some o) (sym c.get.ensures.copies) ∙ sym c.is_some.ensures ∙ c.if-is_some.false) in
    let stands : is_some (copies_among l k v) ≡ true = ap (λ (o : Option Copies). is_some o) (sym (joined_none t l k v gone)) ∙ ap (λ (s : NamesState). is_some (copies_among s.entries k v)) c.self.view_is ∙ c.requires.stands in
    let later : Writes l more k v (Some c.args.copies) = λ j w. c.set_in.ensures.set stands (j, w) in
    subst (λ (s : NamesState). Writes s.entries (t ++ more) k v (Some c.args.copies)) c.self.view_is
    (writes_second t t l more k v (Some c.args.copies) (writes_none t k v gone) later)

pub returns-then-is_some-clause-count : goal.returns-then-is_some-clause-count
returns-then-is_some-clause-count c =
    let k = c.args.name.key in
    let v = c.args.name.version in
    let t = c.self.inside.table in
    let l = c.self.inside.later.entries in
    let some : is_some (copies_among t k v) ≡ true = ap (λ (o : Option Copies). is_some o) (sym c.get.ensures.copies) ∙ sym c.is_some.ensures ∙ c.if-is_some.true in
    let there : copies_among c.args.self.now.entries k v ≡ c.get.result = ap (λ (s : NamesState). copies_among s.entries k v) (sym c.self.view_is) ∙ joined_first t l k v some ∙ sym c.get.ensures.copies in
    let fits : c.args.copies.count ≤ max 2 (count_in c.get.result) = subst (λ (o : Option Copies). c.args.copies.count ≤ max 2 (count_in o)) there c.requires.fits in
    let most = bounded c.get.result c.args.copies.count 255 c.get.ensures.small (omega arith) fits in
    let put : c.put.result ≡ true = c.put.ensures.fits c.requires.some most some in
    subst (λ (s : NamesState). Recounts s.entries (c.put.new.self ++ l) k v (Some c.args.copies)) c.self.view_is
    (recounts_first t c.put.new.self l k v (Some c.args.copies) (c.self.invariant k v some) (c.put.ensures.count put))

pub returns-else-is_some-clause-count : goal.returns-else-is_some-clause-count
returns-else-is_some-clause-count c =
    let k = c.args.name.key in
    let v = c.args.name.version in
    let t = c.self.inside.table in
    let l = c.self.inside.later.entries in
    let more = c.set_in.new.names.entries in
    let gone : copies_among t k v ≡ None = none_from (copies_among t k v) (ap (λ (o : Option Copies). is_some o) (sym c.get.ensures.copies) ∙ sym c.is_some.ensures ∙ c.if-is_some.false) in
    let stands : is_some (copies_among l k v) ≡ true = ap (λ (o : Option Copies). is_some o) (sym (joined_none t l k v gone)) ∙ ap (λ (s : NamesState). is_some (copies_among s.entries k v)) c.self.view_is ∙ c.requires.stands in
    let one = one_is (copies_among l k v) stands in
    subst (λ (s : NamesState). Recounts s.entries (t ++ more) k v (Some c.args.copies)) c.self.view_is
    (recounts_second t t l more k v (Some c.args.copies) c.self.invariant (one_none t k v gone) (let same = c.set_in.ensures.count in omega (arith, one, same)))
