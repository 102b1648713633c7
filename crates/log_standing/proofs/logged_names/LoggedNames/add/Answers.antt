use Rattle.std.proofs.Common.{◌≡◌, ◌+◌, ◌^◌, ◌<◌, ◌++◌, Option, Some, None, sym, ◌∙◌, ap, subst}
use Rattle.log_standing.specs.declared.types.Copies.{Copies}
use Rattle.log_standing.specs.NameCounts.{count_in, one_more}
use Rattle.log_standing.specs.NameItems.{copies_among, Recounts, Writes}
use Rattle.log_standing.specs.TwoParts.{NamesState}
use Rattle.log_standing.proofs.PartLaws.{joined_none, joined_some, one_none, recounts_second, writes_none, writes_second}
use Rattle.log_standing.proofs.logged_names.LoggedNames.add.Goals as goal

pub add_in-requires-clause-fits : goal.add_in-requires-clause-fits
add_in-requires-clause-fits c =
    let k = c.args.name.key in
    let v = c.args.name.version in
    let table = c.self.inside.table in
    let l = c.self.inside.later.entries in
    let none : copies_among table k v ≡ None = sym c.get.ensures.copies ∙ c.in-None.is in
    subst (λ (o : Option Copies). count_in o + 1 < 18446744073709551616) (joined_none table l k v none)
    (subst (λ (s : NamesState). count_in (copies_among s.entries k v) + 1 < 18446744073709551616) (sym c.self.view_is) c.requires.fits)

pub returns-in-Some-clause-added : goal.returns-in-Some-clause-added
returns-in-Some-clause-added c =
    let k = c.args.name.key in
    let v = c.args.name.version in
    let is : copies_among c.self.inside.table k v ≡ Some c.in-Some.copies = sym c.get.ensures.copies ∙ c.in-Some.is in
    let here = joined_some c.self.inside.table c.self.inside.later.entries k v c.in-Some.copies is in
    let stands : copies_among c.args.self.now.entries k v ≡ Some c.in-Some.copies = subst (λ (s : NamesState). copies_among s.entries k v ≡ Some c.in-Some.copies) c.self.view_is here in
    subst (λ (o : Option Copies). Writes c.args.self.now.entries c.put.new.self.entries k v o)
    (ap (λ (x : Copies). Some x) (c.one_more.ensures ∙ ap one_more (sym stands))) c.put.ensures.put

pub returns-in-None-clause-added : goal.returns-in-None-clause-added
returns-in-None-clause-added c =
    let k = c.args.name.key in
    let v = c.args.name.version in
    let table = c.self.inside.table in
    let l = c.self.inside.later.entries in
    let more = c.add_in.new.names.entries in
    let none : copies_among table k v ≡ None = sym c.get.ensures.copies ∙ c.in-None.is in
    let later : Writes l more k v (Some (one_more (copies_among l k v))) = λ j w. c.add_in.ensures.added (j, w) in
    let both = subst (λ (o : Option Copies). Writes l more k v (Some (one_more o))) (sym (joined_none table l k v none)) later in
    subst (λ (s : NamesState). Writes s.entries (table ++ more) k v (Some (one_more (copies_among s.entries k v)))) c.self.view_is
    (writes_second table table l more k v (Some (one_more (copies_among (table ++ l) k v))) (writes_none table k v none) both)

pub returns-in-None-clause-count : goal.returns-in-None-clause-count
returns-in-None-clause-count c =
    let k = c.args.name.key in
    let v = c.args.name.version in
    let table = c.self.inside.table in
    let l = c.self.inside.later.entries in
    let more = c.add_in.new.names.entries in
    let none : copies_among table k v ≡ None = sym c.get.ensures.copies ∙ c.in-None.is in
    subst (λ (s : NamesState). Recounts s.entries (table ++ more) k v (Some (one_more (copies_among s.entries k v)))) c.self.view_is
    (recounts_second table table l more k v (Some (one_more (copies_among (table ++ l) k v))) c.self.invariant (one_none table k v none) c.add_in.ensures.count)
