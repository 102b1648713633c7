use Rattle.std.proofs.Common.{◌++◌, None, subst, arith}
use Rattle.log_standing.specs.NameItems.{Recounts, Writes}
use Rattle.log_standing.specs.TwoParts.{NamesState}
use Rattle.log_standing.proofs.PartLaws.{writes_second, recounts_second}
use Rattle.log_standing.proofs.logged_names.LoggedNames.take.Goals as goal

pub returns-clause-taken : goal.returns-clause-taken
returns-clause-taken c =
    let k = c.args.name.key in
    let v = c.args.name.version in
    let more = c.take_in.new.names.entries in
    let later : Writes c.self.inside.later.entries more k v None = λ j w. c.take_in.ensures.taken (j, w) in
    subst (λ (s : NamesState). Writes s.entries (c.take.new.self ++ more) k v None) c.self.view_is
    (writes_second c.self.inside.table c.take.new.self c.self.inside.later.entries more k v None c.take.ensures.taken later)

pub returns-clause-count : goal.returns-clause-count
returns-clause-count c =
    let k = c.args.name.key in
    let v = c.args.name.version in
    let more = c.take_in.new.names.entries in
    subst (λ (s : NamesState). Recounts s.entries (c.take.new.self ++ more) k v None) c.self.view_is
    (recounts_second c.self.inside.table c.take.new.self c.self.inside.later.entries more k v None c.self.invariant c.take.ensures.count (let count = c.take_in.ensures.count in omega (arith, count)))
