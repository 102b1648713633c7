use Rattle.std.proofs.Common.{sym, ◌∙◌, ap}
use Rattle.log_standing.specs.NameItems.{copies_among}
use Rattle.log_standing.specs.TwoParts.{NamesState}
use Rattle.log_standing.proofs.PartLaws.{joined_none, joined_some}
use Rattle.log_standing.proofs.logged_names.LoggedNames.get.Goals as goal

pub returns-in-Some : goal.returns-in-Some
returns-in-Some c =
    let k = c.args.name.key in
    let v = c.args.name.version in
    sym (ap (λ (s : NamesState). copies_among s.entries k v) (sym c.self.view_is) ∙ joined_some c.self.inside.table c.self.inside.later.entries k v c.in-Some.copies (sym c.in-Some.ensures.copies))

pub returns-in-None : goal.returns-in-None
returns-in-None c =
    let k = c.args.name.key in
    let v = c.args.name.version in
    sym (ap (λ (s : NamesState). copies_among s.entries k v) (sym c.self.view_is) ∙ joined_none c.self.inside.table c.self.inside.later.entries k v (sym c.in-None.ensures.copies) ∙ sym c.copies_in.ensures)
