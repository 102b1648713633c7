use Rattle.std.proofs.Common.{◌≡◌, Option, sym, ◌∙◌, ap}
use Rattle.log_standing.specs.declared.types.Copies.{Copies}
use Rattle.log_standing.specs.NameItems.{copies_among}
use Rattle.log_standing.specs.TwoParts.{NamesState}
use Rattle.log_standing.proofs.PartLaws.{either, copies_joined}
use Rattle.log_standing.proofs.logged_names.LoggedNames.reserve.Goals as goal

pub invariant_of-self-2 : goal.invariant_of-self-2
invariant_of-self-2 c = λ k v some. c.in_ok-reserve.ensures.entries.2 (k, v) ∙ c.self.invariant k v some

pub returns-clause-copies : goal.returns-clause-copies
returns-clause-copies c = λ k v.
    let t = c.self.inside.table in
    let l = c.self.inside.later.entries in
    let more = c.reserve.new.self.entries in
    let same : copies_among more k v ≡ copies_among l k v = c.in_ok-reserve.ensures.entries.2 (k, v) in
    copies_joined t more k v ∙ ap (λ (o : Option Copies). either (copies_among t k v) o) same ∙ sym (copies_joined t l k v) ∙ ap (λ (s : NamesState). copies_among s.entries k v) c.self.view_is
