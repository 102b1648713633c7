use Rattle.std.proofs.Common.{◌≡◌, ◌++◌, Option, Some, None, sym, ◌∙◌, subst}
use Rattle.log_standing.specs.declared.types.Copies.{Copies}
use Rattle.log_standing.specs.NameItems.{copies_among, Recounts, Writes}
use Rattle.log_standing.specs.declared.logged_names.LoggedNames.TheInside.{Inside}
use Rattle.log_standing.specs.TwoParts.{NamesState, AreApart}
use Rattle.log_standing.proofs.PartLaws.{writes_first, writes_second, recounts_first, recounts_second, none_from}
use Rattle.log_standing.proofs.logged_names.LoggedNames.put.Goals.{else-is_none-via-then-is_none+else-put, else-is_none-via-else-is_none}
use Rattle.log_standing.proofs.logged_names.LoggedNames.put.Goals as goal

pub returns-then-put-clause-put : goal.returns-then-put-clause-put
returns-then-put-clause-put c =
    let k = c.args.name.key in
    let v = c.args.name.version in
    let l = c.self.inside.later.entries in
    subst (λ (s : NamesState). Writes s.entries (c.put.new.self ++ l) k v (Some c.args.copies)) c.self.view_is
    (writes_first c.self.inside.table c.put.new.self l k v c.args.copies (c.put.ensures.put c.if-put.true))

pub returns-clause-put : goal.returns-clause-put
returns-clause-put c =
    let k = c.args.name.key in
    let v = c.args.name.version in
    let new = c.take.new.self ++ c.put_in.new.names.entries in
    let some : Option Copies = Some c.args.copies in
    let before = c.else-is_none.self-inside in
    let is : before ≡ c.self.inside = elim c.else-is_none.branch [
      | else-is_none-via-then-is_none+else-put w ↦ w.self-inside-is ∙ (λ i. record { table = w.put.ensures.same w.if-put.false i; later = c.self.inside.later })
      | else-is_none-via-else-is_none w ↦ w.self-inside-is
    ] in
    let later : Writes before.later.entries c.put_in.new.names.entries k v some = λ j w. c.put_in.ensures.put (j, w) in
    subst (λ (s : NamesState). Writes s.entries new k v some) c.self.view_is
    (subst (λ (a : Inside). Writes (a.table ++ a.later.entries) new k v some) is
    (writes_second before.table c.take.new.self before.later.entries c.put_in.new.names.entries k v some c.take.ensures.taken later))

pub returns-then-put-clause-count : goal.returns-then-put-clause-count
returns-then-put-clause-count c =
    let k = c.args.name.key in
    let v = c.args.name.version in
    let l = c.self.inside.later.entries in
    let none : copies_among l k v ≡ None = sym c.copies_in.ensures ∙ none_from c.copies_in.result c.if-is_none.ensures in
    subst (λ (s : NamesState). Recounts s.entries (c.put.new.self ++ l) k v (Some c.args.copies)) c.self.view_is
    (recounts_first c.self.inside.table c.put.new.self l k v (Some c.args.copies) none (c.put.ensures.count c.if-put.true))

pub returns-clause-count : goal.returns-clause-count
returns-clause-count c =
    let k = c.args.name.key in
    let v = c.args.name.version in
    let new = c.take.new.self ++ c.put_in.new.names.entries in
    let some : Option Copies = Some c.args.copies in
    let before = c.else-is_none.self-inside in
    let is : before ≡ c.self.inside = elim c.else-is_none.branch [
      | else-is_none-via-then-is_none+else-put w ↦ w.self-inside-is ∙ (λ i. record { table = w.put.ensures.same w.if-put.false i; later = c.self.inside.later })
      | else-is_none-via-else-is_none w ↦ w.self-inside-is
    ] in
    let apart : AreApart before.table before.later.entries = subst (λ (a : Inside). AreApart a.table a.later.entries) (sym is) c.self.invariant in
    subst (λ (s : NamesState). Recounts s.entries new k v some) c.self.view_is
    (subst (λ (a : Inside). Recounts (a.table ++ a.later.entries) new k v some) is
    (recounts_second before.table c.take.new.self before.later.entries c.put_in.new.names.entries k v some apart c.take.ensures.count c.put_in.ensures.count))
