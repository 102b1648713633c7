use Rattle.std.proofs.Common.{◌≡◌, ℕ, List, get_or, false, sym, ◌∙◌, ap, subst}
use Rattle.std.proofs.lemmas.List.{get_or_read}
use Rattle.log_standing.specs.declared.name_item.NameItem.{NameItem}
use Rattle.log_standing.specs.declared.types.Copies.{Copies}
use Rattle.log_standing.specs.NameItems.{copies_of, copies_among, IsPlace, IsAbsent}
use Rattle.log_standing.proofs.ItemLaws.{copies_at_place, absent_copies}
use Rattle.log_standing.proofs.name_table.NameTable.get.Goals as goal

pub returns-in-Some-clause-copies : goal.returns-in-Some-clause-copies
returns-in-Some-clause-copies c =
    let xs = c.self.inside.items.items in
    let k = c.args.name.key in
    let v = c.args.name.version in
    let i = c.in-Some.place in
    let d : NameItem = record { key = 0; version = 0; count = 0; chunk = 0; words = 0; dead = false } in
    let at : IsPlace xs k v i = subst (λ (l : List NameItem). IsPlace l k v i) c.deref.ensures.value c.in-Some.ensures.found in
    let read : c.index.result.now ≡ get_or xs i d = get_or_read xs i c.index.result.now at.within c.index.ensures d in
    c.copies_of.ensures.copies ∙ ap copies_of read ∙ sym (copies_at_place xs i d k v c.self.invariant at.within (at.named d)) ∙ ap (λ (t : List ((ℕ × ℕ) × Copies)). copies_among t k v) c.self.view_is

pub returns-in-None-clause-copies : goal.returns-in-None-clause-copies
returns-in-None-clause-copies c =
    let xs = c.self.inside.items.items in
    let k = c.args.name.key in
    let v = c.args.name.version in
    let none : IsAbsent xs k v = subst (λ (l : List NameItem). IsAbsent l k v) c.deref.ensures.value c.in-None.ensures.absent in
    sym (ap (λ (t : List ((ℕ × ℕ) × Copies)). copies_among t k v) (sym c.self.view_is) ∙ absent_copies xs k v none)
