use Rattle.std.proofs.Common.{◌≡◌, ℕ, List, length, get_or, None, false, cond, sym, ◌∙◌, ap, subst, arith}
use Rattle.std.proofs.lemmas.List.{get_or_read}
use Rattle.log_standing.specs.declared.name_item.NameItem.{NameItem}
use Rattle.log_standing.specs.declared.types.Copies.{Copies}
use Rattle.log_standing.specs.NameCounts.{name_eq}
use Rattle.log_standing.specs.NameItems.{copies_among, one_of, is_item, IsPlace, IsAbsent, rank_in}
use Rattle.log_standing.proofs.ItemLaws.{absent_copies, rises_set, copies_set, copies_at_place, count_set}
use Rattle.log_standing.proofs.PartLaws.{writes_none, one_none}
use Rattle.log_standing.proofs.name_table.NameTable.take.Goals as goal

gone : NameItem → NameItem
gone x = record { key = x.key; version = x.version; count = 0; chunk = x.chunk; words = x.words; dead = x.dead }

pub returns-in_default-clause-taken : goal.returns-in_default-clause-taken
returns-in_default-clause-taken c =
    let xs = c.self.inside.items.items in
    let k = c.args.name.key in
    let v = c.args.name.version in
    let none : IsAbsent xs k v = subst (λ (l : List NameItem). IsAbsent l k v) c.deref.ensures.value c.in_default.ensures.absent in
    writes_none c.args.self.now k v (ap (λ (t : List ((ℕ × ℕ) × Copies)). copies_among t k v) (sym c.self.view_is) ∙ absent_copies xs k v none)

pub invariant_of-self : goal.invariant_of-self
invariant_of-self c =
    let xs = c.self.inside.items.items in
    let k = c.args.name.key in
    let v = c.args.name.version in
    let i = c.in-Some.place in
    let d : NameItem = record { key = 0; version = 0; count = 0; chunk = 0; words = 0; dead = false } in
    let at : IsPlace xs k v i = subst (λ (l : List NameItem). IsPlace l k v i) c.deref.ensures.value c.in-Some.ensures.found in
    let read : c.index_mut.result.now ≡ get_or xs i d = get_or_read xs i c.index_mut.result.now at.within c.index_mut.ensures.value d in
    rises_set xs i (record { key = c.index_mut.result.now.key; version = c.index_mut.result.now.version; count = 0; chunk = c.index_mut.result.now.chunk; words = c.index_mut.result.now.words; dead = c.index_mut.result.now.dead }) d (ap rank_in read) c.self.invariant

pub returns-clause-taken : goal.returns-clause-taken
returns-clause-taken c = λ j w.
    let xs = c.self.inside.items.items in
    let k = c.args.name.key in
    let v = c.args.name.version in
    let i = c.in-Some.place in
    let d : NameItem = record { key = 0; version = 0; count = 0; chunk = 0; words = 0; dead = false } in
    let at : IsPlace xs k v i = subst (λ (l : List NameItem). IsPlace l k v i) c.deref.ensures.value c.in-Some.ensures.found in
    let read : c.index_mut.result.now ≡ get_or xs i d = get_or_read xs i c.index_mut.result.now at.within c.index_mut.ensures.value d in
    let z : NameItem = record { key = c.index_mut.result.now.key; version = c.index_mut.result.now.version; count = 0; chunk = c.index_mut.result.now.chunk; words = c.index_mut.result.now.words; dead = c.index_mut.result.now.dead } in
    copies_set xs i z d k v c.self.invariant at.within (at.named d) (ap (is_item k v) read ∙ at.named d) j w ∙ ap (λ (t : List ((ℕ × ℕ) × Copies)). cond (name_eq (k, v) (j, w)) None (copies_among t j w)) c.self.view_is

pub returns-in_default-clause-count : goal.returns-in_default-clause-count
returns-in_default-clause-count c =
    let xs = c.self.inside.items.items in
    let k = c.args.name.key in
    let v = c.args.name.version in
    let none : IsAbsent xs k v = subst (λ (l : List NameItem). IsAbsent l k v) c.deref.ensures.value c.in_default.ensures.absent in
    one_none c.args.self.now k v (ap (λ (t : List ((ℕ × ℕ) × Copies)). copies_among t k v) (sym c.self.view_is) ∙ absent_copies xs k v none)

pub returns-clause-count : goal.returns-clause-count
returns-clause-count c =
    let xs = c.self.inside.items.items in
    let k = c.args.name.key in
    let v = c.args.name.version in
    let i = c.in-Some.place in
    let d : NameItem = record { key = 0; version = 0; count = 0; chunk = 0; words = 0; dead = false } in
    let at : IsPlace xs k v i = subst (λ (l : List NameItem). IsPlace l k v i) c.deref.ensures.value c.in-Some.ensures.found in
    let z : NameItem = record { key = c.index_mut.result.now.key; version = c.index_mut.result.now.version; count = 0; chunk = c.index_mut.result.now.chunk; words = c.index_mut.result.now.words; dead = c.index_mut.result.now.dead } in
    let count = count_set xs i z d at.within in
    let was = ap one_of (sym (copies_at_place xs i d k v c.self.invariant at.within (at.named d)) ∙ ap (λ (t : List ((ℕ × ℕ) × Copies)). copies_among t k v) c.self.view_is) in
    let long = ap (λ (t : List ((ℕ × ℕ) × Copies)). length t) c.self.view_is in
    omega (arith, count, was, long)
