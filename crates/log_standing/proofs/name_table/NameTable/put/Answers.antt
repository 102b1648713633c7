use Rattle.std.proofs.Common.{◌≡◌, ℕ, List, length, get_or, Option, None, true, false, cond, is_some, sym, ◌∙◌, ap, subst, rules, arith}
use Rattle.log_standing.specs.declared.name_item.NameItem.{NameItem}
use Rattle.log_standing.specs.declared.types.Copies.{Copies}
use Rattle.log_standing.specs.NameCounts.{name_eq}
use Rattle.log_standing.specs.NameItems.{copies_among, one_of, is_item, IsPlace, IsAbsent}
use Rattle.log_standing.proofs.StandingLaws.{name_same}
use Rattle.log_standing.proofs.ItemLaws.{absent_copies, item_rank, rises_set, copies_set, copies_at_place, count_set}
use Rattle.log_standing.proofs.name_table.NameTable.put.Goals as goal

none_there : (o : Option Copies) → o ≡ None → is_some o ≡ true → ⊥
none_there o none some = let both : true ≡ false = sym some ∙ ap (λ (p : Option Copies). is_some p) none in cc both

pub returns-in_default-clause-fits : goal.returns-in_default-clause-fits
returns-in_default-clause-fits c = λ some most there.
    let xs = c.self.inside.items.items in
    let k = c.args.name.key in
    let v = c.args.name.version in
    let none : IsAbsent xs k v = subst (λ (l : List NameItem). IsAbsent l k v) c.deref.ensures.value c.in_default.ensures.absent in
    absurd (none_there (copies_among c.args.self.now k v) (ap (λ (t : List ((ℕ × ℕ) × Copies)). copies_among t k v) (sym c.self.view_is) ∙ absent_copies xs k v none) (search rules))

pub invariant_of-self : goal.invariant_of-self
invariant_of-self c =
    let xs = c.self.inside.items.items in
    let k = c.args.name.key in
    let v = c.args.name.version in
    let i = c.in-Some.place in
    let d : NameItem = record { key = 0; version = 0; count = 0; chunk = 0; words = 0; dead = false } in
    let at : IsPlace xs k v i = subst (λ (l : List NameItem). IsPlace l k v i) c.deref.ensures.value c.in-Some.ensures.found in
    let x = c.in-Some-item_of.item in
    let is = c.in-Some-item_of.ensures.item in
    let same : is_item k v x ≡ true = (λ t. name_eq (is.key t, is.version t) (k, v)) ∙ name_same k v in
    rises_set xs i x d (item_rank k v x same ∙ sym (item_rank k v (get_or xs i d) (at.named d))) c.self.invariant

pub returns-clause-put : goal.returns-clause-put
returns-clause-put c = λ _ j w.
    let xs = c.self.inside.items.items in
    let k = c.args.name.key in
    let v = c.args.name.version in
    let i = c.in-Some.place in
    let d : NameItem = record { key = 0; version = 0; count = 0; chunk = 0; words = 0; dead = false } in
    let at : IsPlace xs k v i = subst (λ (l : List NameItem). IsPlace l k v i) c.deref.ensures.value c.in-Some.ensures.found in
    let x = c.in-Some-item_of.item in
    let is = c.in-Some-item_of.ensures.item in
    let same : is_item k v x ≡ true = (λ t. name_eq (is.key t, is.version t) (k, v)) ∙ name_same k v in
    copies_set xs i x d k v c.self.invariant at.within (at.named d) same j w ∙ (λ t. cond (name_eq (k, v) (j, w)) (is.copies t) (copies_among (c.self.view_is t) j w))

pub returns-clause-count : goal.returns-clause-count
returns-clause-count c = λ _.
    let xs = c.self.inside.items.items in
    let k = c.args.name.key in
    let v = c.args.name.version in
    let i = c.in-Some.place in
    let d : NameItem = record { key = 0; version = 0; count = 0; chunk = 0; words = 0; dead = false } in
    let at : IsPlace xs k v i = subst (λ (l : List NameItem). IsPlace l k v i) c.deref.ensures.value c.in-Some.ensures.found in
    let x = c.in-Some-item_of.item in
    let is = c.in-Some-item_of.ensures.item in
    let count = count_set xs i x d at.within in
    let new = ap one_of is.copies in
    let was = ap one_of (sym (copies_at_place xs i d k v c.self.invariant at.within (at.named d)) ∙ ap (λ (t : List ((ℕ × ℕ) × Copies)). copies_among t k v) c.self.view_is) in
    let long = ap (λ (t : List ((ℕ × ℕ) × Copies)). length t) c.self.view_is in
    omega (arith, count, new, was, long)
