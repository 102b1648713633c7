use Rattle.std.proofs.Common.{◌≡◌, List, get_or, true, false, sym, ◌∙◌, ap, subst, arith, slice_set}
use Rattle.std.proofs.lemmas.List.{get_or_read}
use Rattle.core_index.specs.declared.types.Marked.{Marked}
use Rattle.core_index.specs.Records.{others}
use Rattle.core_index.specs.Marks.{Marks, kept, marked, IsPlace, IsAbsent}
use Rattle.core_index.proofs.MarkLaws.{gone_mark, gone_kept, gone_already, gone_length, gone_marks, absent_others}
use Rattle.core_index.proofs.entry_list.EntryList.take_out.Goals as goal

pub returns-in_default-clause-items : goal.returns-in_default-clause-items
returns-in_default-clause-items c =
    let ms = c.self.inside.marks.items in
    let v = c.args.version in
    let none : IsAbsent ms v = subst (λ (xs : List Marked). IsAbsent xs v) c.deref.ensures.value c.in_default.ensures.absent in
    subst (λ (m : Marks). m.items ≡ others v m.items) c.self.view_is (sym (absent_others ms v none))

pub returns-then-index-clause-items : goal.returns-then-index-clause-items
returns-then-index-clause-items c =
    let ms = c.self.inside.marks.items in
    let v = c.args.version in
    let i = c.in-Some.place in
    let at : IsPlace ms v i = subst (λ (xs : List Marked). IsPlace xs v i) c.deref.ensures.value c.in-Some.ensures.found in
    let d = marked 0 0 in
    let read : c.index.result.now ≡ get_or ms i d = get_or_read ms i c.index.result.now at.within c.index.ensures d in
    let gone : (get_or ms i d).gone ≡ true = ap (λ (m : Marked). m.gone) (sym read) ∙ c.if-index.true in
    subst (λ (m : Marks). m.items ≡ others v m.items) c.self.view_is (gone_already ms v i d c.self.invariant.rises at.within (at.version d) gone)

pub overflow_sub-self : goal.overflow_sub-self
overflow_sub-self c =
    let ms = c.self.inside.marks.items in
    let v = c.args.version in
    let i = c.in-Some.place in
    let at : IsPlace ms v i = subst (λ (xs : List Marked). IsPlace xs v i) c.deref.ensures.value c.in-Some.ensures.found in
    let d = marked 0 0 in
    let read : c.index.result.now ≡ get_or ms i d = get_or_read ms i c.index.result.now at.within c.index.ensures d in
    let stood : (get_or ms i d).gone ≡ false = ap (λ (m : Marked). m.gone) (sym read) ∙ c.if-index.false in
    let less = gone_length ms i d at.within stood in
    let count = c.self.invariant.count in
    omega (arith, less, count)

pub invariant_of-self : goal.invariant_of-self
invariant_of-self c =
    let ms = c.self.inside.marks.items in
    let v = c.args.version in
    let i = c.in-Some.place in
    let at : IsPlace ms v i = subst (λ (xs : List Marked). IsPlace xs v i) c.deref.ensures.value c.in-Some.ensures.found in
    let d = marked 0 0 in
    let read : c.index.result.now ≡ get_or ms i d = get_or_read ms i c.index.result.now at.within c.index.ensures d in
    let stood : (get_or ms i d).gone ≡ false = ap (λ (m : Marked). m.gone) (sym read) ∙ c.if-index.false in
    let is : c.index_mut.result.now ≡ get_or ms i d = get_or_read ms i c.index_mut.result.now at.within c.index_mut.ensures.value d in
    gone_marks ms (slice_set ms i (gone_mark c.index_mut.result.now)) c.self.inside.left c.self.inside.top i d c.self.invariant at.within stood (ap (λ (m : Marked). slice_set ms i (gone_mark m)) is)

pub returns-clause-items : goal.returns-clause-items
returns-clause-items c =
    let ms = c.self.inside.marks.items in
    let v = c.args.version in
    let i = c.in-Some.place in
    let at : IsPlace ms v i = subst (λ (xs : List Marked). IsPlace xs v i) c.deref.ensures.value c.in-Some.ensures.found in
    let d = marked 0 0 in
    let is : c.index_mut.result.now ≡ get_or ms i d = get_or_read ms i c.index_mut.result.now at.within c.index_mut.ensures.value d in
    ap (λ (m : Marked). kept (slice_set ms i (gone_mark m))) is ∙ gone_kept ms v i d c.self.invariant.rises at.within (at.version d) ∙ ap (λ (m : Marks). others v m.items) c.self.view_is
