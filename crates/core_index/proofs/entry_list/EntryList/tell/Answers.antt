use Rattle.std.proofs.Common.{◌≡◌, List, get_or, sym, ◌∙◌, ap, subst, slice_set}
use Rattle.std.proofs.lemmas.List.{get_or_read}
use Rattle.core_index.specs.declared.types.Marked.{Marked}
use Rattle.core_index.specs.Records.{with_told}
use Rattle.core_index.specs.Marks.{Marks, kept, marked, IsPlace, IsAbsent}
use Rattle.core_index.proofs.MarkLaws.{told_mark, told_kept, told_marks, absent_told}
use Rattle.core_index.proofs.entry_list.EntryList.tell.Goals as goal

pub returns-in_default-clause-items : goal.returns-in_default-clause-items
returns-in_default-clause-items c =
    let ms = c.self.inside.marks.items in
    let v = c.args.version in
    let none : IsAbsent ms v = subst (λ (xs : List Marked). IsAbsent xs v) c.deref.ensures.value c.in_default.ensures.absent in
    subst (λ (m : Marks). m.items ≡ with_told m.items v) c.self.view_is (sym (absent_told ms v none))

pub invariant_of-self : goal.invariant_of-self
invariant_of-self c =
    let ms = c.self.inside.marks.items in
    let v = c.args.version in
    let i = c.in-Some.place in
    let at : IsPlace ms v i = subst (λ (xs : List Marked). IsPlace xs v i) c.deref.ensures.value c.in-Some.ensures.found in
    let d = marked 0 0 in
    let is : c.index_mut.result.now ≡ get_or ms i d = get_or_read ms i c.index_mut.result.now at.within c.index_mut.ensures.value d in
    told_marks ms (slice_set ms i (told_mark c.index_mut.result.now)) c.self.inside.left c.self.inside.top v i d c.self.invariant at.within (at.version d) (ap (λ (m : Marked). slice_set ms i (told_mark m)) is)

pub returns-clause-items : goal.returns-clause-items
returns-clause-items c =
    let ms = c.self.inside.marks.items in
    let v = c.args.version in
    let i = c.in-Some.place in
    let at : IsPlace ms v i = subst (λ (xs : List Marked). IsPlace xs v i) c.deref.ensures.value c.in-Some.ensures.found in
    let d = marked 0 0 in
    let is : c.index_mut.result.now ≡ get_or ms i d = get_or_read ms i c.index_mut.result.now at.within c.index_mut.ensures.value d in
    ap (λ (m : Marked). kept (slice_set ms i (told_mark m))) is ∙ told_kept ms v i d c.self.invariant.rises at.within (at.version d) ∙ ap (λ (m : Marks). with_told m.items v) c.self.view_is
