use Rattle.std.proofs.Common.{◌≡◌, List, get_or, Some, None, Bool, cond, sym, ◌∙◌, ap, subst}
use Rattle.std.proofs.lemmas.List.{get_or_read}
use Rattle.core_index.specs.declared.types.Marked.{Marked}
use Rattle.core_index.specs.Records.{standing_at}
use Rattle.core_index.specs.Marks.{Marks, kept, marked, IsPlace, IsAbsent}
use Rattle.core_index.proofs.MarkLaws.{kept_at, absent_at}
use Rattle.core_index.proofs.entry_list.EntryList.find.Goals as goal

pub returns-in_default : goal.returns-in_default
returns-in_default c =
    let ms = c.self.inside.marks.items in
    let v = c.args.version in
    let none : IsAbsent ms v = subst (λ (xs : List Marked). IsAbsent xs v) c.deref.ensures.value c.in_default.ensures.absent in
    sym (ap (λ (m : Marks). standing_at m.items v) (sym c.self.view_is) ∙ absent_at ms v none)

pub returns-then-found : goal.returns-then-found
returns-then-found c =
    let ms = c.self.inside.marks.items in
    let v = c.args.version in
    let i = c.in-Some.place in
    let at : IsPlace ms v i = subst (λ (xs : List Marked). IsPlace xs v i) c.deref.ensures.value c.in-Some.ensures.found in
    let d = marked 0 0 in
    let read : c.index-found.result.now ≡ get_or ms i d = get_or_read ms i c.index-found.result.now at.within c.index-found.ensures d in
    let here : standing_at (kept ms) v ≡ cond c.index-found.result.now.gone None (Some c.index-found.result.now.entry) = kept_at ms v i d c.self.invariant.rises at.within (at.version d) ∙ ap (λ (m : Marked). cond m.gone None (Some m.entry)) (sym read) in
    sym (ap (λ (m : Marks). standing_at m.items v) (sym c.self.view_is) ∙ here ∙ ap (λ (b : Bool). cond b None (Some c.index-found.result.now.entry)) c.if-found.true)

pub returns-else-found : goal.returns-else-found
returns-else-found c =
    let ms = c.self.inside.marks.items in
    let v = c.args.version in
    let i = c.in-Some.place in
    let at : IsPlace ms v i = subst (λ (xs : List Marked). IsPlace xs v i) c.deref.ensures.value c.in-Some.ensures.found in
    let d = marked 0 0 in
    let read : c.index-found.result.now ≡ get_or ms i d = get_or_read ms i c.index-found.result.now at.within c.index-found.ensures d in
    let here : standing_at (kept ms) v ≡ cond c.index-found.result.now.gone None (Some c.index-found.result.now.entry) = kept_at ms v i d c.self.invariant.rises at.within (at.version d) ∙ ap (λ (m : Marked). cond m.gone None (Some m.entry)) (sym read) in
    sym (ap (λ (m : Marks). standing_at m.items v) (sym c.self.view_is) ∙ here ∙ ap (λ (b : Bool). cond b None (Some c.index-found.result.now.entry)) c.if-found.false)
