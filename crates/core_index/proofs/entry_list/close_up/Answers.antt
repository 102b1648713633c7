use Rattle.std.proofs.Common.{◌≡◌, ◌≤◌, List, length, sym, ◌∙◌, ap, subst, not, rules}
use Rattle.std.proofs.lemmas.Fn.{filter_same}
use Rattle.core_index.specs.declared.types.Marked.{Marked}
use Rattle.core_index.specs.Marks.{AreMarks, kept}
use Rattle.core_index.proofs.MarkLaws.{closed, kept_closed, closed_length, closed_marks}
use Rattle.core_index.proofs.entry_list.close_up.Goals as goal

pub returns-clause-marks : goal.returns-clause-marks
returns-clause-marks c = λ n top are.
    let is : c.retain.new.self.items ≡ closed c.args.marks.now.items = filter_same _ (λ (m : Marked). not m.gone) _ (λ x b f k. search rules) _ _ c.retain.ensures.filtered in
    subst (λ (ms : List Marked). AreMarks ms n top) (sym is) (closed_marks c.args.marks.now.items n top are)

pub returns-clause-kept : goal.returns-clause-kept
returns-clause-kept c =
    let is : c.retain.new.self.items ≡ closed c.args.marks.now.items = filter_same _ (λ (m : Marked). not m.gone) _ (λ x b f k. search rules) _ _ c.retain.ensures.filtered in
    ap kept is ∙ kept_closed c.args.marks.now.items

pub returns-clause-length : goal.returns-clause-length
returns-clause-length c =
    let is : c.retain.new.self.items ≡ closed c.args.marks.now.items = filter_same _ (λ (m : Marked). not m.gone) _ (λ x b f k. search rules) _ _ c.retain.ensures.filtered in
    subst (λ (ms : List Marked). length ms ≤ length c.args.marks.now.items) (sym is) (closed_length c.args.marks.now.items)
