use Rattle.std.proofs.Common.{◌≡◌, ◌+◌, ◌<◌, ◌^◌, ◌++◌, ◌∷◌, [], length, false, ◌∙◌, ap, arith, rules, vec_len}
use Rattle.core_index.specs.Records.{standing_with}
use Rattle.core_index.specs.Marks.{Marks, kept, marked}
use Rattle.core_index.proofs.MarkLaws.{kept_short, kept_push, pushed_marks}
use Rattle.core_index.proofs.entry_list.EntryList.push.Goals as goal

pub overflow_add-self : goal.overflow_add-self
overflow_add-self c =
    let ms = c.self.inside.marks.items in
    let short = kept_short ms in
    let count = c.self.invariant.count in
    let len : vec_len c.self.inside.marks ≡ length ms = search rules in
    let fits : vec_len c.self.inside.marks + 1 < 2 ^ 64 = search rules in
    omega (arith, short, count, len, fits)

pub invariant_of-self : goal.invariant_of-self
invariant_of-self c =
    let ms = c.self.inside.marks.items in
    let more : c.push.new.self.items ≡ ms ++ marked c.args.version c.args.home ∷ [] = search rules in
    let top : c.self.inside.top ≡ c.args.self.now.top = ap (λ (m : Marks). m.top) c.self.view_is in
    let later = c.requires.later in
    pushed_marks ms c.push.new.self.items c.self.inside.left c.self.inside.top c.args.version c.args.home c.self.invariant more (omega (arith, top, later))

pub returns-clause-items : goal.returns-clause-items
returns-clause-items c =
    let ms = c.self.inside.marks.items in
    let more : c.push.new.self.items ≡ ms ++ marked c.args.version c.args.home ∷ [] = search rules in
    ap kept more ∙ kept_push ms c.args.version c.args.home ∙ ap (λ (m : Marks). m.items ++ standing_with c.args.version c.args.home false ∷ []) c.self.view_is
