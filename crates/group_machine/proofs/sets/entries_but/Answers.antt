use Rattle.std.proofs.Common.{[], ◌∷◌, ◌++◌, take, get_or, arith, sym, ap, ◌∙◌}
use Rattle.std.proofs.lemmas.List.{take_all, take_more}
use Rattle.group_laws.specs.Updates.{without}
use Rattle.group_machine.proofs.NameLists.{without_append}
use Rattle.group_machine.proofs.sets.entries_but.Goals as goal

pub loop-entry-preserved : goal.loop-entry-preserved
loop-entry-preserved c =
    let ns = c.args.out.now in
    let xs = c.args.list.now in
    let i = c.loop-entry.entry-index in
    let x = c.entry-item.result in
    c.in_ok-add_entry.ensures
    ∙ (λ j. c.loop-entry.invariant j ++ without ns (c.entry-item.is j ∷ []))
    ∙ sym (without_append ns (take i xs) (get_or xs i x ∷ []))
    ∙ ap (without ns) (sym (take_more xs i x (omega arith)))

pub returns : goal.returns
returns c = c.loop-entry.invariant ∙ ap (without c.args.out.now) (take_all c.loop-entry.entry-index c.args.list.now c.loop-entry-test.false)
