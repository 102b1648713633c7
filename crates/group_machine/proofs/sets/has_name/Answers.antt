use Rattle.std.proofs.Common.{◌+◌, take, List, refl, sym, ap, ◌∙◌, inl, inr}
use Rattle.std.proofs.lemmas.List.{take_all}
use Rattle.log_entry.specs.declared.entry.EntryName.{EntryName}
use Rattle.group_laws.specs.Updates.{has}
use Rattle.group_machine.proofs.NameLists.{more_cases, has_at, none_there}
use Rattle.group_machine.proofs.sets.has_name.Goals as goal

pub returns-then-is_name : goal.returns-then-is_name
returns-then-is_name c =
    let d : EntryName = record { key = 0; version = 0 } in
    let is = c.if-is_name.ensures.0 refl in
    sym ((λ i. has c.args.list.now (sym is.0 i) (sym is.1 i)) ∙ has_at c.args.list.now c.loop-name.name-index d c.loop-name-test.true)

pub loop-name-preserved : goal.loop-name-preserved
loop-name-preserved c =
    let d : EntryName = record { key = 0; version = 0 } in
    none_there (has (take (c.loop-name.name-index + 1) c.args.list.now) c.args.key c.args.version) (λ t. elim (more_cases c.args.list.now c.loop-name.name-index d c.args.key c.args.version c.loop-name-test.true t) [
      | inl old ↦ let none = c.loop-name.invariant in cc (none, old)
      | inr is ↦ let yes_name = c.if-is_name.ensures.1 (sym is.0, sym is.1) in cc yes_name
    ])

pub returns : goal.returns
returns c = sym (ap (λ (xs : List EntryName). has xs c.args.key c.args.version) (sym (take_all c.loop-name.name-index c.args.list.now c.loop-name-test.false)) ∙ c.loop-name.invariant)
