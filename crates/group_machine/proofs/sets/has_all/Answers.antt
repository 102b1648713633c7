use Rattle.std.proofs.Common.{List, refl, sym, ap, ◌∙◌, inl, inr}
use Rattle.std.proofs.lemmas.List.{take_all}
use Rattle.log_entry.specs.declared.entry.EntryName.{EntryName}
use Rattle.group_laws.specs.Updates.{has}
use Rattle.group_machine.proofs.NameLists.{more_cases, has_at}
use Rattle.group_machine.proofs.sets.has_all.Goals as goal

pub returns-then-not-has_name : goal.returns-then-not-has_name
returns-then-not-has_name c =
    let d : EntryName = record { key = 0; version = 0 } in
    (λ t. absurd (cc t), λ all. absurd (let yes_there = all _ _ (has_at c.args.names.now c.loop-name.name-index d c.loop-name-test.true) in let found = c.has_name.ensures in let f = c.if-not-has_name.true in cc (yes_there, found, f)))

pub loop-name-preserved : goal.loop-name-preserved
loop-name-preserved c = λ k n t.
    let d : EntryName = record { key = 0; version = 0 } in
    elim (more_cases c.args.names.now c.loop-name.name-index d k n c.loop-name-test.true t) [
      | inl old ↦ c.loop-name.invariant k n old
      | inr is ↦ (λ i. has c.args.list.now (is.0 i) (is.1 i)) ∙ sym c.has_name.ensures ∙ c.if-not-has_name.false
    ]

pub returns : goal.returns
returns c = (λ _ k n t. c.loop-name.invariant k n (ap (λ (xs : List EntryName). has xs k n) (take_all c.loop-name.name-index c.args.names.now c.loop-name-test.false) ∙ t), λ _. refl)
