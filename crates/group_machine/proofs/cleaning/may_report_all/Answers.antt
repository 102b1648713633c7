use Rattle.std.proofs.Common.{List, refl, ap, ◌∙◌, inl, inr}
use Rattle.std.proofs.lemmas.List.{take_all}
use Rattle.log_entry.specs.declared.entry.EntryName.{EntryName}
use Rattle.group_laws.specs.Places.{owner}
use Rattle.group_laws.specs.Updates.{has}
use Rattle.group_machine.specs.Shows.{place_of}
use Rattle.group_machine.proofs.NameLists.{more_cases, has_at}
use Rattle.group_machine.proofs.cleaning.may_report_all.Goals as goal

pub returns-then-not-may_report : goal.returns-then-not-may_report
returns-then-not-may_report c =
    let d : EntryName = record { key = 0; version = 0 } in
    (λ t. absurd (cc t), λ all. absurd (let may = c.may_report.ensures.1 (all _ _ (has_at c.args.names.now c.loop-name.name-index d c.loop-name-test.true)) in let f = c.if-not-may_report.true in cc (may, f)))

pub loop-name-preserved : goal.loop-name-preserved
loop-name-preserved c = λ k n t.
    let d : EntryName = record { key = 0; version = 0 } in
    let now = c.may_report.ensures.0 c.if-not-may_report.false in
    elim (more_cases c.args.names.now c.loop-name.name-index d k n c.loop-name-test.true t) [
      | inl old ↦ c.loop-name.invariant k n old
      | inr is ↦ ((λ i. has c.args.view.now.leaving.items (is.0 i) (is.1 i)) ∙ now.0, ap (owner (place_of c.args.state.now)) is.0 ∙ now.1)
    ]

pub returns : goal.returns
returns c = (λ _ k n t. c.loop-name.invariant k n (ap (λ (xs : List EntryName). has xs k n) (take_all c.loop-name.name-index c.args.names.now c.loop-name-test.false) ∙ t), λ _. refl)
