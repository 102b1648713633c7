use Rattle.std.proofs.Common.{ℕ, List, get_or, refl, sym, ap, ◌∙◌, inl, inr, subst}
use Rattle.std.proofs.lemmas.List.{take_all}
use Rattle.log_entry.specs.declared.entry.EntryName.{EntryName}
use Rattle.group_laws.specs.Updates.{has}
use Rattle.group_machine.specs.Shows.{place_of}
use Rattle.group_machine.specs.Deaths.{MayTell}
use Rattle.group_machine.proofs.NameLists.{more_cases, has_at}
use Rattle.group_machine.proofs.cleaning.may_tell_all.Goals as goal

pub returns-then-not-may_tell : goal.returns-then-not-may_tell
returns-then-not-may_tell c =
    let d : EntryName = record { key = 0; version = 0 } in
    (λ t. absurd (cc t), λ all. absurd (let may = c.may_tell.ensures.1 (all _ _ (has_at c.args.names.now c.loop-name.name-index d c.loop-name-test.true)) in let f = c.if-not-may_tell.true in cc (may, f)))

pub loop-name-preserved : goal.loop-name-preserved
loop-name-preserved c = λ k n t.
    let d : EntryName = record { key = 0; version = 0 } in
    let p = place_of c.args.state.now in
    let x = get_or c.args.names.now c.loop-name.name-index d in
    elim (more_cases c.args.names.now c.loop-name.name-index d k n c.loop-name-test.true t) [
      | inl old ↦ c.loop-name.invariant k n old
      | inr is ↦ subst (λ (q : ℕ). MayTell p c.args.member c.args.view.now c.args.to q n) (sym is.0) (subst (λ (j : ℕ). MayTell p c.args.member c.args.view.now c.args.to x.key j) (sym is.1) (c.may_tell.ensures.0 c.if-not-may_tell.false))
    ]

pub returns : goal.returns
returns c = (λ _ k n t. c.loop-name.invariant k n (ap (λ (xs : List EntryName). has xs k n) (take_all c.loop-name.name-index c.args.names.now c.loop-name-test.false) ∙ t), λ _. refl)
