use Rattle.std.proofs.Common.{◌≡◌, true, false, eqb, List, inl, inr, subst}
use Rattle.std.proofs.lemmas.List.{take_all}
use Rattle.log_entry.specs.declared.entry.EntryName.{EntryName}
use Rattle.group_laws.specs.Places.{owner}
use Rattle.group_laws.specs.Updates.{has}
use Rattle.group_machine.specs.Shows.{place_of}
use Rattle.group_machine.proofs.NameLists.{more_cases, more_from, same_test}
use Rattle.group_machine.proofs.cleaning.foreign.Goals as goal

pub loop-name-preserved : goal.loop-name-preserved
loop-name-preserved c = λ k n.
    let d : EntryName = record { key = 0; version = 0 } in
    let xs = c.args.names.now in
    let i = c.loop-name.name-index in
    let added = c.in_ok-add_foreign.ensures k n in
    let old = c.loop-name.invariant k n in (
      λ t. elim (added.0 t) [
        | inl j ↦ let was = old.0 j in (more_from xs i d k n c.loop-name-test.true (inl was.0), was.1)
        | inr j ↦ (more_from xs i d k n c.loop-name-test.true (inr (j.0, j.1)), j.2)
      ],
      λ p. elim (more_cases xs i d k n c.loop-name-test.true p.0) [
        | inl j ↦ added.1 (inl (old.1 (j, p.1)))
        | inr j ↦ added.1 (inr (j.0, j.1, p.1))
      ],
    )

pub returns : goal.returns
returns c = λ k n.
    let all = take_all c.loop-name.name-index c.args.names.now c.loop-name-test.false in
    let own = eqb (owner (place_of c.args.state.now) k) c.args.member in
    let old = subst (λ (xs : List EntryName). (has c.loop-name.list.items k n ≡ true → (has xs k n ≡ true) × (own ≡ false)) × ((has xs k n ≡ true) × (own ≡ false) → has c.loop-name.list.items k n ≡ true)) all (c.loop-name.invariant k n) in
    same_test (has c.loop-name.list.items k n) (has c.args.names.now k n) own old.0 old.1
