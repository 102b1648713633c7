use Rattle.std.proofs.Common.{◌≡◌, true, List, [], ◌∷◌, sym, ◌∙◌, inl, inr, subst}
use Rattle.log_entry.specs.declared.entry.EntryName.{EntryName}
use Rattle.group_laws.specs.Updates.{has}
use Rattle.group_machine.proofs.NameLists.{in_either, in_front, in_back, is_one, one_is}
use Rattle.group_machine.proofs.sets.add_other.Goals as goal

pub returns-in_ok-push : goal.returns-in_ok-push
returns-in_ok-push c = λ k n.
    let old = c.args.list.now.items in
    let x = c.args.name in
    let items = c.in_ok-push.ensures.items in
    let free = sym c.has_name.ensures ∙ c.if-not-has_name.true in (
      λ t. elim (in_either old (x ∷ []) k n (subst (λ (xs : List EntryName). has xs k n ≡ true) items t)) [
        | inl i ↦ inl i
        | inr i ↦ let is = is_one x k n i in inr (is.0, is.1, (λ j. has c.args.out.now (is.0 j) (is.1 j)) ∙ free)
      ],
      λ p. subst (λ (xs : List EntryName). has xs k n ≡ true) (sym items) (elim p [
        | inl i ↦ in_front old (x ∷ []) k n i
        | inr i ↦ in_back old (x ∷ []) k n (one_is x k n i.0 i.1)
      ]),
    )
