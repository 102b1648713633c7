use Rattle.std.proofs.Common.{◌≡◌, ℕ, true, List, [], ◌∷◌, refl, sym, ◌∙◌, inl, inr, subst, ap}
use Rattle.log_entry.specs.declared.entry.EntryName.{EntryName}
use Rattle.group_laws.specs.Places.{owner}
use Rattle.group_laws.specs.Updates.{has}
use Rattle.group_machine.specs.Shows.{place_of}
use Rattle.group_machine.specs.Deaths.{IsDeadIn}
use Rattle.group_machine.proofs.NameLists.{in_either, in_front, in_back, is_one, one_is}
use Rattle.group_machine.proofs.tidy_rules.add_untold.Goals as goal

pub returns-in_ok-push : goal.returns-in_ok-push
returns-in_ok-push c = λ k n.
    let old = c.args.names.now.items in
    let x = c.args.name in
    let items = c.in_ok-push.ensures.items in
    let own = sym c.owner_of.ensures ∙ c.if-owner_of-member.true in
    let dead = c.if-is_dead.ensures.0 refl in (
      λ t. elim (in_either old (x ∷ []) k n (subst (λ (xs : List EntryName). has xs k n ≡ true) items t)) [
        | inl i ↦ inl i
        | inr i ↦ let is = is_one x k n i in inr (is.0, is.1, ap (owner (place_of c.args.state.now)) is.0 ∙ own, c.if-home-member.true, subst (λ (q : ℕ). IsDeadIn c.args.view.now q n) (sym is.0) (subst (λ (j : ℕ). IsDeadIn c.args.view.now x.key j) (sym is.1) dead))
      ],
      λ p. subst (λ (xs : List EntryName). has xs k n ≡ true) (sym items) (elim p [
        | inl i ↦ in_front old (x ∷ []) k n i
        | inr i ↦ in_back old (x ∷ []) k n (one_is x k n i.0 i.1)
      ]),
    )
