use Rattle.std.proofs.Common.{◌≡◌, ℕ, true, eqb, List, [], ◌∷◌, sym, ◌∙◌, ap, inl, inr, subst}
use Rattle.std.proofs.lemmas.Bool.{ne_eqb}
use Rattle.log_entry.specs.declared.entry.EntryName.{EntryName}
use Rattle.group_laws.specs.Places.{owner}
use Rattle.group_laws.specs.Updates.{has}
use Rattle.group_machine.specs.Shows.{place_of}
use Rattle.group_machine.proofs.NameLists.{in_either, in_front, in_back, is_one, one_is}
use Rattle.group_machine.proofs.cleaning.add_foreign.Goals as goal

pub returns-in_ok-push : goal.returns-in_ok-push
returns-in_ok-push c = λ k n.
    let old = c.args.list.now.items in
    let x = c.args.name in
    let items = c.in_ok-push.ensures.items in
    let other = ne_eqb (owner (place_of c.args.state.now) x.key) c.args.member (λ e. c.if-owner_of-member.true (c.owner_of.ensures ∙ e)) in (
      λ t. elim (in_either old (x ∷ []) k n (subst (λ (xs : List EntryName). has xs k n ≡ true) items t)) [
        | inl i ↦ inl i
        | inr i ↦ let is = is_one x k n i in inr (is.0, is.1, ap (λ (q : ℕ). eqb (owner (place_of c.args.state.now) q) c.args.member) is.0 ∙ other)
      ],
      λ p. subst (λ (xs : List EntryName). has xs k n ≡ true) (sym items) (elim p [
        | inl i ↦ in_front old (x ∷ []) k n i
        | inr i ↦ in_back old (x ∷ []) k n (one_is x k n i.0 i.1)
      ]),
    )
