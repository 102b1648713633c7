use Rattle.std.proofs.Common.{ℕ, [], ◌∷◌, refl, sym, inl, inr, subst}
use Rattle.store_image.specs.Facts.{In}
use Rattle.group_laws.proofs.Clients.{In-push, In-append_left, In-append_right}
use Rattle.group_machine.specs.Deaths.{IsSpentIn}
use Rattle.group_machine.proofs.tidy_rules.add_spent.Goals as goal

pub returns-in_ok-push : goal.returns-in_ok-push
returns-in_ok-push c = λ k.
    let old = c.args.keys.now.items in
    let x = c.args.key in
    let items = c.in_ok-push.ensures.items in
    let spent = c.if-is_spent.ensures.0 refl in (
      λ t. elim (In-push k x old (subst (In k) items t)) [
        | inl i ↦ inr (i, subst (λ (q : ℕ). IsSpentIn c.args.view.now q) (sym i) spent)
        | inr i ↦ inl i
      ],
      λ p. subst (In k) (sym items) (elim p [
        | inl i ↦ In-append_left k old (x ∷ []) i
        | inr i ↦ In-append_right k old (x ∷ []) (inl i.0)
      ]),
    )
