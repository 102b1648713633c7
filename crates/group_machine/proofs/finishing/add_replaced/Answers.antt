use Rattle.std.proofs.Common.{◌≡◌, ℕ, true, Some, ◌&&◌, not, [], ◌∷◌, sym, ◌∙◌, inl, inr, subst}
use Rattle.store_image.specs.Facts.{In}
use Rattle.group_laws.specs.Steps.{is_of, points_at}
use Rattle.group_laws.proofs.Clients.{In-push, In-append_left, In-append_right}
use Rattle.group_machine.proofs.finishing.add_replaced.Goals as goal

pub returns-in_ok-push : goal.returns-in_ok-push
returns-in_ok-push c = λ q.
    let old = c.args.pointers.now.items in
    let p = c.args.pointer in
    let items = c.in_ok-push.ensures.items in
    let test = sym c.is_replaced.ensures ∙ c.if-is_replaced.true in (
      λ t. elim (In-push q p old (subst (In q) items t)) [
        | inl i ↦ inr (i, subst (λ (q : ℕ). (is_of c.args.key (Some c.args.block.now) && not (points_at c.args.body.now q)) ≡ true) (sym i) test)
        | inr i ↦ inl i
      ],
      λ e. subst (In q) (sym items) (elim e [
        | inl i ↦ In-append_left q old (p ∷ []) i
        | inr i ↦ In-append_right q old (p ∷ []) (inl i.0)
      ]),
    )
