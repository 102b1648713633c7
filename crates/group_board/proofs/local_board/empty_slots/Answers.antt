use Rattle.std.proofs.Common.{◌+◌, length, length-append, [], ◌∷◌, ap, ◌∙◌, refl}
use Rattle.group_laws.specs.declared.types.Slot.TheVariants.{Empty}
use Rattle.group_laws.specs.declared.types.Slot.{Slot}
use Rattle.std.proofs.Common.{List, ℕ, ◌≡◌, get_or, sym, subst}
use Rattle.group_board.proofs.Picks.{all_push}
use Rattle.group_board.proofs.local_board.empty_slots.Goals as goal

pub loop-preserved : goal.loop-preserved
loop-preserved c =
    let items = c.in_ok-push.ensures.items in
    let kept = c.loop.invariant in (
      ap length items ∙ (length-append c.loop.slots.items (Empty ∷ []) ∙ ap (λ n. n + 1) kept.0),
      subst (λ (l : List Slot). (i : ℕ) → get_or l i Empty ≡ Empty) (sym items) (all_push (λ x. x) c.loop.slots.items Empty Empty Empty refl kept.1 refl),
    )
