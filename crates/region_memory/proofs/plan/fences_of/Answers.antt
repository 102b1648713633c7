use Rattle.std.proofs.Common.{◌++◌, ◌∷◌, [], ℕ, List, get_or, sym, ◌∙◌, ap}
use Rattle.region_memory.specs.declared.plan.FenceNumber.{FenceNumber}
use Rattle.region_memory.proofs.Planning.{numbers_with, numbers_without}
use Rattle.region_memory.proofs.plan.fences_of.Goals as goal
use Rattle.region_memory.proofs.plan.fences_of.Goals.{then-from-piece+in_ok-push, else-from-piece}

pub loop-fence-preserved : goal.loop-fence-preserved
loop-fence-preserved c =
    let d : FenceNumber = record { piece = 0; number = 0 } in
    let fences = c.args.fences.now in
    let i = c.loop-fence.fence-index in
    let lt = c.loop-fence-test.true in
    elim c.if-from-piece.branch [
      | then-from-piece+in_ok-push w ↦
          ap (λ v. v.items) w.numbers-is ∙ w.in_ok-push.ensures.items ∙ ap (λ (l : List ℕ). l ++ (get_or fences i d).number ∷ []) c.loop-fence.invariant
          ∙ sym (numbers_with c.args.piece fences i d lt (sym c.from.ensures ∙ w.if-from-piece.true))
      | else-from-piece w ↦
          ap (λ v. v.items) w.numbers-is ∙ c.loop-fence.invariant
          ∙ sym (numbers_without c.args.piece fences i d lt (λ is. w.if-from-piece.false (c.from.ensures ∙ is)))
    ]
