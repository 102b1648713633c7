use Rattle.std.proofs.Common.{List, ◌∷◌, [], get_or, sym, ◌∙◌, ap, arith}
use Rattle.region_memory.specs.Journals.{cell_after}
use Rattle.region_memory.specs.declared.step.Step.{Step}
use Rattle.region_memory.specs.declared.step.Step.TheVariants.{Store}
use Rattle.region_memory.proofs.Journals.{after_append, replay_more}
use Rattle.region_memory.proofs.step.touching_steps.Goals as goal
use Rattle.region_memory.proofs.step.touching_steps.Goals.{then-touches+in_ok-push, else-touches}

pub loop-step-preserved : goal.loop-step-preserved
loop-step-preserved c =
    let steps = c.args.steps.now in
    let i = c.loop-step.step-index in
    let s = get_or steps i (Store 0 0) in
    λ w x low high.
    let more = replay_more steps i (Store 0 0) w x _ c.loop-step-test.true (c.loop-step.invariant w x low high) in
    elim c.if-touches.branch [
      | then-touches+in_ok-push b ↦
          ap (λ (l : List Step). cell_after l w x) (ap (λ v. v.items) b.own-is ∙ b.in_ok-push.ensures.items)
          ∙ after_append c.loop-step.own.items (s ∷ []) w x ∙ more
      | else-touches b ↦
          ap (λ (l : List Step). cell_after l w x) (ap (λ v. v.items) b.own-is)
          ∙ sym (c.touches.ensures (let f = b.if-touches.false in grind (arith, f)) w (cell_after c.loop-step.own.items w x) low high) ∙ more
    ]
