use Rattle.std.proofs.Common.{refl, sym, ◌∙◌, arith, inl, inr}
use Rattle.group_machine.proofs.Lists.{In-take_more, In-at}
use Rattle.group_machine.proofs.return_steps.contains.Goals as goal

pub returns-then-is_same_entry : goal.returns-then-is_same_entry
returns-then-is_same_entry c =
    let x = c.other-item.result in
    (λ _. In-at c.args.entry.now c.args.entries.now c.loop-other.other-index x (omega arith) (sym c.other-item.is ∙ sym (c.if-is_same_entry.ensures.0 refl)), λ _. refl)

pub loop-other-preserved : goal.loop-other-preserved
loop-other-preserved c = λ q.
    let x = c.other-item.result in
    elim (In-take_more c.args.entry.now c.args.entries.now c.loop-other.other-index x (omega arith) q) [
      | inl e ↦ absurd (let t = c.if-is_same_entry.ensures.1 (e ∙ sym c.other-item.is) in cc t)
      | inr old ↦ c.loop-other.invariant old
    ]
