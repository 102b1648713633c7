use Rattle.std.proofs.Common.{◌≡◌, ℕ, ◌<◌, None, Option, length, get_or, arith, refl, ◌∙◌, inl, inr}
use Rattle.std.specs.Ordering.{nat_cmp}
use Rattle.std.specs.BTreeMap.{get}
use Rattle.group_laws.specs.declared.types.Block.{Block}
use Rattle.group_laws.proofs.Clients.{if_into}
use Rattle.group_machine.proofs.Lists.{In-take_more, In-more, In-here}
use Rattle.group_machine.proofs.Pairs.{number_put}
use Rattle.group_machine.proofs.finishing.drop_blocks.Goals as goal

pub loop-pointer-preserved : goal.loop-pointer-preserved
loop-pointer-preserved c =
    let ps = c.args.pointers.now in
    let i = c.loop-pointer.pointer-index in
    let p = get_or ps i 0 in
    let old = c.loop-pointer.blocks in
    let within : i < length ps = omega arith in
    let new : (q : ℕ) → get nat_cmp c.remove.new.self q ≡ _ = number_put (λ (o : Option Block). o) old c.remove.new.self p None c.remove.ensures.updates in
    record {
      gone = λ q j. new q ∙ if_into (λ (o : Option Block). o ≡ None) p None (get nat_cmp old q) q (λ _. refl) (λ ne. elim (In-take_more q ps i 0 within j) [ inl e ↦ absurd (ne e) | inr before ↦ c.loop-pointer.invariant.gone q before ]);
      kept = λ q away. new q ∙ if_into (λ (o : Option Block). o ≡ get nat_cmp c.args.blocks.now q) p None (get nat_cmp old q) q (λ e. absurd (away (rw e (In-here ps i 0 within)))) (λ ne. c.loop-pointer.invariant.kept q (λ before. away (In-more q ps i 0 within before)));
    }
