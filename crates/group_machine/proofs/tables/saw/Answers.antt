use Rattle.std.proofs.Common.{◌<◌, length, refl, sym, arith, inl, inr}
use Rattle.group_laws.specs.declared.types.Seen.TheVariants.{Slot as SeenSlot}
use Rattle.group_laws.specs.declared.types.SlotWord.TheVariants.{Empty as ShowsEmpty}
use Rattle.group_machine.proofs.Lists.{In-take_more, In-at}
use Rattle.group_machine.proofs.tables.saw.Goals as goal

pub returns-then-is_same : goal.returns-then-is_same
returns-then-is_same c =
    let within : c.loop-seen.seen-index < length c.args.looked.now = omega arith in
    (λ _. In-at c.args.what c.args.looked.now c.loop-seen.seen-index _ within (c.if-is_same.ensures.0 refl), λ _. refl)

pub loop-seen-preserved : goal.loop-seen-preserved
loop-seen-preserved c = λ q.
    let within : c.loop-seen.seen-index < length c.args.looked.now = omega arith in
    elim (In-take_more c.args.what c.args.looked.now c.loop-seen.seen-index (SeenSlot 0 0 ShowsEmpty) within q) [
      | inl e ↦ absurd (let t = c.if-is_same.ensures.1 (sym e) in cc t)
      | inr old ↦ c.loop-seen.invariant old
    ]
