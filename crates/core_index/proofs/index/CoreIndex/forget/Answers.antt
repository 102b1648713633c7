use Rattle.std.proofs.Common.{Option, subst, arith}
use Rattle.core_index.specs.Records.{KeyRecord, Awaits}
use Rattle.core_index.proofs.SlotLaws.{none_waits}
use Rattle.core_index.proofs.IndexLaws.{index_same}
use Rattle.core_index.proofs.index.CoreIndex.forget.Goals as goal

pub invariant_of-self : goal.invariant_of-self
invariant_of-self c =
    let change = c.forget_in.ensures.change in
    let spare = c.self.invariant.spare in
    let mortal = c.forget_in.ensures.mortal in
    index_same c.self.inside.slots.entries c.forget_in.new.slots.entries c.self.inside.start c.forget_in.new.start c.self.inside.notices c.self.inside.notices c.args.key c.self.invariant
    (λ j ne. change.others j ne) (λ v h waits. absurd (none_waits h v (subst (λ (o : Option KeyRecord). Awaits o h v) change.here waits)))
    (λ h n noted. noted) c.forget_in.ensures.ahead (omega (arith, spare, mortal))
