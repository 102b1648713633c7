use Rattle.core_index.proofs.IndexLaws.{waiting_index}
use Rattle.core_index.proofs.index.CoreIndex.enter.Goals as goal

pub invariant_of-self : goal.invariant_of-self
invariant_of-self c = waiting_index c.self.inside.slots.entries c.self.inside.start c.enter_start.new.start c.self.inside.notices c.in_err-enter_start.ensures.waits c.self.invariant

pub invariant_of-self-then-branch : goal.invariant_of-self-then-branch
invariant_of-self-then-branch c = waiting_index c.self.inside.slots.entries c.self.inside.start c.enter_start.new.start c.self.inside.notices c.in_ok-enter_start.ensures.waits c.self.invariant
