use Rattle.lazy_alloc.proofs.LinkLaws.{linked_same}
use Rattle.lazy_alloc.proofs.class_chains.Chains.link_if.Goals as goal

pub returns-then-on-clause-linked : goal.returns-then-on-clause-linked
returns-then-on-clause-linked c = λ has has' linked adds same. c.link.ensures.linked has has' linked (adds c.if-on.true)

pub returns-else-on-clause-linked : goal.returns-else-on-clause-linked
returns-else-on-clause-linked c = λ has has' linked adds same. linked_same c.args.self.now.firsts.items c.args.self.now.nexts.items has has' linked (same c.if-on.false)
