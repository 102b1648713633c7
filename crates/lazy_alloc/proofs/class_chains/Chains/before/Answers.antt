use Rattle.std.proofs.Common.{sym, arith}
use Rattle.lazy_alloc.proofs.LinkLaws.{next_has}
use Rattle.lazy_alloc.proofs.class_chains.Chains.before.Goals as goal

pub next-requires : goal.next-requires
next-requires c = let h = c.requires.holds.holds in h.linked.within c.requires.holds.class c.loop-next.at (c.loop-next.invariant.in_chain h.has c.requires.holds.class h.linked h.holds)

pub loop-next-preserved : goal.loop-next-preserved
loop-next-preserved c =
    let a = c.args.self.now in
    record {
      below = c.if-next-chunk.true;
      in_chain = λ has k linked first. (next_has a.firsts.items a.nexts.items has linked k c.loop-next.at c.in-Some.next (c.loop-next.invariant.in_chain has k linked first) (sym c.in-Some.ensures)).1;
    }

pub loop-next-smaller : goal.loop-next-smaller
loop-next-smaller c =
    let a = c.args.self.now in
    let h = c.requires.holds.holds in
    let k = c.requires.holds.class in
    let more = (next_has a.firsts.items a.nexts.items h.has h.linked k c.loop-next.at c.in-Some.next (c.loop-next.invariant.in_chain h.has k h.linked h.holds) (sym c.in-Some.ensures)).0 in
    let lt = c.if-next-chunk.true in
    omega arith
