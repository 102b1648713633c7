use Rattle.std.proofs.Common.{◌≡◌, replicate, None}
use Rattle.lazy_alloc.proofs.class_chains.no_links.Given as goal

abbrev pub invariant-loop : goal.invariant-loop
invariant-loop l = l.links.items ≡ replicate l.counter None
