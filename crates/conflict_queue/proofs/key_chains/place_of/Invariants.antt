use Rattle.std.proofs.Common.{take}
use Rattle.conflict_queue.specs.Chains.{Lacks}
use Rattle.conflict_queue.proofs.key_chains.place_of.Given as goal

abbrev pub invariant-loop-i : goal.invariant-loop-i
invariant-loop-i l = Lacks (take l.i l.chains) l.key
