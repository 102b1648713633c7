use Rattle.std.proofs.Common.{◌≡◌, Some, drop}
use Rattle.core_log.specs.Fresh.{least, emptiest}
use Rattle.core_log.proofs.tails.emptiest.Given as goal

abbrev pub invariant-loop-c : goal.invariant-loop-c
invariant-loop-c l = Some (least l.best (drop l.c-index l.chunks)).chunk ≡ emptiest l.chunks
