use Rattle.std.proofs.Common.{◌≡◌, ◌+◌, length, take}
use Rattle.core_worker.proofs.sending.roomier.Given as goal

abbrev pub invariant-loop-name : goal.invariant-loop-name
invariant-loop-name l = (l.new.names ≡ take l.name-index l.old) × (l.new.room ≡ length l.old + l.more)
