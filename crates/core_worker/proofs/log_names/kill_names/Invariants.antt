use Rattle.std.proofs.Common.{take}
use Rattle.core_worker.specs.LogNames.{KillsNames}
use Rattle.core_worker.proofs.log_names.kill_names.Given as goal

abbrev pub invariant-loop-name : goal.invariant-loop-name
invariant-loop-name l = KillsNames (take l.name-index l.names) l.fn.standing l.standing
