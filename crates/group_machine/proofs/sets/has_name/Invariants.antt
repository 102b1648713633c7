use Rattle.std.proofs.Common.{◌≡◌, false, take}
use Rattle.group_laws.specs.Updates.{has}
use Rattle.group_machine.proofs.sets.has_name.Given as goal

abbrev pub invariant-loop-name : goal.invariant-loop-name
invariant-loop-name l = has (take l.name-index l.list) l.key l.version ≡ false
