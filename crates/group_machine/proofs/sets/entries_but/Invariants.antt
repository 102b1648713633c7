use Rattle.std.proofs.Common.{◌≡◌, take}
use Rattle.group_laws.specs.Updates.{without}
use Rattle.group_machine.proofs.sets.entries_but.Given as goal

abbrev pub invariant-loop-entry : goal.invariant-loop-entry
invariant-loop-entry l = l.left.items ≡ without l.out (take l.entry-index l.list)
