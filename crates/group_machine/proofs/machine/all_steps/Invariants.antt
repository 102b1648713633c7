use Rattle.std.proofs.Common.{take}
use Rattle.group_laws.specs.Invariant.{Lawful}
use Rattle.group_machine.specs.Shows.{group_of}
use Rattle.group_machine.specs.Steps.{AreMade}
use Rattle.group_machine.proofs.machine.all_steps.Given as goal

abbrev pub invariant-loop-i : goal.invariant-loop-i
invariant-loop-i l = record {
  made : AreMade (group_of l.fn.state) (take l.i l.steps) (group_of l.state);
  lawful : Lawful (group_of l.state);
}
