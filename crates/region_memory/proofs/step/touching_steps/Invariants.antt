use Rattle.std.proofs.Common.{take}
use Rattle.region_memory.specs.Journals.{SameWithin}
use Rattle.region_memory.proofs.step.touching_steps.Given as goal

abbrev pub invariant-loop-step : goal.invariant-loop-step
invariant-loop-step l = SameWithin l.from l.end l.own.items (take l.step-index l.steps)
