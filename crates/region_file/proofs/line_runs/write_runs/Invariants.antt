use Rattle.std.proofs.Common.{◌-◌, ◌≤◌, length}
use Rattle.region_file.specs.LineRuns.{AreRuns}
use Rattle.region_file.proofs.line_runs.write_runs.Given as goal

abbrev pub invariant-loop-from : goal.invariant-loop-from
invariant-loop-from l = record {
  low : l.from ≤ length l.lines;
  runs : AreRuns l.start l.lines l.bytes.items l.from l.initial.device.calls.made l.device.calls.made;
}

abbrev pub decreases-loop-from : goal.decreases-loop-from
decreases-loop-from l = length l.lines - l.from
