use Rattle.std.proofs.Common.{◌+◌, ◌≤◌, length}
use Rattle.run_audit.proofs.Passing.{Passed}
use Rattle.run_audit.proofs.parting.part_at_replies.Given as goal

abbrev pub invariant-loop-first : goal.invariant-loop-first
invariant-loop-first l = record {
  few : l.lines + length l.rest ≤ length l.bytes;
  passed : Passed l.bytes l.rest l.lines;
}

abbrev pub decreases-loop-first : goal.decreases-loop-first
decreases-loop-first l = length l.rest
