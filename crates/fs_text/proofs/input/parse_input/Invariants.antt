use Rattle.std.proofs.Common.{◌≡◌, ◌+◌, ◌≤◌, length}
use Rattle.fs_text.specs.Input.{lines_of, lines_from, input_of}
use Rattle.fs_text.proofs.Stopping.{with_lines}
use Rattle.fs_text.proofs.input.parse_input.Given as goal

abbrev pub invariant-loop-rest : goal.invariant-loop-rest
invariant-loop-rest l = record {
  few : l.number + length l.rest ≤ length l.bytes + 1;
  said : with_lines l.lines.items (lines_from l.cores l.number l.totals (lines_of l.rest)) ≡ input_of l.cores l.bytes;
}

abbrev pub decreases-loop-rest : goal.decreases-loop-rest
decreases-loop-rest l = length l.rest
