use Rattle.std.proofs.Common.{◌≡◌, ℕ, ◌+◌, ◌<◌, get_or}
use Rattle.region_file.proofs.line_runs.run_end.Given as goal

abbrev pub invariant-loop-end : goal.invariant-loop-end
invariant-loop-end l = (j : ℕ) → l.from + j < l.end → get_or l.lines (l.from + j) 0 ≡ get_or l.lines l.from 0 + j
