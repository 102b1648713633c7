use Rattle.std.proofs.Common.{◌≡◌, ◌+◌, ◌≤◌, length}
use Rattle.fs_text.specs.Input.{lines_of}
use Rattle.query_text.specs.Queries.{queries_from, queries_of}
use Rattle.query_text.proofs.LineLaws.{with_queries}
use Rattle.query_text.proofs.queries.parse_queries.Given as goal

abbrev pub invariant-loop-rest : goal.invariant-loop-rest
invariant-loop-rest l = record {
  few : l.number + length l.rest ≤ length l.bytes + 1;
  within : l.before ≤ 67108864;
  said : with_queries l.queries.items (queries_from l.number l.before (lines_of l.rest)) ≡ queries_of l.bytes;
}

abbrev pub decreases-loop-rest : goal.decreases-loop-rest
decreases-loop-rest l = length l.rest
