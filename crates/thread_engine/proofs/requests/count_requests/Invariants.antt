use Rattle.std.proofs.Common.{◌≡◌, ◌+◌, ◌≤◌, length}
use Rattle.std.specs.Prelude.{drop}
use Rattle.engine_laws.specs.Ran.{asked_in}
use Rattle.thread_engine.proofs.requests.count_requests.Given as goal

-- the requests so far and those of what is left are all
abbrev pub invariant-loop-line : goal.invariant-loop-line
invariant-loop-line l = record {
  all : l.count + length (asked_in (drop l.line-index l.lines)) ≡ length (asked_in l.lines);
  few : l.count ≤ l.line-index;
}
