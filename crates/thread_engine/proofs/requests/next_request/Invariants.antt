use Rattle.std.proofs.Common.{◌≡◌, length}
use Rattle.engine_laws.specs.Ran.{asked_in}
use Rattle.thread_engine.proofs.requests.next_request.Given as goal

abbrev pub invariant-loop-line : goal.invariant-loop-line
invariant-loop-line l = asked_in l.fn.lines.items ≡ asked_in l.lines.items

abbrev pub decreases-loop-line : goal.decreases-loop-line
decreases-loop-line l = length l.lines.items
