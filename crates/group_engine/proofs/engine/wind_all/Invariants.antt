use Rattle.std.proofs.Common.{◌≡◌, ◌≤◌, length}
use Rattle.engine_core.specs.Calls.{EachWinds}
use Rattle.group_engine.proofs.engine.wind_all.Given as goal

abbrev pub invariant-loop-core : goal.invariant-loop-core
invariant-loop-core g l =
    let W = g.W.CoreWorker in
    record {
      count : length l.workers.items ≡ length l.fn.workers.items;
      within : l.core ≤ length l.fn.workers.items;
      each : EachWinds W.hands W.answers W.stands W.fair W.room W.leads W.winds l.core l.fn.workers.items l.workers.items;
    }
