use Rattle.std.proofs.Common.{◌≡◌, ◌++◌, length}
use Rattle.engine_core.specs.Working.{SeatFirst}
use Rattle.engine_core.specs.RunStarts.{AreNew}
use Rattle.engine_core.proofs.open_workers.open_workers.Given as goal

abbrev pub invariant-loop-start : goal.invariant-loop-start
invariant-loop-start l = record {
  count : length l.workers.items ≡ length l.yielded;
  split : l.fn.starts.items ≡ l.yielded ++ l.start-iterator.rest.items;
  new : AreNew l.yielded l.layout l.workers.items;
  seat : SeatFirst l.yielded l.layout l.workers.items;
}
