use Rattle.std.proofs.Common.{◌≡◌, length}
use Rattle.std.specs.List.{AllByRecursion}
use Rattle.core_worker.specs.Outbox.{HasSpare, TellsNothing}
use Rattle.core_worker.proofs.open_worker.no_notices.Given as goal

abbrev pub invariant-loop : goal.invariant-loop
invariant-loop l = (length l.notices.items ≡ l.counter) × AllByRecursion TellsNothing l.notices.items × AllByRecursion HasSpare l.notices.items
