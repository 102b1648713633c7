use Rattle.std.proofs.Common.{◌≡◌, ℕ, ◌<◌, Some, false}
use Rattle.std.specs.List.{slice_get}
use Rattle.group_laws.specs.MemberViews.{View}
use Rattle.group_engine.proofs.engine.any_stopped.Given as goal

abbrev pub invariant-loop-core : goal.invariant-loop-core
invariant-loop-core g l = (c : ℕ) (w : g.row.W.Denot) → c < l.core → slice_get l.workers.items c ≡ Some w → (v : View) → (g.W.CoreWorker.hands v w).stopped ≡ false
