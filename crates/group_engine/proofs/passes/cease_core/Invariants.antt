use Rattle.std.proofs.Common.{◌≡◌, ◌<◌, ◌≤◌}
use Rattle.engine_laws.specs.Engine.{Engine}
use Rattle.group_engine.specs.Passes.{CeasesSoFar}
use Rattle.core_worker.specs.declared.types.Turn.TheVariants.{Moved, Idle}
use Rattle.engine_core.specs.Calls.{has_moved}
use Rattle.group_engine.proofs.passes.cease_core.Given as goal

abbrev pub invariant-loop-turn : goal.invariant-loop-turn
invariant-loop-turn g l =
    let C = g.C.Cores in
    let s = g.R.Region.state in
    record {
      shown : (e : Engine) → C.stays (s l.fn.region) l.fn.cores e → (now : Engine) × C.stays (s l.region) l.cores now × CeasesSoFar (s l.region) (has_moved l.turn) e now;
      winds : C.winds l.cores;
      cores : C.cores l.cores ≡ C.cores l.fn.cores;
      less : l.turn ≡ Moved → C.left l.cores < C.left l.fn.cores;
      idle : l.turn ≡ Idle → C.left l.cores ≤ C.left l.fn.cores;
    }

abbrev pub decreases-loop-turn : goal.decreases-loop-turn
decreases-loop-turn g l = g.C.Cores.left l.cores
