use Rattle.std.proofs.Common.{◌≡◌}
use Rattle.engine_laws.specs.Engine.{Engine}
use Rattle.group_engine.specs.Passes.{Ends}
use Rattle.group_engine.proofs.passes.cease.Given as goal

abbrev pub invariant-loop : goal.invariant-loop
invariant-loop g l =
    let C = g.C.Cores in
    let s = g.R.Region.state in
    record {
      shown : (e : Engine) → C.stays (s l.fn.region) l.fn.cores e → (now : Engine) × C.stays (s l.region) l.cores now × Ends (s l.region) e now;
      winds : C.winds l.cores;
      cores : C.cores l.cores ≡ C.cores l.fn.cores;
    }

abbrev pub decreases-loop : goal.decreases-loop
decreases-loop g l = g.C.Cores.left l.cores
