use Rattle.std.proofs.Common.{◌≡◌, ◌<◌, ◌≤◌}
use Rattle.group_engine.specs.Runs.{RunState}
use Rattle.group_engine.specs.Passes.{Keeps, PassSoFar}
use Rattle.core_worker.specs.declared.types.Turn.TheVariants.{Moved, Idle}
use Rattle.engine_core.specs.Calls.{has_moved}
use Rattle.group_engine.proofs.passes.pass.Given as goal

abbrev pub invariant-loop-core : goal.invariant-loop-core
invariant-loop-core g l =
    let C = g.C.Cores in
    let s = g.R.Region.state in
    record {
      shown : (e : RunState g.row.C-Worker.Denot) → C.shows (s l.fn.region) l.fn.cores e → (now : RunState g.row.C-Worker.Denot) × C.shows (s l.region) l.cores now × PassSoFar C.moves (C.cores l.fn.cores) l.core (has_moved l.turn) e now × Keeps e.engine now.engine;
      cores : C.cores l.cores ≡ C.cores l.fn.cores;
      count_is : l.count ≡ C.cores l.fn.cores;
      within : l.core ≤ l.count;
      less : l.turn ≡ Moved → C.left l.cores < C.left l.fn.cores;
      idle : l.turn ≡ Idle → C.left l.cores ≤ C.left l.fn.cores;
    }
