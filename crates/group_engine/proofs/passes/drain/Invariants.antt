use Rattle.std.proofs.Common.{◌≡◌}
use Rattle.group_engine.specs.Runs.{RunState}
use Rattle.group_engine.specs.Passes.{Keeps, DrainSoFar}
use Rattle.group_engine.proofs.passes.drain.Given as goal

abbrev pub invariant-loop : goal.invariant-loop
invariant-loop g l =
    let C = g.C.Cores in
    let s = g.R.Region.state in
    ((e : RunState g.row.C-Worker.Denot) → C.shows (s l.fn.region) l.fn.cores e → (now : RunState g.row.C-Worker.Denot) × C.shows (s l.region) l.cores now × DrainSoFar C.moves (C.cores l.fn.cores) e now × Keeps e.engine now.engine) × (C.cores l.cores ≡ C.cores l.fn.cores)

abbrev pub decreases-loop : goal.decreases-loop
decreases-loop g l = g.C.Cores.left l.cores
