use Rattle.std.proofs.Common.{◌≡◌, ◌≤◌}
use Rattle.group_engine.specs.Runs.{RunState}
use Rattle.group_engine.specs.Passes.{Keeps, GoesSoFar}
use Rattle.group_engine.proofs.passes.go.Given as goal

abbrev pub invariant-loop-turn : goal.invariant-loop-turn
invariant-loop-turn g l =
    let C = g.C.Cores in
    let s = g.R.Region.state in
    record {
      shown : (e : RunState g.row.C-Worker.Denot) → C.shows (s l.fn.region) l.fn.cores e → (now : RunState g.row.C-Worker.Denot) × C.shows (s l.region) l.cores now × GoesSoFar C.moves l.core l.turn e now × Keeps e.engine now.engine;
      cores : C.cores l.cores ≡ C.cores l.fn.cores;
      within : l.turn ≤ l.turns;
    }
