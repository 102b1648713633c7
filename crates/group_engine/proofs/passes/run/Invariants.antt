use Rattle.std.proofs.Common.{◌≡◌, length}
use Rattle.group_engine.specs.Runs.{RunState, with_request}
use Rattle.group_engine.specs.Passes.{RanSoFar, NameCores, Begun}
use Rattle.group_engine.proofs.passes.run.Given as goal

abbrev pub invariant-loop-request : goal.invariant-loop-request
invariant-loop-request g l =
    let C = g.C.Cores in
    let s = g.R.Region.state in
    record {
      shown : (e : RunState g.row.C-Worker.Denot) → C.shows (s l.fn.region) l.fn.cores e → (now : RunState g.row.C-Worker.Denot) × C.shows (s l.region) l.cores now × RanSoFar C.moves with_request (C.cores l.fn.cores) l.fn.lines.items l.lines.items e now × Begun l.fn.lines.items l.lines.items e.engine now.engine;
      cores : C.cores l.cores ≡ C.cores l.fn.cores;
      named : NameCores (C.cores l.fn.cores) l.lines.items;
    }

abbrev pub decreases-loop-request : goal.decreases-loop-request
decreases-loop-request g l = length l.lines.items
