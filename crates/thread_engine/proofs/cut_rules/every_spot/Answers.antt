use Rattle.std.proofs.Common.{ap}
use Rattle.thread_engine.specs.CoreRuns.{view_after}
use Rattle.thread_engine.proofs.Spots.{found}
use Rattle.thread_engine.proofs.cut_rules.every_spot.Goals as goal

pub returns : goal.returns
returns c = λ seat refused a b at idle looks w x is. (found c.turn_at_a_cut.ensures.after seat refused a.view x a w.path b w.leads at (ap (view_after a.view) idle) looks is).licensed
