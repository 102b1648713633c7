use Rattle.std.proofs.Common.{◌∙◌, subst}
use Rattle.group_engine.specs.Passes.{CeasesOut}
use Rattle.group_engine.proofs.Ending.{ceases_in}
use Rattle.group_engine.proofs.passes.replay.Goals as goal

pub cease-requires-clause-stays : goal.cease-requires-clause-stays
cease-requires-clause-stays g c =
    let f = c.in-Err.ensures.failed c.requires.shows.0 c.requires.shows.1 in
    let n = c.wind_down.ensures.stays (g.R.Region.state c.run.new.region) f.0 f.1 in
    (n.0, n.1)

pub returns-in-Err-clause-failed : goal.returns-in-Err-clause-failed
returns-in-Err-clause-failed g c = λ e h.
    let f = c.in-Err.ensures.failed e h in
    let n = c.wind_down.ensures.stays (g.R.Region.state c.run.new.region) f.0 f.1 in
    let d = c.cease.ensures.ceased n.0 n.1 in
    (d.0, d.1, ceases_in (g.R.Region.state c.run.new.region) (g.R.Region.state c.cease.new.region) (g.C.Cores.cores c.args.cores.now) c.args.lines.items e.engine f.0 n.0 d.0 f.2 n.2 (subst (λ k. CeasesOut (g.R.Region.state c.cease.new.region) k n.0 d.0) (c.wind_down.ensures.cores ∙ c.run.ensures.cores) d.2))
