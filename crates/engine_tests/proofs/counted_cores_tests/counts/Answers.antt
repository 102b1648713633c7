use Rattle.group_engine.specs.Runs.{with_request}
use Rattle.engine_tests.proofs.counted_cores_tests.counts.Goals as goal

pub give-requires : goal.give-requires
give-requires g c = (g.R.Region.state c.args.region.now, c.requires.0, c.requires.1)

pub drain-requires : goal.drain-requires
drain-requires g c = (with_request c.requires.0 c.args.request, c.in_ok-give.ensures.gave (g.R.Region.state c.args.region.now) c.requires.0 c.requires.1)

pub drain-requires-2 : goal.drain-requires-2
drain-requires-2 g c =
    let had = c.in_ok-give.ensures.gave (g.R.Region.state c.args.region.now) c.requires.0 c.requires.1 in
    let left = c.in_ok-drain.ensures.drained (with_request c.requires.0 c.args.request) had in
    (left.0, left.1)
