use Rattle.std.proofs.Common.{◌+◌, ap, rules}
use Rattle.pm_region.specs.State.{IsTelling}
use Rattle.core_log.specs.Walking.{words_in}
use Rattle.core_log.proofs.Steps.{payload_lies, walk_left}
use Rattle.core_log.proofs.log.CoreLog.walk.Goals as goal

pub walk_from-requires-clause-lies : goal.walk_from-requires-clause-lies
walk_from-requires-clause-lies g c =
    let first = c.first_of-first.ensures in
    payload_lies (g.R.Region.state c.args.region.now).frame c.args.self.now c.args.chunk (c.first_of-first.result + 32) c.tail_in-tail.result c.requires.lies c.requires.has (ap (λ n. n + 32) first) c.tail_in-tail.ensures

pub returns-clause-told : goal.returns-clause-told
returns-clause-told g c = search rules

pub returns-clause-left : goal.returns-clause-left
returns-clause-left g c =
    let s = g.R.Region.state c.args.region.now in
    walk_left (IsTelling s) (words_in s c.args.self.now c.args.chunk) c.args.place c.walk_from.result c.requires.readable.spelled (returns-clause-told g c)
