use Rattle.log_cleaner.specs.Copying.{begins}
use Rattle.log_cleaner.proofs.SettledLaws.{starts, settled_one, settled_same}
use Rattle.log_cleaner.proofs.TallyLaws.{keeps_both, keeps_same}
use Rattle.log_cleaner.proofs.collect_copies.collect.Goals as goal

pub collect_from-taken-requires-clause-readable : goal.collect_from-taken-requires-clause-readable
collect_from-taken-requires-clause-readable g c =
    (starts (g.R.Region.state c.args.region.now) c.args.log.now c.args.standing.now c.args.chunk c.begin_at-from.result c.requires.stands c.requires.has c.requires.standing c.begin_at-from.ensures.within c.begin_at-from.ensures.begins).readable

pub collect_from-taken-requires-clause-left : goal.collect_from-taken-requires-clause-left
collect_from-taken-requires-clause-left g c =
    (starts (g.R.Region.state c.args.region.now) c.args.log.now c.args.standing.now c.args.chunk c.begin_at-from.result c.requires.stands c.requires.has c.requires.standing c.begin_at-from.ensures.within c.begin_at-from.ensures.begins).left

pub returns-clause-settled : goal.returns-clause-settled
returns-clause-settled g c = λ telling.
    let s = g.R.Region.state c.args.region.now in
    let h = begins c.args.chunk c.collect_from-taken.result.1 in
    settled_one s c.args.log.now c.settle.new.self h c.settle.ensures.settled (settled_same s c.args.log.now c.collect_from-taken.new.standing c.settle.new.self h c.settle.ensures.copies (c.collect_from-taken.ensures.settled telling))

pub returns-clause-tally : goal.returns-clause-tally
returns-clause-tally g c =
    let mid = c.collect_from-taken.new.standing in
    keeps_both c.args.standing.now mid c.settle.new.self c.collect_from-taken.ensures.tally (keeps_same mid c.settle.new.self c.settle.ensures.copies c.settle.ensures.tally c.settle.ensures.floors)
