-- What was recovered is that of the words read.
use Rattle.std.proofs.Common.{subst}
use Rattle.recover.specs.Recovering.{IsMade, IsFound}
use Rattle.flatstore_commands.proofs.Standing.{is_certain, stands_as_found}
use Rattle.flatstore_commands.proofs.replay.recovered.Goals as goal

pub returns-in-Ok-clause-ok : goal.returns-in-Ok-clause-ok
returns-in-Ok-clause-ok g c =
    let s = g.R.Region.state c.args.region.now in
    let word = g.R.ReadRegion.word c.args.region.now in
    stands_as_found s word c.requires.whole.first c.requires.whole.words c.requires.whole.certain c.in-Ok.recovered
    (subst (λ n. IsMade n c.in-Ok.recovered) c.bytes.ensures c.in-Ok.ensures.made)
    (subst (λ n. IsFound n word c.in-Ok.recovered) c.bytes.ensures c.in-Ok.ensures.read)
    (c.in-Ok.ensures.stands (is_certain s word c.requires.whole.first c.requires.whole.words c.requires.whole.certain))
