use Rattle.pm_region.specs.Words.{lasts}
use Rattle.recover.proofs.ReadLaws.{read_found, found_by, stands_read}
use Rattle.recover.proofs.recover_snapshot.recover_read.Goals as goal

pub returns-clause-read : goal.returns-clause-read
returns-clause-read g c = read_found _ _ _ c.of.ensures c.args.bytes c.recover.result c.recover.ensures.told

pub returns-clause-told : goal.returns-clause-told
returns-clause-told g c = λ telling.
    let s = g.R.Region.state c.args.region.now in
    found_by (g.R.ReadRegion.word c.args.region.now) (lasts s) (λ w. g.met.R.ReadRegion.tells c.args.region.now w telling) c.args.bytes c.recover.result (returns-clause-read g c)

pub returns-clause-stands : goal.returns-clause-stands
returns-clause-stands g c =
    stands_read (g.R.Region.state c.args.region.now) c.args.bytes c.requires.first c.requires.words c.recover.result c.recover.ensures.made (returns-clause-told g c)
