use Rattle.range_scan.proofs.StartLaws.{pairs_found}
use Rattle.range_scan.proofs.directory.Directory.build.Goals as goal

pub returns-clause-pairs : goal.returns-clause-pairs
returns-clause-pairs c = λ image starts. pairs_found image c.args.starts.now c.in_ok-keys.keys.items starts c.in_ok-keys.ensures
