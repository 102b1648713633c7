use Rattle.std.proofs.Common.{rules}
use Rattle.pm_region.proofs.Snapshots.{goes_on}
use Rattle.pm_region.proofs.snapshot.Snapshot.pass.Goals as goal

pub returns : goal.returns
returns g c = goes_on (g.R.Region.state c.args.self.now.region.now) (g.R.ReadRegion.word c.args.self.now.region.now) c.args.self.now.stamp _ (Prim.search rules) (Prim.search rules)
