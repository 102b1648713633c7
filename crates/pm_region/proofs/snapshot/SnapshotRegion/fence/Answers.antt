use Rattle.pm_region.specs.Cell.{fence_range}
use Rattle.pm_region.proofs.snapshot.SnapshotRegion.fence.Goals as goal

pub returns-clause-ok : goal.returns-clause-ok
returns-clause-ok g c =
    let frame = (g.R.Region.state c.args.self.now.region.now).frame in
    c.pass.ensures (fence_range frame.first frame.words)
