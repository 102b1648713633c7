use Rattle.pm_region.specs.Cell.{flush_line}
use Rattle.pm_region.proofs.snapshot.SnapshotRegion.flush.Goals as goal

pub returns : goal.returns
returns g c = c.pass.ensures (flush_line c.args._line)
