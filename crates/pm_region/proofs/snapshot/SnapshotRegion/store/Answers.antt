use Rattle.pm_region.specs.Cell.{store_at}
use Rattle.pm_region.proofs.snapshot.SnapshotRegion.store.Goals as goal

pub returns : goal.returns
returns g c = c.pass.ensures (store_at c.args._at c.args._value)
