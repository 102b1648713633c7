use Rattle.region_memory.proofs.Framed.{volume_goes}
use Rattle.region_memory.proofs.volume.Volume.flush.Goals as goal

pub returns : goal.returns
returns c = λ r n n' le. let v = c.args.self.now in volume_goes v.history _ v.attached v.parted v.cuts.items v.bytes v.opens v.validations r n n' _ c.flush.ensures le
