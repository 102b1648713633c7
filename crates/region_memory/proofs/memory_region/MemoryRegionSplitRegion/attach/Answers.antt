use Rattle.region_memory.proofs.Attaching.{attached_own, volume_finds}
use Rattle.region_memory.proofs.memory_region.MemoryRegionSplitRegion.attach.Goals as goal

pub returns-in_err-open-clause-finds : goal.returns-in_err-open-clause-finds
returns-in_err-open-clause-finds g c = volume_finds c.args.self.now.volume _ _

pub returns-in_err-attach-clause-finds : goal.returns-in_err-attach-clause-finds
returns-in_err-attach-clause-finds g c = volume_finds c.args.self.now.volume _ _

pub returns-clause-finds : goal.returns-clause-finds
returns-clause-finds g c = volume_finds c.args.self.now.volume _ _

pub returns-clause-ok : goal.returns-clause-ok
returns-clause-ok g c = attached_own _ _ _ _ _ (c.in_ok-attach.ensures.ok 0 0 _ _)

pub returns-clause-bytes : goal.returns-clause-bytes
returns-clause-bytes g c = λ telling. (c.in_ok-attach.ensures.ok 0 0 0 0).bytes_are
