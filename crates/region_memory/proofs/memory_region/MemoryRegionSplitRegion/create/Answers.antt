use Rattle.region_memory.proofs.Attaching.{attached_from}
use Rattle.region_memory.proofs.memory_region.MemoryRegionSplitRegion.create.Goals as goal

pub returns-clause-ok : goal.returns-clause-ok
returns-clause-ok g c = attached_from _ _ _ _ _ (c.in_ok-create.ensures.ok 0 0 _ _)
