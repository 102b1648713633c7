use Rattle.region_memory.proofs.Framed.{goes_by}
use Rattle.region_memory.proofs.memory_region.MemoryRegionRegion.fence.Goals as goal

pub returns-in-Err-clause-err : goal.returns-in-Err-clause-err
returns-in-Err-clause-err g c = goes_by c.args.self.now.volume c.stand.new.self _ _ _ _ _ c.stand.ensures c.fence.ensures.refusals c.fence.ensures.later

pub returns-clause-ok : goal.returns-clause-ok
returns-clause-ok g c = goes_by c.args.self.now.volume c.fence-2.new.self _ _ _ _ _ c.fence-2.ensures c.fence.ensures.refusals c.fence.ensures.later
