use Rattle.region_memory.specs.declared.crash_image.ImageError.TheVariants.{NotTold}
use Rattle.pm_region.proofs.Clients.{same_err}
use Rattle.region_memory.proofs.memory_region.MemoryRegion.image_at.Goals as goal

pub returns-in-Ok-clause-told : goal.returns-in-Ok-clause-told
returns-in-Ok-clause-told g c = c.in-Ok.ensures.told _ _

pub returns-in-Err-clause-not_told : goal.returns-in-Err-clause-not_told
returns-in-Err-clause-not_told g c = λ is told. c.in-Err.ensures.not_told (same_err c.in-Err.e NotTold is) _ _ told
