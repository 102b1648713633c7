use Rattle.group_laws.proofs.SafeRegions.{region_sound, region_cells}
use Rattle.group_laws.proofs.machine_laws.every_region.Goals as goal

pub returns : goal.returns
returns c = record {
  sound = λ bytes image w none safe. region_sound image w safe bytes none;
  cells = λ bytes image w none safe k. region_cells image w safe bytes none k;
}
