use Rattle.core_log.proofs.LogWrites.{retire_loses}
use Rattle.core_log.proofs.part_laws.every_freeing.Goals as goal

pub returns : goal.returns
returns c s t log j stands has outside run = retire_loses s t log stands j has outside run
