use Rattle.core_log.proofs.LogWrites.{open_gains}
use Rattle.core_log.proofs.part_laws.every_opening.Goals as goal

pub returns : goal.returns
returns c s t log j stands within free outside run = open_gains s t log stands j within free outside run
