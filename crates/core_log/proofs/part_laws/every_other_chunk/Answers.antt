use Rattle.core_log.proofs.LogWrites.{log_beside}
use Rattle.core_log.proofs.part_laws.every_other_chunk.Goals as goal

pub returns : goal.returns
returns c s t log j none outside stands = log_beside s t log j none outside stands
