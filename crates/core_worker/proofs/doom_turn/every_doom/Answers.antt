use Rattle.core_worker.proofs.DoomedItem.{keeps_doomed, doomed_less}
use Rattle.core_worker.proofs.doom_turn.every_doom.Goals as goal

pub returns-clause-keeps : goal.returns-clause-keeps
returns-clause-keeps c = keeps_doomed

pub returns-clause-less : goal.returns-clause-less
returns-clause-less c = doomed_less
