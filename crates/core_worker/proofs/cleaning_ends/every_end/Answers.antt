use Rattle.core_worker.proofs.EndedKeys.{knows_all}
use Rattle.core_worker.proofs.EndedHolds.{ended_holds}
use Rattle.core_worker.proofs.EndedOrder.{ended_order}
use Rattle.core_worker.proofs.EndedStands.{ended_stands}
use Rattle.core_worker.proofs.EndedMoves.{ended_moves, ended_room}
use Rattle.core_worker.proofs.cleaning_ends.every_end.Goals as goal

pub returns-clause-knows : goal.returns-clause-knows
returns-clause-knows c = knows_all

pub returns-clause-holds : goal.returns-clause-holds
returns-clause-holds c = ended_holds

pub returns-clause-order : goal.returns-clause-order
returns-clause-order c = ended_order

pub returns-clause-stands : goal.returns-clause-stands
returns-clause-stands c = ended_stands

pub returns-clause-room : goal.returns-clause-room
returns-clause-room c = ended_room

pub returns-clause-moves : goal.returns-clause-moves
returns-clause-moves c = ended_moves
