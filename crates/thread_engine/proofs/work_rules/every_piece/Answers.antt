use Rattle.thread_engine.proofs.PieceStands.{piece_member}
use Rattle.thread_engine.proofs.work_rules.every_piece.Goals as goal

pub returns : goal.returns
returns c s t p m v w M P = piece_member s t p m v w M P
