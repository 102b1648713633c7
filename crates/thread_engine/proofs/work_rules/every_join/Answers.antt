use Rattle.thread_engine.proofs.PieceStands.{joined_licence}
use Rattle.thread_engine.proofs.work_rules.every_join.Goals as goal

pub returns : goal.returns
returns c t new p m v P T was telling = joined_licence t new p m v P T was telling
