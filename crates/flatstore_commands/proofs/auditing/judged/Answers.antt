use Rattle.std.proofs.Common.{inl}
use Rattle.flatstore_commands.proofs.Judging.{never_of_region}
use Rattle.flatstore_commands.proofs.auditing.judged.Goals as goal

pub returns-in-Ok-clause-unread : goal.returns-in-Ok-clause-unread
returns-in-Ok-clause-unread g c = never_of_region c.judged_from.result _ c.judged_from.ensures.unread
