use Rattle.std.proofs.Common.{refl}
use Rattle.group_laws.specs.Runs.{Kind}
use Rattle.batch_leader.proofs.TrailLaws.{one_only}
use Rattle.batch_leader.proofs.states.FailedBatch.fail_one.Goals as goal

pub returns-in-Some-clause-steps : goal.returns-in-Some-clause-steps
returns-in-Some-clause-steps g c = one_only _ _ _ _ (Kind.Fail c.in-Some.taken.member c.in-Some.taken.slot) c.fail.ensures.made refl
