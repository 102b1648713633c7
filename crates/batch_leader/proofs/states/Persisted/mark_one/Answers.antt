use Rattle.std.proofs.Common.{refl}
use Rattle.group_laws.specs.Runs.{Kind}
use Rattle.batch_leader.proofs.TrailLaws.{one_only}
use Rattle.batch_leader.proofs.states.Persisted.mark_one.Goals as goal

pub returns-in-Some-clause-steps : goal.returns-in-Some-clause-steps
returns-in-Some-clause-steps g c = one_only _ _ _ _ (Kind.Mark c.in-Some.taken.member c.in-Some.taken.slot) c.mark.ensures.made refl
