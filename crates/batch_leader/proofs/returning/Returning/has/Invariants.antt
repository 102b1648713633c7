use Rattle.std.proofs.Common.{◌≡◌}
use Rattle.std.specs.Prelude.{drop, is_some}
use Rattle.batch_leader.specs.TakenChanges.{taken_in}
use Rattle.batch_leader.proofs.returning.Returning.has.Given as goal

-- what is left decides
abbrev pub invariant-loop-taken : goal.invariant-loop-taken
invariant-loop-taken l = is_some (taken_in (drop l.taken-index l.taken-items) l.member l.slot) ≡ is_some (taken_in l.taken-items l.member l.slot)
