use Rattle.std.proofs.Common.{◌≡◌}
use Rattle.std.specs.Prelude.{drop}
use Rattle.core_worker.specs.Status.{all_free}
use Rattle.core_worker.proofs.status.all_free.Given as goal

-- what is left decides
abbrev pub invariant-loop-place : goal.invariant-loop-place
invariant-loop-place l = all_free (drop l.place-index l.place-items) ≡ all_free l.place-items
