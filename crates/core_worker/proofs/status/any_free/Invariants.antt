use Rattle.std.proofs.Common.{◌≡◌}
use Rattle.std.specs.Prelude.{drop}
use Rattle.core_worker.specs.Status.{any_free}
use Rattle.core_worker.proofs.status.any_free.Given as goal

-- what is left decides
abbrev pub invariant-loop-place : goal.invariant-loop-place
invariant-loop-place l = any_free (drop l.place-index l.place-items) ≡ any_free l.place-items
