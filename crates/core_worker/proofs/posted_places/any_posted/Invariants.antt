use Rattle.std.proofs.Common.{◌≡◌}
use Rattle.std.specs.Prelude.{drop}
use Rattle.core_worker.specs.PostedPlaces.{any_posted}
use Rattle.core_worker.proofs.posted_places.any_posted.Given as goal

-- what is left decides
abbrev pub invariant-loop-place : goal.invariant-loop-place
invariant-loop-place l = any_posted (drop l.place-index l.place-items) ≡ any_posted l.place-items
