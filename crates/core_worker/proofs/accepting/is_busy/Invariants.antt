use Rattle.std.proofs.Common.{◌≡◌}
use Rattle.std.specs.Prelude.{drop}
use Rattle.core_worker.specs.OwnPlaces.{is_busy}
use Rattle.core_worker.proofs.accepting.is_busy.Given as goal

-- none so far has the key
abbrev pub invariant-loop-place : goal.invariant-loop-place
invariant-loop-place l = is_busy (drop l.place-index l.place-items) l.key ≡ is_busy l.place-items l.key
