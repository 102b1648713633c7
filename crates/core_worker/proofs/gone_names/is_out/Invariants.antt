use Rattle.std.proofs.Common.{◌≡◌}
use Rattle.std.specs.Prelude.{drop}
use Rattle.core_worker.specs.GoneNames.{is_out}
use Rattle.core_worker.proofs.gone_names.is_out.Given as goal

-- none so far is posted with the key
abbrev pub invariant-loop-place : goal.invariant-loop-place
invariant-loop-place l = is_out (drop l.place-index l.place-items) l.key ≡ is_out l.place-items l.key
