use Rattle.std.proofs.Common.{◌≡◌, ℕ, ◌+◌, ◌≤◌, ◌<◌}
use Rattle.pm_region.specs.State.{IsTelling}
use Rattle.pm_region.specs.Words.{lasts}
use Rattle.core_log.proofs.walking.skip_zeros.Given as goal

abbrev pub invariant-loop-i : goal.invariant-loop-i
invariant-loop-i g l = IsTelling (g.R.Region.state l.region) → (k : ℕ) → l.place ≤ k → k < l.i → lasts (g.R.Region.state l.region) (l.first + k) ≡ 0
