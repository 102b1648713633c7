-- What a snapshot tells is what its region reads.
use Rattle.std.proofs.Common.{◌≡◌, ℕ, subst}
use Rattle.pm_region.specs.State.{State, IsTelling}
use Rattle.pm_region.specs.Words.{lasts}
use Rattle.pm_region.specs.Snapshots.{IsSnapshot}

pub by_view : (s : State) (word : ℕ → ℕ) (view : State) → IsSnapshot s word view → (P : (ℕ → ℕ) → Type 0) → (IsTelling view → P (lasts view)) → P word
by_view s word view V P told = let same : lasts view ≡ word = (λ i w. V.lasts_are w i) in subst P same (told V.telling)
