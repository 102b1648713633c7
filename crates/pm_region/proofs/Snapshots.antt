-- What a call of a snapshot says: nothing is told from then on.
use Rattle.std.proofs.Common.{◌≡◌, ℕ, ◌^◌, ◌<◌, refl, arith}
use Rattle.std.proofs.lemmas.Bool.Decides.{nat_tests}
use Rattle.pm_region.specs.Cell.{Cell}
use Rattle.pm_region.specs.State.{State, Goes, IsTold, IsTelling, counted}
use Rattle.pm_region.specs.Snapshots.{snapshot_state}

module _ (s : State) (word : ℕ → ℕ) (m n : ℕ) (rose : n ≡ counted m) (fits : m < 2 ^ 64) where
  first_moment : (k t : ℕ) → IsTold (snapshot_state s word k) t → t ≡ 0
  first_moment k t told = let says = told.says in grind (arith, nat_tests)

  silent : IsTelling (snapshot_state s word n) → ⊥
  silent telling = let zero = first_moment n n telling in omega (arith, rose, zero)

  pub goes_on : (change : ℕ → Cell → Cell) → Goes (snapshot_state s word m) (snapshot_state s word n) change
  goes_on change = record {
    frame = refl;
    faults = omega arith;
    later = omega (arith, rose, fits);
    rose = omega (arith, rose);
    keeps = λ t told. (let zero = first_moment m t told in record { says = told.says; since = told.since; seen = omega (arith, zero); below = told.below });
    same = λ t w told. refl;
    only = λ t told other. (let zero = first_moment n t told in record { says = told.says; since = told.since; seen = omega (arith, zero); below = told.below });
    was = λ telling. absurd (silent telling);
    now = λ w telling. absurd (silent telling);
  }
