-- A file that was begun beside another, and was given up.
use Rattle.std.proofs.Common.{◌≡◌, ◌⊎◌, inl, inr, ⊎_elim, ℕ, ◌*◌, List, [], ◌∷◌, replicate, ◌∙◌, ap, subst}
use Rattle.region_file.specs.Calls.{Call, wrote, emptied, synced, removed, IsStartOf}
use Rattle.region_file.specs.Filed.{beside, filling, HasStopped, HasFailed, IsGivenUp, IsNotMade}

start_of : (path : List ℕ) (count : ℕ) (m : List Call)
    → (m ≡ emptied (beside path) ∷ []) ⊎ (m ≡ wrote 0 (replicate (8 * count) 0) ∷ emptied (beside path) ∷ []) ⊎ (m ≡ synced ∷ wrote 0 (replicate (8 * count) 0) ∷ emptied (beside path) ∷ [])
    → IsStartOf (filling path count) m
start_of path count m which = ⊎_elim (λ e. inr (inr (inl e))) (λ rest. ⊎_elim (λ e. inr (inl e)) (λ e. inl e) rest) which

given_up : (path : List ℕ) (count : ℕ) (made : List Call) → (stopped : List Call) → HasStopped (replicate (8 * count) 0) (emptied (beside path) ∷ []) stopped → made ≡ removed (beside path) ∷ stopped
    → IsGivenUp path count made
given_up path count made stopped has is = record {
  calls = has.0;
  start = start_of path count has.0 has.2;
  removed_last = is ∙ ap (λ (l : List Call). removed (beside path) ∷ l) has.1;
}

not_made : (path : List ℕ) (count : ℕ) (made : List Call) → HasFailed path (beside path) (replicate (8 * count) 0) (emptied (beside path) ∷ []) made → IsNotMade path count made
not_made path count made failed_so = record { ways = ⊎_elim (λ s. inr (inr (inl (given_up path count made s.0 s.1 s.2)))) (λ e. inr (inr (inr e))) failed_so }

-- by whatever names the parts go
pub not_made_so : (path : List ℕ) (count : ℕ) (own bytes : List ℕ) (before made : List Call) → own ≡ beside path → bytes ≡ replicate (8 * count) 0 → before ≡ emptied own ∷ []
    → HasFailed path own bytes before made → IsNotMade path count made
not_made_so path count own bytes before made own_is bytes_is before_is failed_so =
    not_made path count made
    (subst (λ (b : List Call). HasFailed path (beside path) (replicate (8 * count) 0) b made) (before_is ∙ ap (λ (o : List ℕ). emptied o ∷ []) own_is)
    (subst (λ (z : List ℕ). HasFailed path (beside path) z before made) bytes_is
    (subst (λ (o : List ℕ). HasFailed path o bytes before made) own_is failed_so)))
