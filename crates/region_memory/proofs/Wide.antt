-- Words stay below 2^64.
use Rattle.std.proofs.Common.{◌≡◌, ◌⊎◌, inl, inr, ⊎_elim, ℕ, ◌+◌, ◌-◌, ◌^◌, ◌≤◌, ◌<◌, List, length, get_or, set, length-set, sym, ◌∙◌, ap, subst, arith}
use Rattle.std.proofs.lemmas.Bool.{cases_eq, cases_lt}
use Rattle.std.proofs.lemmas.List.{get_or-set_same, get_or-set_other}

abbrev pub Wide : List ℕ → Type 0
Wide words = (k : ℕ) → k < length words → get_or words k 0 < 2 ^ 64

pub wide_set : (words : List ℕ) (at value : ℕ) → at < length words → value < 2 ^ 64 → Wide words → Wide (set words at value)
wide_set words at value within fits wide k lt = ⊎_elim
    (λ e. subst (λ (x : ℕ). x < 2 ^ 64) (sym (ap (λ (j : ℕ). get_or (set words at value) j 0) e ∙ get_or-set_same words at value 0 within)) fits)
    (λ ne. subst (λ (x : ℕ). x < 2 ^ 64) (sym (get_or-set_other words at k value 0 ne)) (wide k (omega (arith, lt, length-set words at value))))
    (cases_eq k at)

-- a part of wide words
pub wide_part : (words part : List ℕ) (low : ℕ) → low + length part ≤ length words → ((k : ℕ) → k < length part → get_or part k 0 ≡ get_or words (low + k) 0) → Wide words → Wide part
wide_part words part low within same wide k lt = subst (λ (x : ℕ). x < 2 ^ 64) (sym (same k lt)) (wide (low + k) (omega arith))

-- words with others written over a part of them
pub wide_over : (words part words' : List ℕ) (low : ℕ) → low + length part ≤ length words → length words' ≡ length words
    → ((k : ℕ) → k < length part → get_or words' (low + k) 0 ≡ get_or part k 0)
    → ((k : ℕ) → (k < low) ⊎ (low + length part ≤ k) → get_or words' k 0 ≡ get_or words k 0)
    → Wide words → Wide part → Wide words'
wide_over words part words' low within same inner outer wide wide_part k lt = ⊎_elim (λ below. out (inl below)) (λ ge. ⊎_elim (λ here. in_part ge here) (λ past. out (inr past)) (cases_lt k (low + length part))) (cases_lt k low)
  where
    out : (k < low) ⊎ (low + length part ≤ k) → get_or words' k 0 < 2 ^ 64
    out apart = subst (λ (x : ℕ). x < 2 ^ 64) (sym (outer k apart)) (wide k (omega arith))

    in_part : low ≤ k → k < low + length part → get_or words' k 0 < 2 ^ 64
    in_part ge here =
        let place : low + (k - low) ≡ k = omega arith in
        subst (λ (x : ℕ). x < 2 ^ 64) (sym (ap (λ (j : ℕ). get_or words' j 0) (sym place) ∙ inner (k - low) (omega arith))) (wide_part (k - low) (omega arith))
