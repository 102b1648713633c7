-- Items of a list that are changed one after another.
use Rattle.std.proofs.Common.{◌≡◌, ◌≢◌, ◌⊎◌, inl, inr, ℕ, ◌+◌, ◌<◌, ◌≤◌, List, length, slice_index_or, slice_set, refl, sym, ◌∙◌, subst, arith}
use Rattle.std.proofs.lemmas.Bool.{cases_eq}
use Rattle.thread_engine.specs.Windows.{EachChanges}
use Rattle.thread_engine.proofs.Deals.{set_count, set_here, set_other}

-- The first n were changed so, and the others are as they were.
pub record ChangedBelow {X : Type 0} (R : X → X → Type 0) (n : ℕ) (old new : List X) : Type 0 where
  pub count : length new ≡ length old
  pub below : (i : ℕ) (d : X) → i < length old → i < n → R (slice_index_or old i d) (slice_index_or new i d)
  pub behind : (i : ℕ) (d : X) → i < length old → n ≤ i → slice_index_or new i d ≡ slice_index_or old i d

module _ {X : Type 0} (R : X → X → Type 0) where
  pub none_changed : (xs : List X) → ChangedBelow R 0 xs xs
  none_changed xs = record { count = refl; below = λ i d low less. absurd (omega (arith, less)); behind = λ i d low more. refl }

  -- one more of them
  pub next_changed : (n : ℕ) (a b : List X) (x : X) → n < length a → ChangedBelow R n a b → ((d : X) → R (slice_index_or b n d) x) → ChangedBelow R (n + 1) a (slice_set b n x)
  next_changed n a b x there C one = record {
    count = set_count b n x ∙ C.count;
    below = λ i d low less. below i d low less (cases_eq i n);
    behind = λ i d low more. set_other b n i x d (λ e. (let z : i ≡ n = e in omega (arith, z, more))) ∙ C.behind i d low (omega (arith, more));
  } where
    below : (i : ℕ) (d : X) → i < length a → i < n + 1 → (i ≡ n) ⊎ (i ≢ n) → R (slice_index_or a i d) (slice_index_or (slice_set b n x) i d)
    below i d low less (inl same) = subst (λ m. R (slice_index_or a m d) (slice_index_or (slice_set b n x) m d)) (sym same)
        (subst (R (slice_index_or a n d)) (sym (set_here b n x d (let k = C.count in omega (arith, there, k))))
        (subst (λ (y : X). R y x) (C.behind n d there (omega arith)) (one d)))
    below i d low less (inr ne) = subst (R (slice_index_or a i d)) (sym (set_other b n i x d ne))
        (C.below i d low (omega (arith, less, ne)))

  pub all_changed : (n : ℕ) (a b : List X) → length a ≤ n → ChangedBelow R n a b → EachChanges R a b
  all_changed n a b all C = record { count = C.count; each = λ i d low. C.below i d low (omega (arith, low, all)) }
