-- Answers that were taken, window after window.
use Rattle.std.proofs.Common.{◌≡◌, ◌≢◌, ◌⊎◌, inl, inr, ℕ, zero, suc, ◌+◌, ◌<◌, ◌≤◌, List, [], ◌∷◌, ◌++◌, length, Option, Some, IsPermutation, slice_index_or, refl, sym, ◌∙◌, ap, subst, append-nil, append_assoc, arith}
use Rattle.std.specs.Prelude.{slice_set}
use Rattle.std.proofs.lemmas.List.Sorted.{IsPermutation-refl, IsPermutation-trans, IsPermutation-append_left, IsPermutation-append_right, IsPermutation-append_comm}
use Rattle.store_image.specs.Facts.{In}
use Rattle.core_worker.specs.declared.types.Answer.{Answer}
use Rattle.answer_queue.specs.Accounts.{times, numbers}
use Rattle.answer_queue.proofs.Clients.{times_append, numbers_append, once_there}
use Rattle.answer_cores.specs.Passes.{all_answers}
use Rattle.engine_core.specs.declared.types.Stamped.{Stamped}
use Rattle.engine_core.specs.Answers.{stored}
use Rattle.thread_engine.specs.Takings.{both_outs, TakenAs}

-- the answers of two windows, core by core, are those of the first and those of the second
swap_inner : {X : Type 0} (a b c d : List X) → IsPermutation ((a ++ b) ++ (c ++ d)) ((a ++ c) ++ (b ++ d))
swap_inner a b c d =
    subst (λ l. IsPermutation l ((a ++ c) ++ (b ++ d))) (sym (append_assoc a b (c ++ d)))
    (subst (λ l. IsPermutation (a ++ (b ++ (c ++ d))) l) (sym (append_assoc a c (b ++ d)))
    (IsPermutation-append_right a (b ++ (c ++ d)) (c ++ (b ++ d))
    (subst (λ l. IsPermutation l (c ++ (b ++ d))) (append_assoc b c d)
    (subst (λ l. IsPermutation ((b ++ c) ++ d) l) (append_assoc c b d)
    (IsPermutation-append_left d (b ++ c) (c ++ b) (IsPermutation-append_comm b c))))))

all_both : (xs ys : List (List Answer)) → IsPermutation (all_answers (both_outs xs ys)) (all_answers xs ++ all_answers ys)
all_both [] ys = IsPermutation-refl (all_answers ys)
all_both (x ∷ xs) [] = subst (IsPermutation (x ++ all_answers xs)) (sym (append-nil (x ++ all_answers xs))) (IsPermutation-refl (x ++ all_answers xs))
all_both (x ∷ xs) (y ∷ ys) = IsPermutation-trans _ _ _ (IsPermutation-append_right (x ++ y) (all_answers (both_outs xs ys)) (all_answers xs ++ all_answers ys) (all_both xs ys)) (swap_inner x y (all_answers xs) (all_answers ys))

pub outs_at : (xs ys : List (List Answer)) (c : ℕ) → slice_index_or (both_outs xs ys) c [] ≡ slice_index_or xs c [] ++ slice_index_or ys c []
outs_at [] ys c = refl
outs_at (x ∷ xs) [] c = sym (append-nil (slice_index_or (x ∷ xs) c []))
outs_at (x ∷ xs) (y ∷ ys) zero = refl
outs_at (x ∷ xs) (y ∷ ys) (suc c) = outs_at xs ys c

pub stored_on : (xs ys : List Answer) (t : ℕ) (kept : List (Option Stamped)) → stored (xs ++ ys) t kept ≡ stored ys t (stored xs t kept)
stored_on [] ys t kept = refl
stored_on (x ∷ xs) ys t kept = stored_on xs ys t (slice_set kept x.number (Some (record { reply = x.reply; refusal = x.refusal; stamp = t })))

pub both_long : (n : ℕ) (xs ys : List (List Answer)) → length xs ≤ n → length ys ≤ n → length (both_outs xs ys) ≤ n
both_long n [] ys less more = more
both_long n (x ∷ xs) [] less more = less
both_long zero (x ∷ xs) (y ∷ ys) less more = absurd (omega (arith, less))
both_long (suc n) (x ∷ xs) (y ∷ ys) less more = (let rest = both_long n xs ys (omega (arith, less)) (omega (arith, more)) in omega (arith, rest))

-- a number that none of them has
none_times : (n : ℕ) (xs : List Answer) → ((a : Answer) → In a xs → a.number ≢ n) → times n (numbers xs) ≡ 0
none_times n [] h = refl
none_times n (x ∷ xs) h = (let rest = none_times n xs (λ a i. h a (inr i)) in let here = once_there n x.number (h x (inl refl)) in omega (arith, rest, here))

in_both : (a : Answer) (xs ys : List Answer) → In a (xs ++ ys) → In a xs ⊎ In a ys
in_both a [] ys i = inr i
in_both a (x ∷ xs) ys (inl e) = inl (inl e)
in_both a (x ∷ xs) ys (inr i) = elim (in_both a xs ys i) [
  | inl h ↦ inl (inr h)
  | inr h ↦ inr h
]

below_or : (k n : ℕ) → (k < n) ⊎ (n ≤ k)
below_or zero zero = inr (omega arith)
below_or zero (suc n) = inl (omega arith)
below_or (suc k) zero = inr (omega arith)
below_or (suc k) (suc n) = elim (below_or k n) [
  | inl h ↦ inl (omega (arith, h))
  | inr h ↦ inr (omega (arith, h))
]

pub nothing_taken : (t n m : ℕ) (kept : List (Option Stamped)) → TakenAs t n m [] kept kept
nothing_taken t n m kept = record { taken = []; all = IsPermutation-refl []; distinct = λ m. omega arith; within = λ a i. absurd i; kept = refl }

-- no number is at or above a later one
pub taken_below : (t n m k : ℕ) (outs : List (List Answer)) (a b : List (Option Stamped)) → m ≤ k → TakenAs t n m outs a b → TakenAs t n k outs a b
taken_below t n m k outs a b high T = record {
  taken = T.taken;
  all = T.all;
  distinct = T.distinct;
  within = λ x i. (let w = T.within x i in let low = w.0 in let less = w.1 in (low, omega (arith, less, high)));
  kept = T.kept;
}

-- a window more
pub more_taken : (t l n m : ℕ) (xs ys : List (List Answer)) (a b d : List (Option Stamped)) → l ≤ n → n ≤ m → TakenAs t l n xs a b → TakenAs t n m ys b d → TakenAs t l m (both_outs xs ys) a d
more_taken t l n m xs ys a b d low high S T = record {
  taken = S.taken ++ T.taken;
  all = IsPermutation-trans _ _ _ (all_both xs ys) (IsPermutation-trans _ _ _ (IsPermutation-append_left (all_answers ys) (all_answers xs) S.taken S.all) (IsPermutation-append_right S.taken (all_answers ys) T.taken T.all));
  distinct = λ k. distinct k (below_or k n);
  within = λ x i. within x (in_both x S.taken T.taken i);
  kept = T.kept ∙ ap (stored T.taken t) S.kept ∙ sym (stored_on S.taken T.taken t a);
} where
  within : (x : Answer) → In x S.taken ⊎ In x T.taken → (l ≤ x.number) × (x.number < m)
  within x (inl h) = (let w = S.within x h in let p = w.0 in let q = w.1 in (p, omega (arith, q, high)))
  within x (inr h) = (let w = T.within x h in let p = w.0 in let q = w.1 in (omega (arith, p, low), q))

  sum : (k : ℕ) → times k (numbers (S.taken ++ T.taken)) ≡ times k (numbers S.taken) + times k (numbers T.taken)
  sum k = ap (times k) (numbers_append S.taken T.taken) ∙ times_append k (numbers S.taken) (numbers T.taken)

  distinct : (k : ℕ) → (k < n) ⊎ (n ≤ k) → times k (numbers (S.taken ++ T.taken)) ≤ 1
  distinct k (inl less) = (let none = none_times k T.taken (λ x i e. (let w = (T.within x i).0 in omega (arith, w, e, less))) in let s = sum k in let one = S.distinct k in omega (arith, none, s, one))
  distinct k (inr more) = (let none = none_times k S.taken (λ x i e. (let w = (S.within x i).1 in omega (arith, w, e, more))) in let s = sum k in let one = T.distinct k in omega (arith, none, s, one))
