-- What is kept by number of answers whose numbers differ.
use Rattle.std.proofs.Common.{◌≡◌, ◌⊎◌, inl, inr, ℕ, zero, suc, ◌<◌, ◌≤◌, List, [], ◌∷◌, ◌++◌, length, Option, Some, None, IsPermutation, Contains, get_or, slice_index_or, refl, sym, ◌∙◌, ap, subst, arith}
use Rattle.std.specs.Prelude.{slice_set}
use Rattle.std.proofs.lemmas.List.Sorted.{Contains-permutation}
use Rattle.store_image.specs.Facts.{In}
use Rattle.store_image.proofs.Clients.{in_front, in_back}
use Rattle.core_worker.specs.declared.types.Answer.{Answer}
use Rattle.answer_queue.specs.Accounts.{times, numbers, AreDistinct}
use Rattle.answer_queue.proofs.Clients.{once_here}
use Rattle.answer_cores.specs.Passes.{all_answers}
use Rattle.engine_core.specs.declared.types.Stamped.{Stamped}
use Rattle.engine_core.specs.Answers.{kept_at, stored}
use Rattle.thread_engine.specs.RanApart.{stamped}
use Rattle.thread_engine.specs.Windows.{EachChanges}
use Rattle.thread_engine.specs.Collected.{AreBlank, with_stamp, restamped}
use Rattle.thread_engine.proofs.KeptAnswers.{set_here, set_long, not_there}

-- one that is there has its number there
pub in_times : (a : Answer) (xs : List Answer) → In a xs → 0 < times a.number (numbers xs)
in_times a [] i = absurd i
in_times a (x ∷ xs) (inl e) = (let o = once_here a.number x.number (ap (λ (b : Answer). b.number) (sym e)) in omega (arith, o))
in_times a (x ∷ xs) (inr i) = (let r = in_times a xs i in omega (arith, r))

pub taken_kept : (outs : List Answer) (t : ℕ) (ys : List (Option Stamped)) → AreDistinct (numbers outs) → ((a : Answer) → In a outs → a.number < length ys) → (a : Answer) → In a outs → kept_at (stored outs t ys) a.number ≡ Some (stamped t a)
taken_kept [] t ys d low a i = absurd i
taken_kept (x ∷ xs) t ys d low a (inl e) =
    subst (λ (z : Answer). kept_at (stored xs t (slice_set ys x.number (Some (stamped t x)))) z.number ≡ Some (stamped t z)) (sym e)
    (not_there xs t x.number (slice_set ys x.number (Some (stamped t x))) (λ b j same. (let more = in_times b xs j in let two = d b.number in let o = once_here b.number x.number (sym same) in absurd (omega (arith, more, two, o)))) ∙ set_here ys x.number (Some (stamped t x)) (low x (inl refl)))
taken_kept (x ∷ xs) t ys d low a (inr i) =
    taken_kept xs t (slice_set ys x.number (Some (stamped t x))) (λ n. (let h = d n in omega (arith, h))) (λ b j. subst (λ n. b.number < n) (sym (set_long ys x.number (Some (stamped t x)))) (low b (inr j))) a i

in_either : (a : Answer) (xs ys : List Answer) → In a (xs ++ ys) → In a xs ⊎ In a ys
in_either a [] ys i = inr i
in_either a (x ∷ xs) ys (inl e) = inl (inl e)
in_either a (x ∷ xs) ys (inr i) = elim (in_either a xs ys i) [
  | inl h ↦ inl (inr h)
  | inr h ↦ inr h
]

-- an answer of one core is one of all, and the other way round
pub in_one : (outs : List (List Answer)) (a : Answer) → In a (all_answers outs) → (c : ℕ) × (c < length outs) × In a (slice_index_or outs c [])
in_one [] a i = absurd i
in_one (x ∷ xs) a i = elim (in_either a x (all_answers xs) i) [
  | inl h ↦ (0, omega arith, h)
  | inr h ↦ (let r = in_one xs a h in (suc r.0, (let l = r.1 in omega (arith, l)), r.2))
]

pub in_all : (outs : List (List Answer)) (c : ℕ) (a : Answer) → In a (slice_index_or outs c []) → In a (all_answers outs)
in_all [] c a i = i
in_all (x ∷ xs) zero a i = in_front a x (all_answers xs) i
in_all (x ∷ xs) (suc c) a i = in_back a x (all_answers xs) (in_all xs c a i)

-- In a list that is another one in another order.
pub in_order : (xs ys : List Answer) → IsPermutation xs ys → (a : Answer) → In a xs → In a ys
in_order xs ys p a i = in_of (a) ys (Contains-permutation xs ys a p (contains a xs i)) where
  contains : (a : Answer) (xs : List Answer) → In a xs → Contains xs a
  contains a [] i = absurd i
  contains a (x ∷ xs) (inl e) = (0, omega arith, sym e)
  contains a (x ∷ xs) (inr i) = (let r = contains a xs i in (suc r.0, (let l = r.1 in omega (arith, l)), r.2))

  at : (a : Answer) (ys : List Answer) (k : ℕ) → k < length ys → get_or ys k a ≡ a → In a ys
  at a [] k low e = absurd (omega (arith, low))
  at a (y ∷ ys) zero low e = inl (sym e)
  at a (y ∷ ys) (suc k) low e = inr (at a ys k (omega (arith, low)) e)

  in_of : (a : Answer) (ys : List Answer) → Contains ys a → In a ys
  in_of a ys c = at a ys c.0 c.1 c.2

-- what is kept, each answer with a later stamp
pub restamped_stored : (outs : List Answer) (s t : ℕ) (ys : List (Option Stamped)) → restamped t (stored outs s ys) ≡ stored outs t (restamped t ys)
restamped_stored [] s t ys = refl
restamped_stored (x ∷ xs) s t ys = restamped_stored xs s t (slice_set ys x.number (Some (stamped s x))) ∙ ap (stored xs t) (set_restamped ys x.number) where
  set_restamped : (ys : List (Option Stamped)) (i : ℕ) → restamped t (slice_set ys i (Some (stamped s x))) ≡ slice_set (restamped t ys) i (Some (stamped t x))
  set_restamped [] i = refl
  set_restamped (y ∷ ys) zero = refl
  set_restamped (y ∷ ys) (suc i) = ap (λ l. with_stamp t y ∷ l) (set_restamped ys i)

pub blank_restamped : (t : ℕ) (ys : List (Option Stamped)) → AreBlank ys → restamped t ys ≡ ys
blank_restamped t [] b = refl
blank_restamped t (y ∷ ys) b = (λ i. with_stamp t (b.0 i) ∷ blank_restamped t ys b.1 i) ∙ ap (λ o. o ∷ ys) (sym b.0)

pub restamped_long : (t : ℕ) (ys : List (Option Stamped)) → length (restamped t ys) ≡ length ys
restamped_long t [] = refl
restamped_long t (y ∷ ys) = ap suc (restamped_long t ys)

-- each was taken away
pub each_cleared : (a b : List (Option Stamped)) → EachChanges (λ x y. y ≡ None) a b → AreBlank b
each_cleared a [] C = tt
each_cleared [] (y ∷ ys) C = absurd (let n = C.count in omega (arith, n))
each_cleared (x ∷ xs) (y ∷ ys) C = (C.each 0 x (omega arith), each_cleared xs ys (record { count = (let n = C.count in omega (arith, n)); each = λ j d low. C.each (suc j) d (omega (arith, low)) }))
