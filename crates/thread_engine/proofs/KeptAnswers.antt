-- What is kept by number of answers.
use Rattle.std.proofs.Common.{◌≡◌, ◌≢◌, ◌⊎◌, inl, inr, ℕ, zero, suc, ◌<◌, List, [], ◌∷◌, length, Option, Some, None, refl, sym, ◌∙◌, ap, subst, arith}
use Rattle.std.specs.Prelude.{slice_set}
use Rattle.std.proofs.lemmas.Bool.{cases_eq}
use Rattle.store_image.specs.Facts.{In}
use Rattle.engine_laws.specs.WorkerMoves.{Fixed}
use Rattle.core_worker.specs.declared.types.Answer.{Answer}
use Rattle.core_worker.specs.Answering.{IsGiven, AreGiven}
use Rattle.engine_core.specs.declared.types.Stamped.{Stamped}
use Rattle.engine_core.specs.Answers.{kept_at, stored}
use Rattle.thread_engine.specs.Collected.{AreBlank}
use Rattle.thread_engine.specs.RanApart.{stamped}

-- a place that is set, and another one
pub set_here : (ys : List (Option Stamped)) (i : ℕ) (x : Option Stamped) → i < length ys → kept_at (slice_set ys i x) i ≡ x
set_here [] i x low = absurd (omega (arith, low))
set_here (y ∷ ys) zero x low = refl
set_here (y ∷ ys) (suc i) x low = set_here ys i x (omega (arith, low))

set_other : (ys : List (Option Stamped)) (i n : ℕ) (x : Option Stamped) → i ≢ n → kept_at (slice_set ys i x) n ≡ kept_at ys n
set_other [] i n x ne = refl
set_other (y ∷ ys) zero zero x ne = absurd (ne refl)
set_other (y ∷ ys) zero (suc n) x ne = refl
set_other (y ∷ ys) (suc i) zero x ne = refl
set_other (y ∷ ys) (suc i) (suc n) x ne = set_other ys i n x (λ e. ne (ap suc e))

pub set_long : (ys : List (Option Stamped)) (i : ℕ) (x : Option Stamped) → length (slice_set ys i x) ≡ length ys
set_long [] i x = refl
set_long (y ∷ ys) zero x = refl
set_long (y ∷ ys) (suc i) x = (let r = set_long ys i x in omega (arith, r))

pub stored_long : (outs : List Answer) (t : ℕ) (ys : List (Option Stamped)) → length (stored outs t ys) ≡ length ys
stored_long [] t ys = refl
stored_long (a ∷ outs) t ys = stored_long outs t (slice_set ys a.number (Some (stamped t a))) ∙ set_long ys a.number (Some (stamped t a))

-- none of these has the number
abbrev pub Lacks : ℕ → List Answer → Type 0
Lacks n outs = (a : Answer) → In a outs → a.number ≢ n

pub not_there : (outs : List Answer) (t n : ℕ) (ys : List (Option Stamped)) → Lacks n outs → kept_at (stored outs t ys) n ≡ kept_at ys n
not_there [] t n ys h = refl
not_there (a ∷ outs) t n ys h = not_there outs t n (slice_set ys a.number (Some (stamped t a))) (λ b i. h b (inr i)) ∙ set_other ys a.number n (Some (stamped t a)) (h a (inl refl))

-- an answer that was given, with what was fixed, and the other way round
pub given_for : (K : Type 0) (fs : List Fixed) (outs : List Answer) → AreGiven K fs outs → (y : Fixed) → In y fs → (a : Answer) × In a outs × IsGiven K y a
given_for K [] outs g y i = absurd i
given_for K (x ∷ xs) [] g y i = absurd g
given_for K (x ∷ xs) (a ∷ outs) g y (inl e) = (a, inl refl, subst (λ (z : Fixed). IsGiven K z a) (sym e) g.0)
given_for K (x ∷ xs) (a ∷ outs) g y (inr i) = (let r = given_for K xs outs g.1 y i in (r.0, inr r.1, r.2))

pub fixed_for : (K : Type 0) (fs : List Fixed) (outs : List Answer) → AreGiven K fs outs → (a : Answer) → In a outs → (y : Fixed) × In y fs × IsGiven K y a
fixed_for K [] [] g a i = absurd i
fixed_for K [] (b ∷ bs) g a i = absurd g
fixed_for K (x ∷ xs) [] g a i = absurd i
fixed_for K (x ∷ xs) (b ∷ bs) g a (inl e) = (x, inl refl, subst (λ (z : Answer). IsGiven K x z) (sym e) g.0)
fixed_for K (x ∷ xs) (b ∷ bs) g a (inr i) = (let r = fixed_for K xs bs g.1 a i in (r.0, inr r.1, r.2))

-- what is kept was answered, or was there
pub from_one : (outs : List Answer) (t n : ℕ) (ys : List (Option Stamped)) (y : Stamped) → kept_at (stored outs t ys) n ≡ Some y → ((a : Answer) × In a outs × (a.number ≡ n)) ⊎ (kept_at ys n ≡ Some y)
from_one [] t n ys y e = inr e
from_one (a ∷ outs) t n ys y e = elim (from_one outs t n (slice_set ys a.number (Some (stamped t a))) y e) [
  | inl there ↦ inl (there.0, inr there.1, there.2)
  | inr before ↦ elim (cases_eq a.number n) [
    | inl same ↦ inl (a, inl refl, same)
    | inr ne ↦ inr (sym (set_other ys a.number n (Some (stamped t a)) ne) ∙ before)
  ]
]

pub blank_none : (ys : List (Option Stamped)) (n : ℕ) → AreBlank ys → kept_at ys n ≡ None
blank_none [] n b = refl
blank_none (y ∷ ys) zero b = b.0
blank_none (y ∷ ys) (suc n) b = blank_none ys n b.1
