-- A region that was asked whether it is in its place says what it said before, but for its counts.
use Rattle.std.proofs.Common.{◌≡◌, ◌<◌, ◌^◌, Result, Ok, Err, refl, ap, subst, sym, arith}
use Rattle.std.specs.Result.{IsErrAnd}
use Rattle.pm_region.specs.State.{State, counted}
use Rattle.pm_region.specs.Split.{Stays, Refuses, IsRevalidated, IsOutOfPlace}
use Rattle.pm_region.specs.declared.split.AttachError.{AttachError}
use Rattle.pm_region.specs.declared.split.AttachError.TheVariants as errors
use Rattle.thread_engine.specs.Outlets.{IsAsked}

pub asked_there : (s t : State) → IsRevalidated s t → IsAsked s t
asked_there s t e = subst (IsAsked s) (sym e) (record { stays = same; opens = refl; refusals = refl; later = omega arith }) where
  same : Stays s (record s { frame = record s.frame { validations = counted s.frame.validations } })
  same = record { first = refl; words = refl; since = refl; bytes = refl; parted = refl; cuts = refl; stamp = refl; told = λ n. refl; cells = λ n w. refl }

-- a count that was read has a value of its type, so one that rose did not fall
pub asked_astray : (s t : State) → s.faults < 2 ^ 64 → IsOutOfPlace s t → IsAsked s t
asked_astray s t small L = record {
  stays = subst (Stays s) (sym L.else_same) same;
  opens = ap (λ (z : State). z.frame.opens) L.else_same;
  refusals = ap (λ (z : State). z.frame.refusals) L.else_same;
  later = (let f = L.faulted in omega (arith, f, small));
} where
  same : Stays s (record s { faults = t.faults })
  same = record { first = refl; words = refl; since = refl; bytes = refl; parted = refl; cuts = refl; stamp = refl; told = λ n. refl; cells = λ n w. refl }

-- a refusal of one call is one of the other
pub as_err : {A B : Type 0} (s t : State) (e : AttachError) → Refuses {T = A} s t (Err e) → Refuses {T = B} s t (Err e)
as_err s t e R = record {
  later = R.later;
  fault = λ is. R.fault (let q : e ≡ errors.RegionFault = cc is in ap Err q);
  else_same = λ no_. R.else_same (λ is. no_ (let q : e ≡ errors.RegionFault = cc is in ap Err q));
  no_fall = R.no_fall;
}

-- and so is one that was passed on
pub as_passed : {A B : Type 0} (s t : State) (e : AttachError) → Refuses {T = A} s t (Err e) → (r : Result B AttachError) → IsErrAnd r (λ x. x ≡ e) → Refuses s t r
as_passed s t e R (Ok b) is = absurd is
as_passed {A} {B} s t e R (Err x) is = subst (λ (y : AttachError). Refuses {T = B} s t (Err y)) (sym is) (as_err {A = A} {B = B} s t e R)

pub as_ok : {A B : Type 0} (s t : State) (a : A) (b : B) → Refuses {T = A} s t (Ok a) → Refuses {T = B} s t (Ok b)
as_ok s t a b R = record {
  later = R.later;
  fault = λ is. absurd (cc is);
  else_same = λ no_. R.else_same (λ is. cc is);
  no_fall = R.no_fall;
}
