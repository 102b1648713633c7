-- Laws of the causes of refusals and of the last versions.
use Rattle.std.proofs.Common.{◌≡◌, inl, inr, ℕ, ◌+◌, ◌≤◌, List, [], ◌∷◌, ◌++◌, Bool, true, false, cond, refl, arith}
use Rattle.std.specs.List.{AllByRecursion}
use Rattle.fs_model.specs.declared.model.Request.{Request}
use Rattle.fs_model.specs.declared.model.Reply.{Reply}
use Rattle.fs_model.specs.declared.model.Reply.TheVariants.{Full}
use Rattle.fs_model.specs.Lawful.{is_finish}
use Rattle.chunk_map.specs.declared.layouts.Geometry.{Geometry}
use Rattle.engine_laws.specs.FreeStock.{Stock, IsAtLeast, LacksRoom}
use Rattle.engine_laws.specs.RefusalCauses.{raised, raised_by, HaveCauses, Refuses}

pub raised_up : (r : Reply) (a b : ℕ) → a ≤ b → raised a r ≤ raised b r
raised_up r a b le = by (is_finish r) where
  by : (t : Bool) → cond {A = ℕ} t (a + 1) a ≤ cond {A = ℕ} t (b + 1) b
  by true = omega (arith, le)
  by false = le

-- no reply lowers it
pub raised_low : (r : Reply) (a : ℕ) → a ≤ raised a r
raised_low r a = by (is_finish r) where
  by : (t : Bool) → a ≤ cond {A = ℕ} t (a + 1) a
  by true = omega arith
  by false = omega arith

pub raised_by_up : (xs : List (Request × Reply)) (a b : ℕ) → a ≤ b → raised_by a xs ≤ raised_by b xs
raised_by_up [] a b le = le
raised_by_up (x ∷ xs) a b le = raised_by_up xs (raised a x.1) (raised b x.1) (raised_up x.1 a b le)

pub raised_by_low : (xs : List (Request × Reply)) (a : ℕ) → a ≤ raised_by a xs
raised_by_low [] a = omega arith
raised_by_low (x ∷ xs) a = let one = raised_low x.1 a in let more = raised_by_low xs (raised a x.1) in omega (arith, one, more)

pub raised_append : (a : ℕ) (xs ys : List (Request × Reply)) → raised_by a (xs ++ ys) ≡ raised_by (raised_by a xs) ys
raised_append a [] ys = refl
raised_append a (x ∷ xs) ys = raised_append (raised a x.1) xs ys

pub causes_up : (l : Geometry) (a b : ℕ) (xs : List (Request × Reply)) → a ≤ b → HaveCauses l a xs → HaveCauses l b xs
causes_up l a b [] le h = tt
causes_up l a b (x ∷ xs) le h = (
  record { spent = λ is. (let most = h.0.spent is in omega (arith, most, le)); long = h.0.long },
  causes_up l (raised a x.1) (raised b x.1) xs (raised_up x.1 a b le) h.1,
)

pub causes_append : (l : Geometry) (a : ℕ) (xs ys : List (Request × Reply)) → HaveCauses l a xs → HaveCauses l (raised_by a xs) ys → HaveCauses l a (xs ++ ys)
causes_append l a [] ys h k = k
causes_append l a (x ∷ xs) ys h k = (h.0, causes_append l (raised a x.1) xs ys h.1 k)

-- who has less lacks room too
pub lacks_less : (l : Geometry) (s t : Stock) (q : Request) → IsAtLeast s t → LacksRoom l t q → LacksRoom l s q
lacks_less l s t q A (inl few) = inl (let less = A.chunks in omega (arith, few, less))
lacks_less l s t q A (inr none) = inr (
  let less = A.chunks in let few = none.0 in omega (arith, few, less),
  record { class = none.1.class; needs = none.1.needs; none = (let less = A.blocks none.1.class in let zero = none.1.none in omega (arith, less, zero)) },
)

pub full_less : (l : Geometry) (s t : Stock) (xs : List (Request × Reply)) → IsAtLeast s t → AllByRecursion (λ (x : Request × Reply). x.1 ≡ Full → LacksRoom l t x.0) xs → AllByRecursion (λ (x : Request × Reply). x.1 ≡ Full → LacksRoom l s x.0) xs
full_less l s t [] A h = tt
full_less l s t (x ∷ xs) A h = (λ is. lacks_less l s t x.0 A (h.0 is), full_less l s t xs A h.1)

pub refuses_less : (l : Geometry) (s t : Stock) (a b : ℕ) (xs : List (Request × Reply)) → IsAtLeast s t → Refuses l t a b xs → Refuses l s a b xs
refuses_less l s t a b xs A R = record { causes = R.causes; full = full_less l s t xs A R.full; last_now = R.last_now }

-- nothing was answered
pub quiet_refuses : (l : Geometry) (s : Stock) (a b : ℕ) → b ≤ a → Refuses l s a b []
quiet_refuses l s a b le = record { causes = tt; full = tt; last_now = le }

pub at_least_same : (s : Stock) → IsAtLeast s s
at_least_same s = record { chunks = omega arith; lines = omega arith; blocks = λ c. omega arith }
