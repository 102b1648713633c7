-- What a report names stands in the order of the requests, and is an answer.
use Rattle.std.proofs.Common.{◌≡◌, ℕ, zero, suc, ◌+◌, ◌<◌, ◌≤◌, List, [], ◌∷◌, ◌++◌, map, refl, arith, true, false, Bool, cond, Option, Some, None}
use Rattle.std.specs.List.{AllByRecursion}
use Rattle.fs_model.specs.declared.model.Reply.{Reply}
use Rattle.engine_laws.specs.Engine.{Answer}
use Rattle.engine_laws.specs.Reports.{named_at, named_from}
use Rattle.flatstore_commands.specs.LastStates.{AreRising}

pub all_map : {A : Type 0} (P Q : A → Type 0) → ((x : A) → P x → Q x) → (xs : List A) → AllByRecursion P xs → AllByRecursion Q xs
all_map P Q f [] h = tt
all_map P Q f (x ∷ xs) h = (f x h.0, all_map P Q f xs h.1)

pub all_append : {A : Type 0} (P : A → Type 0) (xs ys : List A) → AllByRecursion P xs → AllByRecursion P ys → AllByRecursion P (xs ++ ys)
all_append P [] ys h k = k
all_append P (x ∷ xs) ys h k = (h.0, all_append P xs ys h.1 k)

pub all_mapped : {A B : Type 0} (g : A → B) (P : B → Type 0) (xs : List A) → AllByRecursion P (map g xs) → AllByRecursion (λ x. P (g x)) xs
all_mapped g P [] h = tt
all_mapped g P (x ∷ xs) h = (h.0, all_mapped g P xs h.1)

pub map_all : {A B : Type 0} (g : A → B) (P : B → Type 0) (xs : List A) → AllByRecursion (λ x. P (g x)) xs → AllByRecursion P (map g xs)
map_all g P [] h = tt
map_all g P (x ∷ xs) h = (h.0, map_all g P xs h.1)

module _ {X : Type 0} (test : Reply → Bool) (what : Answer → X) (ans : ℕ → Option Answer) where
  -- it is what an answer says, of a number from n on, below m
  pub record IsNamed (n m : ℕ) (y : ℕ × X) : Type 0 where
    pub answer : Answer
    pub is : ans y.0 ≡ Some answer
    pub what_is : what answer ≡ y.1
    pub low : n ≤ y.0
    pub high : y.0 < m

  wider : (n n' m m' : ℕ) → n' ≤ n → m ≤ m' → (y : ℕ × X) → IsNamed n m y → IsNamed n' m' y
  wider n n' m m' low high y h = record { answer = h.answer; is = h.is; what_is = h.what_is; low = let l = h.low in omega (arith, l, low); high = let k = h.high in omega (arith, k, high) }

  first_named : (n : ℕ) (o : Option Answer) → ans n ≡ o → AllByRecursion (IsNamed n (n + 1)) (named_at test what n o)
  first_named n None e = tt
  first_named n (Some a) e = by (test a.reply) where
    by : (b : Bool) → AllByRecursion (IsNamed n (n + 1)) (cond b ((n, what a) ∷ []) [])
    by true = (record { answer = a; is = e; what_is = refl; low = omega arith; high = omega arith }, tt)
    by false = tt

  pub all_named : (n count : ℕ) → AllByRecursion (IsNamed n (n + count)) (named_from test what ans n count)
  all_named n zero = tt
  all_named n (suc count) = all_append (IsNamed n (n + suc count)) (named_at test what n (ans n)) (named_from test what ans (n + 1) count)
      (all_map (IsNamed n (n + 1)) (IsNamed n (n + suc count)) (wider n n (n + 1) (n + suc count) (omega arith) (omega arith)) (named_at test what n (ans n)) (first_named n (ans n) refl))
      (all_map (IsNamed (n + 1) (n + 1 + count)) (IsNamed n (n + suc count)) (wider (n + 1) n (n + 1 + count) (n + suc count) (omega arith) (omega arith)) (named_from test what ans (n + 1) count) (all_named (n + 1) count))

  rising_on : (n : ℕ) (o : Option Answer) (ys : List (ℕ × X)) → AllByRecursion (λ (y : ℕ × X). n + 1 ≤ y.0) ys → AreRising (map (λ y. y.0) ys) → AreRising (map (λ y. y.0) (named_at test what n o ++ ys))
  rising_on n None ys low rest = rest
  rising_on n (Some a) ys low rest = by (test a.reply) where
    by : (b : Bool) → AreRising (map (λ y. y.0) (cond b ((n, what a) ∷ []) [] ++ ys))
    by true = (map_all (λ (y : ℕ × X). y.0) (λ m. n < m) ys (all_map (λ (y : ℕ × X). n + 1 ≤ y.0) (λ (y : ℕ × X). n < y.0) (λ y le. omega (arith, le)) ys low), rest)
    by false = rest

  pub rising : (n count : ℕ) → AreRising (map (λ y. y.0) (named_from test what ans n count))
  rising n zero = tt
  rising n (suc count) = rising_on n (ans n) (named_from test what ans (n + 1) count)
      (all_map (IsNamed (n + 1) (n + 1 + count)) (λ (y : ℕ × X). n + 1 ≤ y.0) (λ y h. h.low) (named_from test what ans (n + 1) count) (all_named (n + 1) count)) (rising (n + 1) count)
