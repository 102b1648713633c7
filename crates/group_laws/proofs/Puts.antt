-- Cases of an update at one place.
use Rattle.std.proofs.Common.{◌≡◌, ℕ, Bool, true, false, cond, ◌&&◌, eqb, List, [], ◌∷◌, ◌++◌, ◌⊎◌, inl, inr, arith, refl}
use Rattle.std.proofs.lemmas.Bool.{eqb-true, eqb-false, eq-eqb, and_parts, and_from}
use Rattle.store_image.specs.Facts.{In}

-- where a choice has P, its test tells which side has it
pub cond_cases : {X : Type 0} (P : X → Type 0) (b : Bool) (x y : X) → P (cond b x y) → ((b ≡ true) × P x) ⊎ ((b ≡ false) × P y)
cond_cases P true x y p = inl (refl, p)
cond_cases P false x y p = inr (refl, p)

pub cond_into : {X : Type 0} (P : X → Type 0) (b : Bool) (x y : X) → (b ≡ true → P x) → (b ≡ false → P y) → P (cond b x y)
cond_into P true x y p q = p refl
cond_into P false x y p q = q refl

-- what holds at n after a write at m holds of what was written, at m, or held before
pub if_cases : {X : Type 0} (P : X → Type 0) (m : ℕ) (x y : X) (n : ℕ) → P (cond (eqb n m) x y) → ((n ≡ m) × P x) ⊎ ((n ≡ m → ⊥) × P y)
if_cases P m x y n p = elim (cond_cases P (eqb n m) x y p) [ inl q ↦ inl (eqb-true n m q.0, q.1) | inr q ↦ inr (eqb-false n m q.0, q.1) ]

pub if_into : {X : Type 0} (P : X → Type 0) (m : ℕ) (x y : X) (n : ℕ) → (n ≡ m → P x) → ((n ≡ m → ⊥) → P y) → P (cond (eqb n m) x y)
if_into P m x y n p q = cond_into P (eqb n m) x y (λ e. p (eqb-true n m e)) (λ e. q (eqb-false n m e))

not_both : (a b : Bool) → (a && b) ≡ false → a ≡ true → b ≡ true → ⊥
not_both a b e p q = grind (arith, and_from)

pub if2_cases : {X : Type 0} (P : X → Type 0) (m s : ℕ) (x y : X) (n t : ℕ) → P (cond (eqb n m && eqb t s) x y) → ((n ≡ m) × (t ≡ s) × P x) ⊎ (((n ≡ m) → (t ≡ s) → ⊥) × P y)
if2_cases P m s x y n t p =
    elim (cond_cases P (eqb n m && eqb t s) x y p) [
      | inl q ↦ let both = and_parts (eqb n m) (eqb t s) q.0 in inl (eqb-true n m both.0, eqb-true t s both.1, q.1)
      | inr q ↦ inr (λ a b. not_both (eqb n m) (eqb t s) q.0 (eq-eqb n m a) (eq-eqb t s b), q.1)
    ]

pub if2_into : {X : Type 0} (P : X → Type 0) (m s : ℕ) (x y : X) (n t : ℕ) → ((n ≡ m) → (t ≡ s) → P x) → (((n ≡ m) → (t ≡ s) → ⊥) → P y) → P (cond (eqb n m && eqb t s) x y)
if2_into P m s x y n t p q =
    cond_into P (eqb n m && eqb t s) x y
    (λ e. let both = and_parts (eqb n m) (eqb t s) e in p (eqb-true n m both.0) (eqb-true t s both.1))
    (λ e. q (λ a b. not_both (eqb n m) (eqb t s) e (eq-eqb n m a) (eq-eqb t s b)))

pub if3_cases : {X : Type 0} (P : X → Type 0) (m a s : ℕ) (x y : X) (h n t : ℕ) → P (cond (eqb h m && (eqb n a && eqb t s)) x y) → ((h ≡ m) × (n ≡ a) × (t ≡ s) × P x) ⊎ (((h ≡ m) → (n ≡ a) → (t ≡ s) → ⊥) × P y)
if3_cases P m a s x y h n t p =
    elim (cond_cases P (eqb h m && (eqb n a && eqb t s)) x y p) [
      | inl q ↦ let one = and_parts (eqb h m) (eqb n a && eqb t s) q.0 in let two = and_parts (eqb n a) (eqb t s) one.1 in inl (eqb-true h m one.0, eqb-true n a two.0, eqb-true t s two.1, q.1)
      | inr q ↦ inr (λ i j k. not_both (eqb h m) (eqb n a && eqb t s) q.0 (eq-eqb h m i) (and_from (eqb n a) (eqb t s) (eq-eqb n a j) (eq-eqb t s k)), q.1)
    ]

pub if3_into : {X : Type 0} (P : X → Type 0) (m a s : ℕ) (x y : X) (h n t : ℕ) → ((h ≡ m) → (n ≡ a) → (t ≡ s) → P x) → (((h ≡ m) → (n ≡ a) → (t ≡ s) → ⊥) → P y) → P (cond (eqb h m && (eqb n a && eqb t s)) x y)
if3_into P m a s x y h n t p q =
    cond_into P (eqb h m && (eqb n a && eqb t s)) x y
    (λ e. let one = and_parts (eqb h m) (eqb n a && eqb t s) e in let two = and_parts (eqb n a) (eqb t s) one.1 in p (eqb-true h m one.0) (eqb-true n a two.0) (eqb-true t s two.1))
    (λ e. q (λ i j k. not_both (eqb h m) (eqb n a && eqb t s) e (eq-eqb h m i) (and_from (eqb n a) (eqb t s) (eq-eqb n a j) (eq-eqb t s k))))

pub In-append : {X : Type 0} (x : X) (xs ys : List X) → In x (xs ++ ys) → In x xs ⊎ In x ys
In-append x [] ys i = inr i
In-append x (y ∷ xs) ys (inl e) = inl (inl e)
In-append x (y ∷ xs) ys (inr i) = elim (In-append x xs ys i) [ inl j ↦ inl (inr j) | inr j ↦ inr j ]

pub In-append_left : {X : Type 0} (x : X) (xs ys : List X) → In x xs → In x (xs ++ ys)
In-append_left x [] ys i = absurd i
In-append_left x (y ∷ xs) ys (inl e) = inl e
In-append_left x (y ∷ xs) ys (inr i) = inr (In-append_left x xs ys i)

pub In-append_right : {X : Type 0} (x : X) (xs ys : List X) → In x ys → In x (xs ++ ys)
In-append_right x [] ys i = i
In-append_right x (y ∷ xs) ys i = inr (In-append_right x xs ys i)

pub In-push : {X : Type 0} (x y : X) (xs : List X) → In x (xs ++ y ∷ []) → (x ≡ y) ⊎ In x xs
In-push x y xs i = elim (In-append x xs (y ∷ []) i) [ inl j ↦ inr j | inr j ↦ elim j [ inl e ↦ inl e | inr n ↦ absurd n ] ]
