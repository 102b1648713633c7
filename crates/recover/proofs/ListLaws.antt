-- Lists with one more at the end, and what is found in them.
use Rattle.std.proofs.Common.{◌≡◌, inl, inr, ℕ, zero, suc, ◌<◌, length, get_or, arith, List, [], ◌∷◌, ◌++◌, ◌||◌, Bool, true, false, cond, Option, Some, None, refl, sym, ◌∙◌, ap}
use Rattle.std.specs.Prelude.{find}
use Rattle.std.specs.List.{list_any, AllByRecursion}
use Rattle.store_image.specs.Facts.{In}

-- the first answer, or the second
abbrev pub or_else : {X : Type 0} → Option X → Option X → Option X
or_else None y = y
or_else (Some x) y = Some x

pub or_none : {X : Type 0} (o : Option X) → or_else o None ≡ o
or_none None = refl
or_none (Some x) = refl

pub find_push : {X : Type 0} (p : X → Bool) (xs : List X) (x : X) → find p (xs ++ x ∷ []) ≡ or_else (find p xs) (cond (p x) (Some x) None)
find_push p [] x = refl
find_push p (y ∷ ys) x = elim (p y) as (λ b. cond b (Some y) (find p (ys ++ x ∷ [])) ≡ or_else (cond b (Some y) (find p ys)) (cond (p x) (Some x) None)) [
  | true ↦ refl
  | false ↦ find_push p ys x
]

pub any_append : {X : Type 0} (p : X → Bool) (xs ys : List X) → list_any p (xs ++ ys) ≡ (list_any p xs || list_any p ys)
any_append p [] ys = refl
any_append p (x ∷ xs) ys = elim (p x) as (λ b. (b || list_any p (xs ++ ys)) ≡ ((b || list_any p xs) || list_any p ys)) [
  | true ↦ refl
  | false ↦ any_append p xs ys
]

pub all_push : {X : Type 0} (P : X → Type 0) (xs : List X) (x : X) → AllByRecursion P xs → P x → AllByRecursion P (xs ++ x ∷ [])
all_push P [] x all is = (is, tt)
all_push P (y ∷ ys) x all is = (all.0, all_push P ys x all.1 is)

-- what is found is in the list, and passes
pub found_in : {X : Type 0} (p : X → Bool) (xs : List X) (x : X) → find p xs ≡ Some x → In x xs × (p x ≡ true)
found_in p [] x is = absurd (cc is)
found_in p (y ∷ ys) x is = elim (p y) as (λ b. p y ≡ b → cond b (Some y) (find p ys) ≡ Some x → In x (y ∷ ys) × (p x ≡ true)) [
  | true ↦ λ t e. (let same : y ≡ x = cc e in (inl (sym same), ap p (sym same) ∙ t))
  | false ↦ λ t e. (let r = found_in p ys x e in (inr r.0, r.1))
] refl is

pub any_found : {X : Type 0} (p : X → Bool) (xs : List X) → list_any p xs ≡ true → (x : X) × In x xs × (p x ≡ true)
any_found p [] is = absurd (cc is)
any_found p (y ∷ ys) is = elim (p y) as (λ b. p y ≡ b → (b || list_any p ys) ≡ true → (x : _) × In x (y ∷ ys) × (p x ≡ true)) [
  | true ↦ λ t e. (y, inl refl, t)
  | false ↦ λ t e. (let r = any_found p ys e in (r.0, inr r.1, r.2))
] refl is

pub all_at : {X : Type 0} (P : X → Type 0) (xs : List X) (i : ℕ) (d : X) → AllByRecursion P xs → i < length xs → P (get_or xs i d)
all_at P [] i d all lt = absurd (omega (arith, lt))
all_at P (x ∷ xs) zero d all lt = all.0
all_at P (x ∷ xs) (suc i) d all lt = all_at P xs i d all.1 (omega (arith, lt))

-- the element behind so many others
pub behind : {X : Type 0} (xs : List X) (x : X) (ys : List X) (n : ℕ) (d : X) → length xs ≡ n → get_or (xs ++ (x ∷ ys)) n d ≡ x
behind [] x ys n d is = ap (λ k. get_or (x ∷ ys) k d) (sym is)
behind (y ∷ xs) x ys zero d is = absurd (omega (arith, is))
behind (y ∷ xs) x ys (suc n) d is = behind xs x ys n d (omega (arith, is))
