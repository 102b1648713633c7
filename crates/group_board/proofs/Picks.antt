-- Choices by a test, and lists in rows of 8.
use Rattle.std.proofs.Common.{◌≡◌, ◌≢◌, ℕ, zero, suc, ◌+◌, ◌*◌, ◌<◌, Bool, true, false, cond, ◌&&◌, eqb, List, [], ◌∷◌, ◌++◌, length, get_or, set, Option, Some, None, sym, refl, ap, ◌∙◌, arith, eq-eqb, ne_eqb}
use mathlib.Core.Logic.{dite}
use native.Mathlib.Decide.{ℕ_discrete}
use Rattle.std.proofs.lemmas.List.{get_or-set_same, get_or-set_other}
use Rattle.group_laws.specs.Updates.{put2}

pub here : (m : ℕ) → eqb m m ≡ true
here m = eq-eqb m m refl

-- a value at the places of the one test alone, which all pass the other
pub under : {X : Type 0} (b c : Bool) (x y d : X) → (c ≡ true → b ≡ true) → cond b (cond c x y) d ≡ cond c x (cond b y d)
under true c x y d h = refl
under false true x y d h = absurd (let e : false ≡ true = h refl in cc)
under false false x y d h = refl

-- nothing at the places of both tests
pub pulled : {X : Type 0} (b c : Bool) (x d : X) → cond b (cond (b && c) d x) d ≡ cond (b && c) d (cond b x d)
pulled true c x d = refl
pulled false c x d = refl

-- what has a value that isn't the other one
pub kept_by : {X : Type 0} (c : Bool) (x : Option X) (y : X) → cond c None x ≡ Some y → x ≡ Some y
kept_by true x y e = absurd (cc)
kept_by false x y e = e

pub and_true : (b c : Bool) → b && c ≡ true → (b ≡ true) × (c ≡ true)
and_true true true e = (refl, refl)
and_true true false e = absurd (cc)
and_true false c e = absurd (cc)

module _ {X : Type 0} (xs : List X) (a t : ℕ) (x d : X) (inside : 8 * a + t < length xs) (low : t < 8) where
  here_in : (b u : ℕ) → u < 8 → b ≡ a → u ≡ t → get_or (set xs (8 * a + t) x) (8 * b + u) d ≡ put2 (λ k r. get_or xs (8 * k + r) d) a t x b u
  here_in b u less e f =
      ap (λ k. get_or (set xs (8 * a + t) x) k d) (let g : 8 * b + u ≡ 8 * a + t = omega arith in g)
      ∙ (get_or-set_same xs (8 * a + t) x d inside
      ∙ sym (ap (λ c. cond c x (get_or xs (8 * b + u) d)) (let p = eq-eqb b a e in let q = eq-eqb u t f in ap (λ v. v && eqb u t) p ∙ q)))

  else_in : (b u : ℕ) → eqb b a && eqb u t ≡ false → 8 * b + u ≢ 8 * a + t → get_or (set xs (8 * a + t) x) (8 * b + u) d ≡ put2 (λ k r. get_or xs (8 * k + r) d) a t x b u
  else_in b u e ne = get_or-set_other xs (8 * a + t) (8 * b + u) x d ne ∙ sym (ap (λ c. cond c x (get_or xs (8 * b + u) d)) e)

  other_row : (b u : ℕ) → b ≢ a → eqb b a && eqb u t ≡ false
  other_row b u ne = ap (λ v. v && eqb u t) (ne_eqb b a ne)

  and_false : (c : Bool) → c && false ≡ false
  and_false true = refl
  and_false false = refl

  other_column : (b u : ℕ) → u ≢ t → eqb b a && eqb u t ≡ false
  other_column b u ne = ap (λ v. eqb b a && v) (ne_eqb u t ne) ∙ and_false (eqb b a)

  -- a list in rows of 8 after a write
  pub set_row : (b u : ℕ) → u < 8 → get_or (set xs (8 * a + t) x) (8 * b + u) d ≡ put2 (λ k r. get_or xs (8 * k + r) d) a t x b u
  set_row b u less =
      dite (ℕ_discrete b a)
      (λ e. dite (ℕ_discrete u t) (λ f. here_in b u less e f) (λ ne. else_in b u (other_column b u ne) (λ g. ne (omega arith))))
      (λ ne. else_in b u (other_row b u ne) (λ g. ne (omega arith)))

-- a list of which each element tells d tells it, with one more such element
pub all_push : {X Y : Type 0} (f : X → Y) (xs : List X) (x e : X) (d : Y) → f x ≡ d → ((i : ℕ) → f (get_or xs i e) ≡ d) → f e ≡ d → (i : ℕ) → f (get_or (xs ++ x ∷ []) i e) ≡ d
all_push f [] x e d p h z zero = p
all_push f [] x e d p h z (suc i) = z
all_push f (y ∷ ys) x e d p h z zero = h 0
all_push f (y ∷ ys) x e d p h z (suc i) = all_push f ys x e d p (λ k. h (suc k)) z i
