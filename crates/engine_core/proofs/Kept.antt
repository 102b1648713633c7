-- Lists with an item set, and the answers kept by number.
use Rattle.std.proofs.Common.{◌≡◌, ◌≢◌, ◌⊎◌, inl, inr, ℕ, zero, suc, ◌+◌, ◌<◌, ◌==◌, List, [], ◌∷◌, ◌++◌, length, Bool, true, false, cond, Option, Some, None, slice_set, slice_index_or, refl, sym, ◌∙◌, ap, subst, arith, Result, Ok, Err, OnOk, IfOk, OnErr}
use Rattle.std.specs.List.{slice_get}
use Rattle.std.proofs.lemmas.Bool.{eq-eqb, ne_eqb, eqb-true, eqb-false}
use Rattle.fs_model.specs.declared.model.Request.{Request}
use Rattle.store_image.specs.Facts.{In}
use Rattle.engine_laws.specs.WorkerMoves.{Fixed}
use Rattle.engine_laws.specs.Engine as engines
use Rattle.engine_laws.specs.Advance.{answered}
use Rattle.core_worker.specs.declared.types.Answer.{Answer}
use Rattle.engine_core.specs.declared.types.Stamped.{Stamped}
use Rattle.engine_core.specs.Answers.{AreGiven, IsShown, ShowsAnswer, HavePlaces, kept_at, stored}

-- the item at a place
pub get_there : {X : Type 0} (xs : List X) (n : ℕ) (d : X) → n < length xs → slice_get xs n ≡ Some (slice_index_or xs n d)
get_there [] n d low = absurd (omega (arith, low))
get_there (x ∷ xs) zero d low = refl
get_there (x ∷ xs) (suc n) d low = get_there xs n d (omega (arith, low))

pub some_there : {X : Type 0} (xs : List X) (n : ℕ) → n < length xs → (x : X) × (slice_get xs n ≡ Some x)
some_there [] n low = absurd (omega (arith, low))
some_there (x ∷ xs) zero low = (x, λ i. Some x)
some_there (x ∷ xs) (suc n) low = some_there xs n (omega (arith, low))

pub set_length : {X : Type 0} (xs : List X) (n : ℕ) (y : X) → length (slice_set xs n y) ≡ length xs
set_length [] n y = refl
set_length (x ∷ xs) zero y = refl
set_length (x ∷ xs) (suc n) y = ap suc (set_length xs n y)

pub set_same : {X : Type 0} (xs : List X) (n : ℕ) (y z : X) → slice_get (slice_set xs n y) n ≡ Some z → z ≡ y
set_same [] n y z e = absurd (cc e)
set_same (x ∷ xs) zero y z e = cc e
set_same (x ∷ xs) (suc n) y z e = set_same xs n y z e

pub set_other : {X : Type 0} (xs : List X) (n m : ℕ) (y : X) → m ≢ n → slice_get (slice_set xs n y) m ≡ slice_get xs m
set_other [] n m y ne = refl
set_other (x ∷ xs) zero zero y ne = absurd (ne refl)
set_other (x ∷ xs) zero (suc m) y ne = refl
set_other (x ∷ xs) (suc n) zero y ne = refl
set_other (x ∷ xs) (suc n) (suc m) y ne = set_other xs n m y (λ e. ne (ap suc e))

pub set_twice : {X : Type 0} (xs : List X) (n : ℕ) (y z : X) → slice_set (slice_set xs n y) n z ≡ slice_set xs n z
set_twice [] n y z = refl
set_twice (x ∷ xs) zero y z = refl
set_twice (x ∷ xs) (suc n) y z = ap (λ ys. x ∷ ys) (set_twice xs n y z)

pub index_set : {X : Type 0} (xs : List X) (n : ℕ) (y d : X) → n < length xs → slice_index_or (slice_set xs n y) n d ≡ y
index_set [] n y d low = absurd (omega (arith, low))
index_set (x ∷ xs) zero y d low = refl
index_set (x ∷ xs) (suc n) y d low = index_set xs n y d (omega (arith, low))

pub get_more : {X : Type 0} (xs : List X) (y z : X) (n : ℕ) → slice_get (xs ++ y ∷ []) n ≡ Some z → (slice_get xs n ≡ Some z) ⊎ ((n ≡ length xs) × (z ≡ y))
get_more [] y z zero e = inr (refl, cc e)
get_more [] y z (suc n) e = absurd (cc e)
get_more (x ∷ xs) y z zero e = inl e
get_more (x ∷ xs) y z (suc n) e = elim (get_more xs y z n e) [
  | inl h ↦ inl h
  | inr h ↦ inr (ap suc h.0, h.1)
]

pub one_more : {X : Type 0} (xs : List X) (x : X) → length (xs ++ x ∷ []) ≡ length xs + 1
one_more [] x = omega arith
one_more (y ∷ ys) x = let r = one_more ys x in omega (arith, r)

-- what is read at a place is what stands there
pub at_is : {X : Type 0} (xs : List X) (n : ℕ) (y z : X) → slice_get xs n ≡ Some z → y ≡ slice_index_or xs n y → y ≡ z
at_is [] n y z e same = absurd (cc e)
at_is (x ∷ xs) zero y z e same = same ∙ cc e
at_is (x ∷ xs) (suc n) y z e same = at_is xs n y z e same

-- outcomes
pub ok_then : {T E A B : Type 0} (r : Result T E) → (A → B) → OnOk r A → OnOk r B
ok_then (Ok x) f a = f a
ok_then (Err x) f a = tt

pub ok_of : {T E : Type 0} (r : Result T E) (P : T → Type 0) → ((b : T) → r ≡ Ok b → P b) → IfOk r P
ok_of (Ok x) P f = f x refl
ok_of (Err x) P f = tt

pub err_then : {T E A B : Type 0} (r : Result T E) → (A → B) → OnErr r A → OnErr r B
err_then (Ok x) f a = tt
err_then (Err x) f a = f a

pub on_err : {T E A : Type 0} (r : Result T E) → A → OnErr r A
on_err (Ok x) a = tt
on_err (Err x) a = a

-- the answer kept at a number
at_set : (ys : List (Option Stamped)) (i n : ℕ) (z : Option Stamped) → i < length ys → kept_at (slice_set ys i z) n ≡ cond (i == n) z (kept_at ys n)
at_set [] i n z low = absurd (omega (arith, low))
at_set (y ∷ ys) zero zero z low = refl
at_set (y ∷ ys) zero (suc n) z low = sym (ap (λ b. cond b z (kept_at ys n)) (ne_eqb 0 (suc n) (λ q. omega (arith, q))))
at_set (y ∷ ys) (suc i) zero z low = sym (ap (λ b. cond b z y) (ne_eqb (suc i) 0 (λ q. omega (arith, q))))
at_set (y ∷ ys) (suc i) (suc n) z low = at_set ys i n z (omega (arith, low)) ∙ ap (λ b. cond b z (kept_at ys n)) (same (i == n) refl) where
  same : (b : Bool) → (i == n) ≡ b → (i == n) ≡ (suc i == suc n)
  same true e = e ∙ sym (eq-eqb (suc i) (suc n) (ap suc (eqb-true i n e)))
  same false e = e ∙ sym (ne_eqb (suc i) (suc n) (λ q. eqb-false i n e (omega (arith, q))))

-- an answer that is given again where it stands
answered_same : (xs : List Fixed) (t n : ℕ) (x : Fixed) → ((y : Fixed) → In y xs → y.number ≡ n → y ≡ x) → answered xs t n (Some (record { reply = x.reply; stamp = t })) ≡ Some (record { reply = x.reply; stamp = t })
answered_same [] t n x same = refl
answered_same (z ∷ zs) t n x same = by (z.number == n) refl (answered_same zs t n x (λ y i. same y (inr i))) where
  by : (b : Bool) → (z.number == n) ≡ b → answered zs t n (Some (record { reply = x.reply; stamp = t })) ≡ Some (record { reply = x.reply; stamp = t }) → answered (z ∷ zs) t n (Some (record { reply = x.reply; stamp = t })) ≡ Some (record { reply = x.reply; stamp = t })
  by true e again = ap (λ c. cond c (Some (record { reply = z.reply; stamp = t })) (answered zs t n (Some (record { reply = x.reply; stamp = t })))) e ∙ ap (λ (y : Fixed). Some (record { reply = y.reply; stamp = t })) (same z (inl refl) (eqb-true z.number n e))
  by false e again = ap (λ c. cond c (Some (record { reply = z.reply; stamp = t })) (answered zs t n (Some (record { reply = x.reply; stamp = t })))) e ∙ again

-- the first answer of a number is its answer, so it may as well be put in before the others
first_in : (x : Fixed) (xs : List Fixed) (t n : ℕ) (old : Option engines.Answer) → ((y z : Fixed) → In y (x ∷ xs) → In z (x ∷ xs) → y.number ≡ z.number → y ≡ z)
    → answered (x ∷ xs) t n old ≡ answered xs t n (cond (x.number == n) (Some (record { reply = x.reply; stamp = t })) old)
first_in x xs t n old once = by (x.number == n) refl where
  by : (b : Bool) → (x.number == n) ≡ b → answered (x ∷ xs) t n old ≡ answered xs t n (cond (x.number == n) (Some (record { reply = x.reply; stamp = t })) old)
  by true e = ap (λ c. cond c (Some (record { reply = x.reply; stamp = t })) (answered xs t n old)) e
      ∙ sym (answered_same xs t n x (λ y i q. once y x (inr i) (inl refl) (q ∙ sym (eqb-true x.number n e))))
      ∙ ap (λ c. answered xs t n (cond c (Some (record { reply = x.reply; stamp = t })) old)) (sym e)
  by false e = ap (λ c. cond c (Some (record { reply = x.reply; stamp = t })) (answered xs t n old)) e ∙ ap (λ c. answered xs t n (cond c (Some (record { reply = x.reply; stamp = t })) old)) (sym e)

-- The answers kept show those of the state after the call, where no number is answered twice, and each is that of its request.
pub stored_shows : (K : Type 0) (asked : ℕ → Option Request) (t : ℕ) (xs : List Fixed) (given : List Answer) (ans : ℕ → Option engines.Answer) (ys : List (Option Stamped))
    → AreGiven K xs given → HavePlaces (length ys) given → ((y z : Fixed) → In y xs → In z xs → y.number ≡ z.number → y ≡ z) → ((y : Fixed) → In y xs → asked y.number ≡ Some y.request)
    → ((n : ℕ) → ShowsAnswer K (asked n) (ans n) (kept_at ys n)) → (n : ℕ) → ShowsAnswer K (asked n) (answered xs t n (ans n)) (kept_at (stored given t ys) n)
stored_shows K asked t [] [] ans ys are places once of shown n = shown n
stored_shows K asked t [] (a ∷ more) ans ys are places once of shown n = absurd are
stored_shows K asked t (x ∷ xs) [] ans ys are places once of shown n = absurd are
stored_shows K asked t (x ∷ xs) (a ∷ more) ans ys are places once of shown n =
    subst (λ o. ShowsAnswer K (asked n) o (kept_at (stored (a ∷ more) t ys) n)) (sym (first_in x xs t n (ans n) once))
    (stored_shows K asked t xs more (λ k. cond (x.number == k) (Some (record { reply = x.reply; stamp = t })) (ans k)) (slice_set ys a.number kept) are.1
    (subst (λ (k : ℕ). HavePlaces k more) (sym (set_length ys a.number kept)) places.1) (λ y z i j. once y z (inr i) (inr j)) (λ y i. of y (inr i)) now n) where
      kept : Option Stamped
      kept = Some (record { reply = a.reply; refusal = a.refusal; stamp = t })

      here : IsShown K (asked x.number) (record { reply = x.reply; stamp = t }) (record { reply = a.reply; refusal = a.refusal; stamp = t })
      here = record {
        stamp = refl;
        reply = elim are.0.reply [
          | inl same ↦ inl same
          | inr read ↦ inr (x.request, of x (inl refl), read.0, read.1)
        ];
        known = are.0.known;
        cause = are.0.cause;
        shows = (x.request, of x (inl refl), are.0.shows);
      }

      now : (k : ℕ) → ShowsAnswer K (asked k) (cond (x.number == k) (Some (record { reply = x.reply; stamp = t })) (ans k)) (kept_at (slice_set ys a.number kept) k)
      now k = subst (λ z. ShowsAnswer K (asked k) (cond (x.number == k) (Some (record { reply = x.reply; stamp = t })) (ans k)) z) (sym (at_set ys a.number k kept places.0 ∙ ap (λ i. cond (i == k) kept (kept_at ys k)) are.0.number)) (by (x.number == k) refl) where
        by : (b : Bool) → (x.number == k) ≡ b → ShowsAnswer K (asked k) (cond b (Some (record { reply = x.reply; stamp = t })) (ans k)) (cond b kept (kept_at ys k))
        by true e = subst (λ i. IsShown K (asked i) (record { reply = x.reply; stamp = t }) (record { reply = a.reply; refusal = a.refusal; stamp = t })) (eqb-true x.number k e) here
        by false e = shown k

pub stored_length : (xs : List Answer) (t : ℕ) (ys : List (Option Stamped)) → length (stored xs t ys) ≡ length ys
stored_length [] t ys = refl
stored_length (x ∷ xs) t ys = stored_length xs t (slice_set ys x.number (Some (record { reply = x.reply; refusal = x.refusal; stamp = t }))) ∙ set_length ys x.number (Some (record { reply = x.reply; refusal = x.refusal; stamp = t }))

-- what is known of less is known of more
pub shows_less : (K L : Type 0) (asked : Option Request) (a : Option engines.Answer) (x : Option Stamped) → (L → K) → ShowsAnswer K asked a x → ShowsAnswer L asked a x
shows_less K L asked None None f h = tt
shows_less K L asked None (Some x) f h = h
shows_less K L asked (Some a) None f h = h
shows_less K L asked (Some a) (Some x) f h = record { stamp = h.stamp; reply = h.reply; known = λ l. h.known (f l); cause = h.cause; shows = h.shows }

-- the answers have places where those that were fixed have
pub places_of : (K : Type 0) (n : ℕ) (xs : List Fixed) (given : List Answer) → AreGiven K xs given → ((y : Fixed) → In y xs → y.number < n) → HavePlaces n given
places_of K n [] [] are low = tt
places_of K n [] (a ∷ more) are low = absurd are
places_of K n (x ∷ xs) [] are low = absurd are
places_of K n (x ∷ xs) (a ∷ more) are low = (subst (λ i. i < n) (sym are.0.number) (low x (inl refl)), places_of K n xs more are.1 (λ y i. low y (inr i)))
