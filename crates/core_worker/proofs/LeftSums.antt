-- Sums over slots and places, with another term at one of them.
use Rattle.std.proofs.Common.{◌≡◌, ◌≢◌, ⊎_elim, ℕ, zero, suc, ◌+◌, ◌<◌, ◌≤◌, Bool, true, false, cond, ◌&&◌, ◌||◌, eqb, List, [], ◌∷◌, length, Option, Some, None, refl, sym, ◌∙◌, ap, arith}
use Rattle.std.proofs.lemmas.Bool.{cases_eq, eq-eqb, ne_eqb}
use Rattle.group_laws.specs.declared.types.Slot.{Slot}
use Rattle.group_laws.specs.Updates.{sum_below, put2}
use Rattle.core_worker.specs.declared.types.Place.{Place}
use Rattle.core_worker.specs.OwnPlaces.{place_at, Replaces}
use Rattle.core_worker.specs.Left.{slot_left, place_left, places_left, offers, any_offers, lock_left}

sum_beside : (n m : ℕ) (f g : ℕ → ℕ) → n ≤ m → ((h : ℕ) → h ≢ m → f h ≡ g h) → sum_below n f ≡ sum_below n g
sum_beside zero m f g l e = refl
sum_beside (suc n) m f g l e = let below = sum_beside n m f g (omega arith) e in let here = e n (λ i. absurd (omega (arith, i, l))) in omega (arith, below, here)

pub sum_with : (n m : ℕ) (f g : ℕ → ℕ) → m < n → ((h : ℕ) → h ≢ m → f h ≡ g h) → sum_below n f + g m ≡ sum_below n g + f m
sum_with zero m f g l e = absurd (omega arith)
sum_with (suc n) m f g l e = ⊎_elim
    (λ i. let below = sum_beside n m f g (omega (arith, i)) e in let at = ap f i in let ag = ap g i in omega (arith, below, at, ag))
    (λ ne. let below = sum_with n m f g (omega (arith, l, ne)) e in let here = e n ne in omega (arith, below, here))
    (cases_eq n m)

-- the slots of all members below a number
abbrev pub all_slots : ℕ → (ℕ → ℕ → Slot) → ℕ
all_slots n f = sum_below n (λ a. sum_below 8 (λ s. slot_left (f a s)))

pub put_here : (f : ℕ → ℕ → Slot) (m s : ℕ) (x : Slot) → put2 f m s x m s ≡ x
put_here f m s x = ap (λ b. cond (b && eqb s s) x (f m s)) (eq-eqb m m refl) ∙ ap (λ b. cond b x (f m s)) (eq-eqb s s refl)

pub put_member : (f : ℕ → ℕ → Slot) (m s : ℕ) (x : Slot) (a t : ℕ) → a ≢ m → put2 f m s x a t ≡ f a t
put_member f m s x a t ne = ap (λ b. cond (b && eqb t s) x (f a t)) (ne_eqb a m ne)

pub put_slot : (f : ℕ → ℕ → Slot) (m s : ℕ) (x : Slot) (t : ℕ) → t ≢ s → put2 f m s x m t ≡ f m t
put_slot f m s x t ne = ap (λ b. cond (b && eqb t s) x (f m t)) (eq-eqb m m refl) ∙ ap (λ b. cond b x (f m t)) (ne_eqb t s ne)

row_same : (n : ℕ) (f g : ℕ → ℕ) → ((h : ℕ) → f h ≡ g h) → sum_below n f ≡ sum_below n g
row_same zero f g e = refl
row_same (suc n) f g e = let below = row_same n f g e in let here = e n in omega (arith, below, here)

pub slots_with : (n m s : ℕ) (f : ℕ → ℕ → Slot) (x : Slot) → m < n → s < 8 → all_slots n (put2 f m s x) + slot_left (f m s) ≡ all_slots n f + slot_left x
slots_with n m s f x member slot =
    let row = sum_with 8 s (λ t. slot_left (put2 f m s x m t)) (λ t. slot_left (f m t)) slot (λ t ne. ap slot_left (put_slot f m s x t ne)) in
    let all = sum_with n m (λ a. sum_below 8 (λ t. slot_left (put2 f m s x a t))) (λ a. sum_below 8 (λ t. slot_left (f a t))) member (λ a ne. row_same 8 (λ t. slot_left (put2 f m s x a t)) (λ t. slot_left (f a t)) (λ t. ap slot_left (put_member f m s x a t ne))) in
    let here = ap slot_left (put_here f m s x) in
    omega (arith, row, all, here)

-- whether a slot is Posted
pub offers_by : (f : ℕ → Slot) (n s : ℕ) → s < n → offers (f s) ≡ true → any_offers f n ≡ true
offers_by f zero s lt is = absurd (omega (arith, lt))
offers_by f (suc n) s lt is = ⊎_elim
    (λ here. ap (λ b. b || any_offers f n) (ap (λ t. offers (f t)) (sym here) ∙ is))
    (λ ne. ap (λ b. offers (f n) || b) (offers_by f n s (omega (arith, lt, ne)) is) ∙ or_true (offers (f n)))
    (cases_eq s n) where
      or_true : (b : Bool) → (b || true) ≡ true
      or_true true = refl
      or_true false = refl

pub offers_has : (f : ℕ → Slot) (n : ℕ) → any_offers f n ≡ true → (s : ℕ) × (s < n) × (offers (f s) ≡ true)
offers_has f zero is = absurd (cc is)
offers_has f (suc n) is = by (λ r. offers_has f n r) (offers (f n)) refl is where
  by : (any_offers f n ≡ true → (s : ℕ) × (s < n) × (offers (f s) ≡ true)) → (b : Bool) → offers (f n) ≡ b → (b || any_offers f n) ≡ true → (s : ℕ) × (s < suc n) × (offers (f s) ≡ true)
  by rest true e t = (n, omega arith, e)
  by rest false e t = let r = rest t in (r.0, (let lt = r.1 in omega (arith, lt)), r.2)

pub lock_two : (o : Option ℕ) (f : ℕ → ℕ → Slot) → lock_left o f ≤ 2
lock_two None f = omega arith
lock_two (Some h) f = by (any_offers (f h) 8) where
  by : (b : Bool) → cond b 0 2 ≤ 2
  by true = omega arith
  by false = omega arith

-- where no slot is Posted that wasn't, and none is Posted no more
pub lock_low : (o : Option ℕ) (f g : ℕ → ℕ → Slot) → ((a s : ℕ) → offers (f a s) ≡ true → offers (g a s) ≡ true) → lock_left o g ≤ lock_left o f
lock_low None f g more = omega arith
lock_low (Some h) f g more = by (any_offers (f h) 8) (any_offers (g h) 8) refl refl where
  by : (b d : Bool) → any_offers (f h) 8 ≡ b → any_offers (g h) 8 ≡ d → cond d 0 2 ≤ cond b 0 2
  by true true e i = omega arith
  by true false e i = absurd (let at = offers_has (f h) 8 e in let both : true ≡ false = sym (offers_by (g h) 8 at.0 at.1 (more h at.0 at.2)) ∙ i in cc both)
  by false true e i = omega arith
  by false false e i = omega arith

-- a slot that is written, and was not Posted
pub put_offers : (f : ℕ → ℕ → Slot) (m s : ℕ) (x : Slot) → offers (f m s) ≡ false → (a t : ℕ) → offers (f a t) ≡ true → offers (put2 f m s x a t) ≡ true
put_offers f m s x none a t is = ⊎_elim
    (λ mine. ⊎_elim
    (λ here. absurd (let both : true ≡ false = sym is ∙ ap (λ n. offers (f n t)) mine ∙ ap (λ n. offers (f m n)) here ∙ none in cc both))
    (λ ne. ap (λ n. offers (put2 f m s x n t)) mine ∙ ap offers (put_slot f m s x t ne) ∙ ap (λ n. offers (f n t)) (sym mine) ∙ is)
    (cases_eq t s))
    (λ other. ap offers (put_member f m s x a t other) ∙ is)
    (cases_eq a m)

-- another place, and the same ones
pub places_same : (xs ys : List Place) → length ys ≡ length xs → ((t : ℕ) → place_left (place_at ys t) ≡ place_left (place_at xs t)) → places_left ys ≡ places_left xs
places_same [] [] c h = refl
places_same [] (y ∷ ys) c h = absurd (omega (arith, c))
places_same (x ∷ xs) [] c h = absurd (omega (arith, c))
places_same (x ∷ xs) (y ∷ ys) c h =
    let here = h zero in
    let others = places_same xs ys (omega (arith, c)) (λ t. h (suc t)) in
    omega (arith, here, others)

pub places_with : (xs ys : List Place) (s : ℕ) (x : Place) → Replaces xs ys s x → s < length xs → places_left ys + place_left (place_at xs s) ≡ places_left xs + place_left x
places_with [] ys s x R lt = absurd (omega (arith, lt))
places_with (z ∷ xs) [] s x R lt = absurd (let c = R.count in omega (arith, c))
places_with (z ∷ xs) (y ∷ ys) zero x R lt =
    let c = R.count in
    let here = ap place_left R.here in
    let others = places_same xs ys (omega (arith, c)) (λ t. ap place_left (R.others (suc t) (λ e. cc e))) in
    omega (arith, here, others)
places_with (z ∷ xs) (y ∷ ys) (suc s) x R lt =
    let c = R.count in
    let here = ap place_left (R.others zero (λ e. cc e)) in
    let rest = places_with xs ys s x (record { count = (omega (arith, c)); here = R.here; others = λ t ne. R.others (suc t) (λ e. ne (omega (arith, e))) }) (omega (arith, lt)) in
    omega (arith, here, rest)
