-- The slots that a seat has out: turned, given and taken.
use Rattle.std.proofs.Common.{◌≡◌, ◌≢◌, ℕ, suc, ◌*◌, ◌<◌, ◌≤◌, Bool, true, false, true≢false, ◌||◌, ◌&&◌, not, eqb, cond, List, [], ◌∷◌, ◌++◌, length, take, drop, get_or, sym, refl, ap, ap₂, ◌∙◌, subst, inl, inr, ◌⊎◌, eq-eqb, ne_eqb, arith, Option, Some, None}
use Rattle.std.specs.List.{IsDistinct, AllByRecursion}
use Rattle.std.proofs.lemmas.Map.Steps.{length-le_from_distinct_below}
use mathlib.Core.Logic.{dite}
use native.Mathlib.Decide.{ℕ_discrete}
use Rattle.atomic_table.specs.Table.{turned, rest}
use Rattle.log_entry.specs.declared.entry.Entry.{Entry}
use Rattle.group_laws.specs.declared.types.Pending.{Pending}
use Rattle.group_laws.specs.Places.{Place, owner}
use Rattle.group_laws.specs.Updates.{put, put2}
use Rattle.group_board.specs.declared.change.Change.{Change}
use Rattle.atomic_board.specs.declared.parcel.Parcel.{Parcel}
use Rattle.atomic_board.specs.declared.parcel.Parcel.TheVariants as parcels
use Rattle.atomic_board.specs.TableWords.{pool_place}
use Rattle.atomic_board.specs.SlotsOut.{has, distinct, numbers, is_nothing, all_empty, empties, IsNamedBy, Holds}
use Rattle.atomic_board.proofs.SeatPlaces.{put_here, put_else, put2_here, put2_else}

-- how many stand before the first k
abbrev pub place_of : ℕ → List ℕ → ℕ
place_of k [] = 0
place_of k (x ∷ xs) = cond (eqb k x) 0 (suc (place_of k xs))

or_swap : (a b c : Bool) → (a || (b || c)) ≡ (b || (a || c))
or_swap true true c = refl
or_swap true false c = refl
or_swap false true c = refl
or_swap false false c = refl

has-snoc : (k : ℕ) (xs : List ℕ) (y : ℕ) → has k (xs ++ y ∷ []) ≡ (eqb k y || has k xs)
has-snoc k [] y = refl
has-snoc k (x ∷ xs) y = ap (λ b. eqb k x || b) (has-snoc k xs y) ∙ or_swap (eqb k x) (eqb k y) (has k xs)

numbers-snoc : (xs : List (ℕ × Option Parcel)) (x : ℕ × Option Parcel) → numbers (xs ++ x ∷ []) ≡ numbers xs ++ x.0 ∷ []
numbers-snoc [] x = refl
numbers-snoc (y ∷ ys) x = ap (λ l. y.0 ∷ l) (numbers-snoc ys x)

pub numbers_turned : (xs : List (ℕ × Option Parcel)) → numbers (turned xs) ≡ drop 1 (numbers xs) ++ take 1 (numbers xs)
numbers_turned [] = refl
numbers_turned (x ∷ xs) = numbers-snoc xs x

and_swap : (a b : Bool) → (a && (b && true)) ≡ (b && a)
and_swap true true = refl
and_swap true false = refl
and_swap false true = refl
and_swap false false = refl

empty-snoc : (xs : List (ℕ × Option Parcel)) (x : ℕ × Option Parcel) → all_empty (xs ++ x ∷ []) ≡ (is_nothing x.1 && all_empty xs)
empty-snoc [] x = refl
empty-snoc (y ∷ ys) x = ap (λ b. is_nothing y.1 && b) (empty-snoc ys x) ∙ swap (is_nothing y.1) (is_nothing x.1) (all_empty ys) where
  swap : (a b c : Bool) → (a && (b && c)) ≡ (b && (a && c))
  swap true true c = refl
  swap true false c = refl
  swap false true c = refl
  swap false false c = refl

pub empty_turned : (xs : List (ℕ × Option Parcel)) → all_empty (turned xs) ≡ all_empty xs
empty_turned [] = refl
empty_turned (x ∷ xs) = empty-snoc xs x

pub has_turned : (k : ℕ) (xs : List ℕ) → has k (drop 1 xs ++ take 1 xs) ≡ has k xs
has_turned k [] = refl
has_turned k (x ∷ xs) = has-snoc k xs x

distinct-snoc : (xs : List ℕ) (y : ℕ) → distinct (xs ++ y ∷ []) ≡ (not (has y xs) && distinct xs)
distinct-snoc [] y = refl
distinct-snoc (x ∷ xs) y = ap₂ (λ a b. not a && b) (has-snoc x xs y) (distinct-snoc xs y) ∙ swap (eqb x y) (has x xs) (eqb y x) (has y xs) (distinct xs) (turn x y) where
  turn : (a b : ℕ) → eqb a b ≡ eqb b a
  turn a b = dite (ℕ_discrete a b) (λ e. eq-eqb a b e ∙ sym (eq-eqb b a (sym e))) (λ ne. ne_eqb a b ne ∙ sym (ne_eqb b a (λ e. ne (sym e))))

  swap : (a b c d e : Bool) → a ≡ c → (not (a || b) && (not d && e)) ≡ (not (c || d) && (not b && e))
  swap true b true d e p = refl
  swap true b false d e p = absurd (cc p)
  swap false b true d e p = absurd (cc p)
  swap false true false true e p = refl
  swap false true false false e p = refl
  swap false false false true e p = refl
  swap false false false false e p = refl

pub distinct_turned : (xs : List ℕ) → distinct (drop 1 xs ++ take 1 xs) ≡ distinct xs
distinct_turned [] = refl
distinct_turned (x ∷ xs) = distinct-snoc xs x

place-snoc : (k : ℕ) (xs : List ℕ) (y : ℕ) → has k xs ≡ true → place_of k (xs ++ y ∷ []) ≡ place_of k xs
place-snoc k [] y h = absurd (true≢false (sym h))
place-snoc k (x ∷ xs) y h = elim (eqb k x) as (λ b. (b || has k xs) ≡ true → cond b 0 (suc (place_of k (xs ++ y ∷ []))) ≡ cond b 0 (suc (place_of k xs))) [ true ↦ λ h. refl | false ↦ λ h. ap suc (place-snoc k xs y h) ] h

pub place_falls : (k : ℕ) (xs : List ℕ) (r : ℕ) → has k xs ≡ true → r ≡ get_or xs 0 r → r ≢ k → place_of k (drop 1 xs ++ take 1 xs) < place_of k xs
place_falls k [] r h at ne = absurd (true≢false (sym h))
place_falls k (x ∷ xs) r h at ne = let no : eqb k x ≡ false = ne_eqb k x (λ e. ne (at ∙ sym e)) in
    let there : has k xs ≡ true = sym (ap (λ b. b || has k xs) no) ∙ h in
    let a : place_of k (x ∷ xs) ≡ suc (place_of k xs) = ap (λ b. cond b 0 (suc (place_of k xs))) no in
    let e : place_of k (xs ++ x ∷ []) ≡ place_of k xs = place-snoc k xs x there in omega arith

pub not_empty : (k : ℕ) (xs : List ℕ) → has k xs ≡ true → 0 < length xs
not_empty k [] h = absurd (true≢false (sym h))
not_empty k (x ∷ xs) h = omega arith

pub first_is : (k : ℕ) (xs : List ℕ) (r : ℕ) → has k xs ≡ true → r ≡ get_or xs 0 r → r ≡ k → (others : List ℕ) × (xs ≡ k ∷ others)
first_is k [] r h at e = absurd (true≢false (sym h))
first_is k (x ∷ xs) r h at e = (xs, ap (λ y. y ∷ xs) (sym at ∙ e))

all_other : (x : ℕ) (ys : List ℕ) → has x ys ≡ false → AllByRecursion (λ y. eqb x y ≡ false) ys
all_other x [] h = tt
all_other x (y ∷ ys) h = by (eqb x y) (has x ys) refl refl h (λ t. all_other x ys t) where
  by : (a b : Bool) → eqb x y ≡ a → has x ys ≡ b → (a || b) ≡ false → (has x ys ≡ false → AllByRecursion (λ y. eqb x y ≡ false) ys) → (eqb x y ≡ false) × AllByRecursion (λ y. eqb x y ≡ false) ys
  by true b e f g rec = absurd (cc g)
  by false true e f g rec = absurd (cc g)
  by false false e f g rec = (e, rec f)

is_distinct : (ys : List ℕ) → distinct ys ≡ true → IsDistinct eqb ys
unfolding IsDistinct
is_distinct [] h = tt
is_distinct (y ∷ ys) h = by (has y ys) refl h (λ t. is_distinct ys t) where
  by : (a : Bool) → has y ys ≡ a → (not a && distinct ys) ≡ true → (distinct ys ≡ true → IsDistinct eqb ys) → IsDistinct eqb (y ∷ ys)
  by true e g rec = absurd (cc g)
  by false e g rec = (all_other y ys e, rec g)

-- numbers below n with none twice are n at most
pub at_most : (xs : List ℕ) (n : ℕ) → distinct xs ≡ true → ((k : ℕ) → has k xs ≡ true → k < n) → length xs ≤ n
at_most xs n d low = length-le_from_distinct_below xs n (is_distinct xs d) low

-- the slot that stands first, with its value
pub first_out : (l : List (ℕ × Option Parcel)) (k : ℕ) (ks : List ℕ) → numbers l ≡ k ∷ ks → (y : Option Parcel) × (l ≡ (k, y) ∷ rest l)
first_out [] k ks e = let n : ℕ = 0 in let p : n ≡ suc (length ks) = ap length e in absurd (omega arith)
first_out (x ∷ xs) k ks e = (x.1, ap (λ j. (j, x.1) ∷ xs) (ap (λ (l : List ℕ). get_or l 0 x.0) e))

tail : List ℕ → List ℕ
tail [] = []
tail (x ∷ xs) = xs

pub rest_out : (l : List (ℕ × Option Parcel)) (k : ℕ) (ks : List ℕ) → numbers l ≡ k ∷ ks → numbers (rest l) ≡ ks
unfolding tail
rest_out [] k ks e = let n : ℕ = 0 in let p : n ≡ suc (length ks) = ap length e in absurd (omega arith)
rest_out (x ∷ xs) k ks e = ap tail e

pub rest_empty : (l : List (ℕ × Option Parcel)) → all_empty l ≡ true → all_empty (rest l) ≡ true
rest_empty [] e = refl
rest_empty (x ∷ xs) e = by (is_nothing x.1) e where
  by : (b : Bool) → (b && all_empty xs) ≡ true → all_empty xs ≡ true
  by true e = e
  by false e = absurd (cc e)

-- both are what stands first
pub same_out : (l : List (ℕ × Option Parcel)) (k : ℕ) (x y : Option Parcel) → l ≡ (k, x) ∷ rest l → l ≡ (k, y) ∷ rest l → x ≡ y
same_out l k x y p q = ap (λ (r : List (ℕ × Option Parcel)). (get_or r 0 (k, x)).1) (sym p ∙ q)

-- empty slots are by their numbers what they are
pub are_empties : (l : List (ℕ × Option Parcel)) → all_empty l ≡ true → l ≡ empties (numbers l)
are_empties [] e = refl
are_empties (x ∷ xs) e = by x.1 e (λ t. are_empties xs t) where
  by : (o : Option Parcel) → (is_nothing o && all_empty xs) ≡ true → (all_empty xs ≡ true → xs ≡ empties (numbers xs)) → (x.0, o) ∷ xs ≡ (x.0, None) ∷ empties (numbers xs)
  by None e rec = ap (λ l. (x.0, None) ∷ l) (rec e)
  by (Some y) e rec = absurd (cc e)

distinct_first : (k : ℕ) (ks : List ℕ) → distinct (k ∷ ks) ≡ true → (has k ks ≡ false) × (distinct ks ≡ true)
distinct_first k ks d = by (has k ks) refl d where
  by : (a : Bool) → has k ks ≡ a → (not a && distinct ks) ≡ true → (has k ks ≡ false) × (distinct ks ≡ true)
  by true e g = absurd (cc g)
  by false e g = (e, g)

pub distinct_rest : (k : ℕ) (ks : List ℕ) → distinct (k ∷ ks) ≡ true → distinct ks ≡ true
distinct_rest k ks d = (distinct_first k ks d).1

pub distinct_more : (k : ℕ) (ks : List ℕ) → has k ks ≡ false → distinct ks ≡ true → distinct (k ∷ ks) ≡ true
distinct_more k ks h d = ap (λ a. not a && distinct ks) h ∙ d

has_else : (k j : ℕ) (ks : List ℕ) → k ≢ j → has k (j ∷ ks) ≡ has k ks
has_else k j ks ne = ap (λ b. b || has k ks) (ne_eqb k j ne)

has_first : (k : ℕ) (ks : List ℕ) → has k (k ∷ ks) ≡ true
has_first k ks = ap (λ b. b || has k ks) (eq-eqb k k refl)

none_some : {X : Type 0} (o : Option X) (x : X) → o ≡ None → o ≡ Some x → ⊥
none_some o x e f = cc (e, f)

-- two places are one, or not
places : (a t c u : ℕ) → u < 8 → t < 8 → ((a ≡ c) × (t ≡ u)) ⊎ ((pool_place a t ≢ pool_place c u) × ((a ≢ c) ⊎ (t ≢ u)))
places a t c u l r = dite (ℕ_discrete a c) (λ e. dite (ℕ_discrete t u) (λ f. inl (e, f)) (λ ne. inr ((λ g. ne (omega arith)), inr ne))) (λ ne. inr ((λ g. ne (omega arith)), inl ne))

module _ (p : Place) (m n : ℕ) (near : m < n) (pending : ℕ → Option Pending) (taken : ℕ → ℕ → Option Entry) (held : List ℕ) (h : Holds p m n pending taken held) where
  -- the same slots in another order
  pub holds_turned : (new : List ℕ) → ((k : ℕ) → has k new ≡ has k held) → Holds p m n pending taken new
  holds_turned new same = record {
    mine = λ t l f. same (pool_place m t) ∙ h.mine t l f;
    hands = λ a t e l r x. same (pool_place a t) ∙ h.hands a t e l r x;
    others = λ a t l r named none. same (pool_place a t) ∙ h.others a t l r named none;
    below = λ k x. h.below k (sym (same k) ∙ x);
  }

  -- a change is taken into the hands
  pub holds_taken : (a t : ℕ) (e : Entry) → a < n → t < 8 → Holds p m n pending (put2 taken a t (Some e)) (pool_place a t ∷ held)
  holds_taken a t e low less = record {
    mine = λ u l f. more (pool_place m u) (h.mine u l f);
    hands = λ c u x l r is. elim (places c u a t less r) [
      | inl same ↦ subst (λ j. has j (pool_place a t ∷ held) ≡ true) (sym (ap₂ (λ i j. pool_place i j) same.0 same.1)) (has_first (pool_place a t) held)
      | inr ne ↦ more (pool_place c u) (h.hands c u x l r (sym (put2_else taken a t (Some e) c u ne.1) ∙ is))
    ];
    others = λ c u l r named none. elim (places c u a t less r) [
      | inl same ↦ absurd (none_some (put2 taken a t (Some e) c u) e none (ap₂ (λ i j. put2 taken a t (Some e) i j) same.0 same.1 ∙ put2_here taken a t (Some e)))
      | inr ne ↦ has_else (pool_place c u) (pool_place a t) held ne.0 ∙ h.others c u l r named (sym (put2_else taken a t (Some e) c u ne.1) ∙ none)
    ];
    below = low_all;
  } where
    more : (k : ℕ) → has k held ≡ true → has k (pool_place a t ∷ held) ≡ true
    more k x = by (eqb k (pool_place a t)) where
      by : (b : Bool) → (b || has k held) ≡ true
      by true = refl
      by false = x

    low_all : (k : ℕ) → has k (pool_place a t ∷ held) ≡ true → k < 8 * n
    low_all k x = dite (ℕ_discrete k (pool_place a t)) (λ e. omega arith) (λ ne. h.below k (sym (has_else k (pool_place a t) held ne) ∙ x))

abbrev pub out_at : Entry → ℕ → Option Pending
out_at e t = Some (record { entry = e; slot = Some t })

abbrev pub slot_in : Option Pending → Option ℕ
slot_in None = None
slot_in (Some x) = x.slot

-- a change is offered in an own slot that stands first
pub holds_posted : (p : Place) (m n : ℕ) (near : m < n) (pending : ℕ → Option Pending) (taken : ℕ → ℕ → Option Entry) (held : List ℕ) (t : ℕ) (e : Entry) → t < 8 → pending e.key ≡ None → owner p e.key ≡ m → taken m t ≡ None
    → distinct (pool_place m t ∷ held) ≡ true → Holds p m n pending taken (pool_place m t ∷ held) → Holds p m n (put pending e.key (Some (record { entry = e; slot = Some t }))) taken held
holds_posted p m n near pending taken held t e less idle own no_hand d h = record {
  mine = λ u l f. elim (places m u m t less l) [
    | inl same ↦ absurd (f e.key e (put_here pending e.key (Some (record { entry = e; slot = Some t })) ∙ ap (λ j. Some (record { entry = e; slot = Some j })) (sym same.1)))
    | inr ne ↦ sym (has_else (pool_place m u) (pool_place m t) held ne.0) ∙ h.mine u l (λ k x is. f k x (put_else pending e.key (Some (record { entry = e; slot = Some t })) k (λ same. none_some (pending k) (record { entry = x; slot = Some u }) (ap pending same ∙ idle) is) ∙ is))
  ];
  hands = λ c u x l r is. elim (places c u m t less r) [
    | inl same ↦ absurd (none_some (taken m t) x no_hand (ap₂ taken (sym same.0) (sym same.1) ∙ is))
    | inr ne ↦ sym (has_else (pool_place c u) (pool_place m t) held ne.0) ∙ h.hands c u x l r is
  ];
  others = λ c u l r named none. elim (places c u m t less r) [
    | inl same ↦ subst (λ j. has j held ≡ false) (sym (ap₂ (λ i j. pool_place i j) same.0 same.1)) (distinct_first (pool_place m t) held d).0
    | inr ne ↦ sym (has_else (pool_place c u) (pool_place m t) held ne.0) ∙ h.others c u l r (λ same. older c u same ne.1 (named same)) none
  ];
  below = λ k x. h.below k (more k x);
} where
  more : (k : ℕ) → has k held ≡ true → has k (pool_place m t ∷ held) ≡ true
  more k x = by (eqb k (pool_place m t)) where
    by : (b : Bool) → (b || has k held) ≡ true
    by true = refl
    by false = x

  slot_same : (x y : Entry) (u v : ℕ) → out_at x u ≡ out_at y v → u ≡ v
  slot_same x y u v is = let r : Some u ≡ Some v = ap slot_in is in cc r

  older : (c u : ℕ) → c ≡ m → (c ≢ m) ⊎ (u ≢ t) → IsNamedBy p m (put pending e.key (Some (record { entry = e; slot = Some t }))) u → IsNamedBy p m pending u
  older c u same (inl ne) named = absurd (ne same)
  older c u same (inr ne) named = (
    named.0,
    named.1,
    named.2,
    sym (put_else pending e.key (Some (record { entry = e; slot = Some t })) named.0
        (λ k. ne (sym (slot_same e named.1 t u (sym (put_here pending e.key (Some (record { entry = e; slot = Some t }))) ∙ (ap (put pending e.key (Some (record { entry = e; slot = Some t }))) (sym k) ∙ named.3)))))) ∙ named.3,
  )

pub same_change : (x y : Change) → Some (parcels.Change x) ≡ Some (parcels.Change y) → x ≡ y
same_change x y is = cc is

pend_same : (x y : Entry) (u v : ℕ) → out_at x u ≡ out_at y v → u ≡ v
pend_same x y u v is = let r : Some u ≡ Some v = ap slot_in is in cc r

-- a change that is in the hands is given back, out of a slot that stands first
pub holds_given : (p : Place) (m n : ℕ) (pending : ℕ → Option Pending) (taken : ℕ → ℕ → Option Entry) (held : List ℕ) (a t : ℕ) → t < 8 → (a ≡ m → IsNamedBy p m pending t)
    → distinct (pool_place a t ∷ held) ≡ true → Holds p m n pending taken (pool_place a t ∷ held) → Holds p m n pending (put2 taken a t None) held
holds_given p m n pending taken held a t less named d h = record {
  mine = λ u l f. elim (places m u a t less l) [
    | inl same ↦ absurd (let x = named (sym same.0) in f x.0 x.1 (x.3 ∙ ap (out_at x.1) (sym same.1)))
    | inr ne ↦ sym (has_else (pool_place m u) (pool_place a t) held ne.0) ∙ h.mine u l f
  ];
  hands = λ c u x l r is. elim (places c u a t less r) [
    | inl same ↦ absurd (none_some (put2 taken a t None c u) x (ap₂ (λ i j. put2 taken a t None i j) same.0 same.1 ∙ put2_here taken a t None) is)
    | inr ne ↦ sym (has_else (pool_place c u) (pool_place a t) held ne.0) ∙ h.hands c u x l r (sym (put2_else taken a t None c u ne.1) ∙ is)
  ];
  others = λ c u l r names none. elim (places c u a t less r) [
    | inl same ↦ subst (λ j. has j held ≡ false) (sym (ap₂ (λ i j. pool_place i j) same.0 same.1)) (distinct_first (pool_place a t) held d).0
    | inr ne ↦ sym (has_else (pool_place c u) (pool_place a t) held ne.0) ∙ h.others c u l r names (sym (put2_else taken a t None c u ne.1) ∙ none)
  ];
  below = λ k h'. h.below k (more k h');
} where
  more : (k : ℕ) → has k held ≡ true → has k (pool_place a t ∷ held) ≡ true
  more k x = by (eqb k (pool_place a t)) where
    by : (b : Bool) → (b || has k held) ≡ true
    by true = refl
    by false = x

-- an own slot is emptied: what stood in it is pending no more, or in doubt
pub holds_freed : (p : Place) (m n : ℕ) (near : m < n) (pending : ℕ → Option Pending) (taken : ℕ → ℕ → Option Entry) (held : List ℕ) (t : ℕ) (e : Entry) (y : Option Pending) → t < 8 → pending e.key ≡ out_at e t
    → ((k : ℕ) (x : Entry) → owner p k ≡ m → pending k ≡ out_at x t → k ≡ e.key) → ((x : Entry) (u : ℕ) → y ≡ out_at x u → ⊥) → Holds p m n pending taken held → Holds p m n (put pending e.key y) taken (pool_place m t ∷ held)
holds_freed p m n near pending taken held t e y less pends alone none_out h = record {
  mine = λ u l f. elim (places m u m t less l) [
    | inl same ↦ subst (λ j. has j (pool_place m t ∷ held) ≡ true) (sym (ap₂ (λ i j. pool_place i j) same.0 same.1)) (has_first (pool_place m t) held)
    | inr ne ↦ more (pool_place m u) (h.mine u l (λ k x is. f k x (put_else pending e.key y k (λ same. ne.0 (ap (pool_place m) (pend_same x e u t (sym is ∙ (ap pending same ∙ pends))))) ∙ is)))
  ];
  hands = λ c u x l r is. more (pool_place c u) (h.hands c u x l r is);
  others = λ c u l r named none. elim (places c u m t less r) [
    | inl same ↦ absurd (let x = named same.0 in again x.0 x.1 x.2 (x.3 ∙ ap (out_at x.1) same.1))
    | inr ne ↦ has_else (pool_place c u) (pool_place m t) held ne.0 ∙ h.others c u l r (λ same. older u (named same)) none
  ];
  below = low_all;
} where
  more : (k : ℕ) → has k held ≡ true → has k (pool_place m t ∷ held) ≡ true
  more k x = by (eqb k (pool_place m t)) where
    by : (b : Bool) → (b || has k held) ≡ true
    by true = refl
    by false = x

  at_key : (k : ℕ) → k ≡ e.key → put pending e.key y k ≡ y
  at_key k same = ap (put pending e.key y) same ∙ put_here pending e.key y

  again : (k : ℕ) (x : Entry) → owner p k ≡ m → put pending e.key y k ≡ out_at x t → ⊥
  again k x own is = dite (ℕ_discrete k e.key)
      (λ same. none_out x t (sym (at_key k same) ∙ is))
      (λ ne. ne (alone k x own (sym (put_else pending e.key y k ne) ∙ is)))

  older : (u : ℕ) → IsNamedBy p m (put pending e.key y) u → IsNamedBy p m pending u
  older u named = (named.0, named.1, named.2, sym (put_else pending e.key y named.0 (λ same. none_out named.1 u (sym (at_key named.0 same) ∙ named.3))) ∙ named.3)

  low_all : (k : ℕ) → has k (pool_place m t ∷ held) ≡ true → k < 8 * n
  low_all k x = dite (ℕ_discrete k (pool_place m t)) (λ e. omega arith) (λ ne. h.below k (sym (has_else k (pool_place m t) held ne) ∙ x))
