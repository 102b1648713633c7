-- What is kept by number doesn't depend on the order.
use Rattle.std.proofs.Common.{◌≡◌, ◌≢◌, ℕ, zero, suc, ◌+◌, ◌<◌, List, [], ◌∷◌, ◌++◌, map, length, get_or, drop, set, Option, Some, None, IsPermutation, Contains, sym, refl, ap, ◌∙◌, subst, append_assoc, length-append, length-set, get_or-set_same, get_or-set_other, pos_of_ne-zero, arith}
use Rattle.std.proofs.lemmas.List.{ext_get_or}
use Rattle.std.proofs.lemmas.List.Sorted.{Contains-permutation}
use mathlib.Core.Logic.{dite}
use native.Mathlib.Decide.{ℕ_discrete}
use Rattle.core_worker.specs.declared.types.Answer.{Answer}
use Rattle.answer_queue.specs.Accounts.{times, numbers, numbers_from, AreDistinct}
use Rattle.answer_queue.specs.Storing.{stored_by, HavePlaces}
use Rattle.answer_queue.proofs.Numbering.{once_here, once_there, times_permutation}

pub stored_length : {X : Type 0} (f : Answer → X) (xs : List Answer) (ys : List (Option X)) → length (stored_by f xs ys) ≡ length ys
stored_length f [] ys = refl
stored_length f (x ∷ xs) ys = stored_length f xs (set ys x.number (Some (f x))) ∙ length-set ys x.number (Some (f x))

-- a number that none of them has
absent : {X : Type 0} (f : Answer → X) (n : ℕ) (xs : List Answer) (ys : List (Option X)) → times n (numbers xs) ≡ 0 → get_or (stored_by f xs ys) n None ≡ get_or ys n None
absent f n [] ys none = refl
absent f n (x ∷ xs) ys none =
    let other : n ≢ x.number = λ e. let o = once_here n x.number (sym e) in absurd (omega arith) in
    absent f n xs (set ys x.number (Some (f x))) (omega arith) ∙ get_or-set_other ys x.number n (Some (f x)) None other

tail_distinct : (x : Answer) (xs : List Answer) → AreDistinct (numbers (x ∷ xs)) → AreDistinct (numbers xs)
tail_distinct x xs d n = let h = d n in omega arith

-- the number of one of them
present : {X : Type 0} (f : Answer → X) (xs : List Answer) (k : ℕ) (a : Answer) (ys : List (Option X)) → k < length xs → get_or xs k a ≡ a → AreDistinct (numbers xs) → a.number < length ys → get_or (stored_by f xs ys) a.number None ≡ Some (f a)
present f [] k a ys low is d place = absurd (omega arith)
present f (x ∷ xs) zero a ys low is d place =
    let o = once_here a.number x.number (ap (λ (b : Answer). b.number) is) in
    let h = d a.number in
    let n : x.number ≡ a.number = ap (λ (b : Answer). b.number) is in
    absent f a.number xs (set ys x.number (Some (f x))) (omega arith)
    ∙ ap (λ (b : Answer). get_or (set ys b.number (Some (f b))) a.number None) is
    ∙ get_or-set_same ys a.number (Some (f a)) None place
present f (x ∷ xs) (suc k) a ys low is d place =
    present f xs k a (set ys x.number (Some (f x))) (omega arith) is (tail_distinct x xs d) (subst (λ n. a.number < n) (sym (length-set ys x.number (Some (f x)))) place)

-- the answer with a number
found : (n : ℕ) (xs : List Answer) → 0 < times n (numbers xs) → (a : Answer) × Contains xs a × (a.number ≡ n)
found n [] some_ = absurd (omega arith)
found n (x ∷ xs) some_ = dite (ℕ_discrete x.number n)
    (λ e. (x, (0, omega arith, refl), e))
    (λ ne. let z = once_there n x.number ne in let r = found n xs (omega arith) in
    (r.0, (suc r.1.0, (let l = r.1.1 in omega arith), r.1.2), r.2))

pub any_order : {X : Type 0} (f : Answer → X) (xs zs : List Answer) (ys : List (Option X)) → IsPermutation xs zs → AreDistinct (numbers xs) → stored_by f zs ys ≡ stored_by f xs ys
any_order f xs zs ys p d = ext_get_or None (stored_by f zs ys) (stored_by f xs ys) (stored_length f zs ys ∙ sym (stored_length f xs ys))
    (λ n low. dite (ℕ_discrete (times n (numbers xs)) 0)
    (λ e. absent f n zs ys (times_permutation n xs zs p ∙ e) ∙ sym (absent f n xs ys e))
    (λ ne. (let e = found n xs (pos_of_ne-zero ne) in
    let c = Contains-permutation xs zs e.0 p e.1 in
    let place : e.0.number < length ys = subst (λ m. m < length ys) (sym e.2) (subst (λ m. n < m) (stored_length f zs ys) low) in
    let dz : AreDistinct (numbers zs) = λ m. (let t = times_permutation m xs zs p in let h = d m in omega arith) in
    subst (λ m. get_or (stored_by f zs ys) m None ≡ get_or (stored_by f xs ys) m None) e.2
    (present f zs c.0 e.0 ys c.1 c.2 dz place ∙ sym (present f xs e.1.0 e.0 ys e.1.1 e.1.2 d place)))))

set_after : {X : Type 0} (front : List (Option X)) (b x : Option X) (back : List (Option X)) → set (front ++ b ∷ back) (length front) x ≡ (front ++ x ∷ []) ++ back
set_after [] b x back = refl
set_after (f ∷ front) b x back = ap (λ l. f ∷ l) (set_after front b x back)

-- answers by rising number are kept as they stand
pub in_order : {X : Type 0} (f : Answer → X) (ws : List Answer) (front back : List (Option X)) → length back ≡ length ws → numbers ws ≡ numbers_from (length front) (length ws) → stored_by f ws (front ++ back) ≡ front ++ map (λ a. Some (f a)) ws
in_order f [] front [] long up = refl
in_order f [] front (b ∷ back) long up = absurd (omega arith)
in_order f (w ∷ ws) front [] long up = absurd (omega arith)
in_order {X = X} f (w ∷ ws) front (b ∷ back) long up =
    let x : Option X = Some (f w) in
    let first : w.number ≡ length front = ap (λ (l : List ℕ). get_or l 0 0) up in
    let longer : length (front ++ x ∷ []) ≡ length front + 1 = length-append front (x ∷ []) in
    let rest : numbers ws ≡ numbers_from (length (front ++ x ∷ [])) (length ws) = ap (λ (l : List ℕ). drop 1 l) up ∙ ap (λ (n : ℕ). numbers_from n (length ws)) (sym longer) in
    ap (λ (n : ℕ). stored_by f ws (set (front ++ b ∷ back) n x)) first
    ∙ ap (stored_by f ws) (set_after front b x back)
    ∙ in_order f ws (front ++ x ∷ []) back (omega arith) rest
    ∙ append_assoc front (x ∷ []) (map (λ a. Some (f a)) ws)

-- places for answers are places for them in another order
below_of : (n m : ℕ) (xs : List Answer) → HavePlaces n xs → 0 < times m (numbers xs) → m < n
below_of n m [] places some_ = absurd (omega arith)
below_of n m (x ∷ xs) places some_ = dite (ℕ_discrete x.number m)
    (λ e. subst (λ k. k < n) e places.0)
    (λ ne. let z = once_there m x.number ne in below_of n m xs places.1 (omega arith))

of_below : (n : ℕ) (xs : List Answer) → ((m : ℕ) → 0 < times m (numbers xs) → m < n) → HavePlaces n xs
of_below n [] h = tt
of_below n (x ∷ xs) h = (h x.number (let o = once_here x.number x.number refl in omega arith), of_below n xs (λ m some_. h m (omega arith)))

pub places_permutation : (n : ℕ) (xs zs : List Answer) → IsPermutation xs zs → HavePlaces n xs → HavePlaces n zs
places_permutation n xs zs p places = of_below n zs (λ m some_. below_of n m xs places (let t = times_permutation m xs zs p in omega arith))
