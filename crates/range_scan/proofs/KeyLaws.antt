-- Rising lists of keys, and their merge.
use Rattle.std.proofs.Common.{◌≡◌, ⊎_elim, ℕ, ◌+◌, ◌<◌, ◌≤◌, ◌==◌, ◌||◌, ◌&&◌, List, [], ◌∷◌, ◌++◌, length, Bool, true, false, cond, Some, None, refl, sym, ◌∙◌, ap, subst, arith}
use Rattle.std.specs.Prelude.{slice_get}
use Rattle.std.specs.List.{AllByRecursion}
use Rattle.std.proofs.lemmas.Bool.{eq-eqb, ne_eqb, eqb-true, or_left, or_right, or_from, or_cases, and_right}
use Rattle.std.proofs.lemmas.List.Folds.{list_any-append}
use Rattle.store_image.specs.Listing.{IsRising}
use Rattle.range_scan.specs.Keys.{has, IsUnion, IsLeast, IsBehind}

pub none_there : (xs : List ℕ) → None ≡ slice_get xs 0 → xs ≡ []
none_there [] is = refl
none_there (y ∷ ys) is = absurd (cc is)

low_from : (m x : ℕ) (xs : List ℕ) → m ≤ x → AllByRecursion (λ y. x < y) xs → AllByRecursion (λ y. m ≤ y) xs
low_from m x [] le all = tt
low_from m x (y ∷ ys) le all = (let a = all.0 in omega (arith, a, le), low_from m x ys le all.1)

above_from : (m x : ℕ) (xs : List ℕ) → m ≤ x → AllByRecursion (λ y. x < y) xs → AllByRecursion (λ y. m < y) xs
above_from m x [] le all = tt
above_from m x (y ∷ ys) le all = (let a = all.0 in omega (arith, a, le), above_from m x ys le all.1)

pub has_here : (x : ℕ) (xs : List ℕ) → has (x ∷ xs) x ≡ true
has_here x xs = or_left (x == x) (has xs x) (eq-eqb x x refl)

pub has_above : (m : ℕ) (xs : List ℕ) → AllByRecursion (λ y. m < y) xs → has xs m ≡ false
has_above m [] all = refl
has_above m (y ∷ ys) all = let lt = all.0 in or_from (y == m) (has ys m) (ne_eqb y m (λ e. absurd (omega (arith, lt, e)))) (has_above m ys all.1)

all_has : (P : ℕ → Type 0) (xs : List ℕ) (k : ℕ) → AllByRecursion P xs → has xs k ≡ true → P k
all_has P [] k all is = absurd (cc is)
all_has P (x ∷ xs) k all is = ⊎_elim
    (λ (here : (x == k) ≡ true). subst P (eqb-true x k here) all.0)
    (λ (there : has xs k ≡ true). all_has P xs k all.1 there)
    (or_cases (x == k) (has xs k) is)

-- the lesser of two heads
pub least_left : (xs ys : List ℕ) (x y : ℕ) → Some x ≡ slice_get xs 0 → Some y ≡ slice_get ys 0 → IsRising xs → IsRising ys → x ≤ y → IsLeast xs ys x
least_left [] ys x y a b rx ry le = absurd (cc a)
least_left (u ∷ us) [] x y a b rx ry le = absurd (cc b)
least_left (u ∷ us) (v ∷ vs) x y a b rx ry le =
    let e : x ≡ u = cc a in
    let f : y ≡ v = cc b in
    record {
      there = or_left (has (u ∷ us) x) (has (v ∷ vs) x) (subst (λ (k : ℕ). has (u ∷ us) k ≡ true) (sym e) (has_here u us));
      low = ((omega (arith, e), low_from x u us (omega (arith, e)) rx.0), (omega (arith, le, f), low_from x v vs (omega (arith, le, f)) ry.0));
    }

pub least_right : (xs ys : List ℕ) (x y : ℕ) → Some x ≡ slice_get xs 0 → Some y ≡ slice_get ys 0 → IsRising xs → IsRising ys → y ≤ x → IsLeast xs ys y
least_right [] ys x y a b rx ry le = absurd (cc a)
least_right (u ∷ us) [] x y a b rx ry le = absurd (cc b)
least_right (u ∷ us) (v ∷ vs) x y a b rx ry le =
    let e : x ≡ u = cc a in
    let f : y ≡ v = cc b in
    record {
      there = or_right (has (u ∷ us) y) (has (v ∷ vs) y) (subst (λ (k : ℕ). has (v ∷ vs) k ≡ true) (sym f) (has_here v vs));
      low = ((omega (arith, le, e), low_from y u us (omega (arith, le, e)) rx.0), (omega (arith, f), low_from y v vs (omega (arith, f)) ry.0));
    }

-- the only head
pub least_front : (xs ys : List ℕ) (x : ℕ) → Some x ≡ slice_get xs 0 → None ≡ slice_get ys 0 → IsRising xs → IsLeast xs ys x
least_front [] ys x a b rx = absurd (cc a)
least_front (u ∷ us) (v ∷ vs) x a b rx = absurd (cc b)
least_front (u ∷ us) [] x a b rx =
    let e : x ≡ u = cc a in
    record {
      there = or_left (has (u ∷ us) x) false (subst (λ (k : ℕ). has (u ∷ us) k ≡ true) (sym e) (has_here u us));
      low = ((omega (arith, e), low_from x u us (omega (arith, e)) rx.0), tt);
    }

pub least_back : (xs ys : List ℕ) (y : ℕ) → None ≡ slice_get xs 0 → Some y ≡ slice_get ys 0 → IsRising ys → IsLeast xs ys y
least_back (u ∷ us) ys y a b ry = absurd (cc a)
least_back [] [] y a b ry = absurd (cc b)
least_back [] (v ∷ vs) y a b ry =
    let f : y ≡ v = cc b in
    record {
      there = subst (λ (k : ℕ). has (v ∷ vs) k ≡ true) (sym f) (has_here v vs);
      low = (tt, (omega (arith, f), low_from y v vs (omega (arith, f)) ry.0));
    }

and_true : (b : Bool) → b ≡ (b && true)
and_true true = refl
and_true false = refl

-- what stands behind a key: of a list that begins with it, and of one that doesn't
behind_head : (x m : ℕ) (xs : List ℕ) → x ≡ m → IsRising (x ∷ xs) → IsBehind (x ∷ xs) m xs
behind_head x m xs e rising =
    let there : has (x ∷ xs) m ≡ true = subst (λ (k : ℕ). has (x ∷ xs) k ≡ true) e (has_here x xs) in
    record {
      rising = rising.1;
      above = subst (λ (k : ℕ). AllByRecursion (λ y. k < y) xs) e rising.0;
      each = λ k. ap (λ (n : ℕ). (n == k) || has xs k) e ∙ ap (λ b. b || has xs k) (and_true (m == k)) ∙ ap (λ b. (m == k && b) || has xs k) (sym there);
      shorter = ap (λ b. length xs + cond b 1 0) there ∙ omega arith;
    }

pub behind_first : (xs : List ℕ) (x m : ℕ) (rest : List ℕ) → Some x ≡ slice_get xs 0 → x ≡ m → IsRising xs → ((y : ℕ) (ys : List ℕ) → xs ≡ y ∷ ys → rest ≡ ys) → IsBehind xs m rest
behind_first [] x m rest is e rising tail = absurd (cc is)
behind_first (y ∷ ys) x m rest is e rising tail =
    let here : x ≡ y = cc is in
    subst (IsBehind (y ∷ ys) m) (sym (tail y ys refl)) (behind_head y m ys (sym here ∙ e) rising)

stays : (xs : List ℕ) (m : ℕ) → IsRising xs → AllByRecursion (λ y. m < y) xs → IsBehind xs m xs
stays xs m rising above =
    let none = has_above m xs above in
    record {
      rising = rising;
      above = above;
      each = λ k. sym (ap (λ b. (m == k && b) || has xs k) none ∙ ap (λ b. b || has xs k) (and_right (m == k) false refl));
      shorter = ap (λ b. length xs + cond b 1 0) none ∙ omega arith;
    }

pub behind_other : (xs : List ℕ) (x m : ℕ) → Some x ≡ slice_get xs 0 → (x ≡ m → ⊥) → IsRising xs → AllByRecursion (λ y. m ≤ y) xs → IsBehind xs m xs
behind_other [] x m is ne rising low = absurd (cc is)
behind_other (y ∷ ys) x m is ne rising low =
    let here : x ≡ y = cc is in
    let le = low.0 in
    let lt : m < y = strictly le (λ e. ne (here ∙ e)) in
    stays (y ∷ ys) m rising (lt, above_from m y ys (omega (arith, lt)) rising.0)
  where
    strictly : m ≤ y → (y ≡ m → ⊥) → m < y
    strictly le other = omega (arith, le, other)

pub behind_none : (xs : List ℕ) (m : ℕ) → None ≡ slice_get xs 0 → IsBehind xs m xs
behind_none [] m is = stays [] m tt tt
behind_none (y ∷ ys) m is = absurd (cc is)

-- The keys so far are below those that are left, and with them they are those of both lists.
pub record Merging (left right out front back : List ℕ) : Type 0 where
  pub rising : IsRising out
  pub front_rises : IsRising front
  pub back_rises : IsRising back
  pub low : (x : ℕ) → has out x ≡ true → AllByRecursion (λ y. x < y) front × AllByRecursion (λ y. x < y) back
  pub each : (k : ℕ) → (has out k || (has front k || has back k)) ≡ (has left k || has right k)

pub merging_none : (left right out : List ℕ) → out ≡ [] → IsRising left → IsRising right → Merging left right out left right
merging_none left right out is a b = subst (λ (xs : List ℕ). Merging left right xs left right) (sym is) (record {
  rising = tt;
  front_rises = a;
  back_rises = b;
  low = λ x is. absurd (cc is);
  each = λ k. refl;
})

rising_push : (xs : List ℕ) (m : ℕ) → IsRising xs → ((x : ℕ) → has xs x ≡ true → x < m) → IsRising (xs ++ m ∷ [])
rising_push [] m rising below = (tt, tt)
rising_push (x ∷ xs) m rising below = (all xs rising.0, rising_push xs m rising.1 (λ y is. below y (or_right (x == y) (has xs y) is))) where
  all : (ys : List ℕ) → AllByRecursion (λ y. x < y) ys → AllByRecursion (λ y. x < y) (ys ++ m ∷ [])
  all [] none = (below x (has_here x xs), tt)
  all (y ∷ ys) more = (more.0, all ys more.1)

bools : (p q u v s t : Bool) → (u || v) ≡ true → ((p || (q || false)) || (s || t)) ≡ (p || (((q && u) || s) || ((q && v) || t)))
bools true q u v s t e = refl
bools false true true v s t e = refl
bools false true false true true t e = refl
bools false true false true false t e = refl
bools false true false false s t e = absurd (cc e)
bools false false u v s t e = refl

-- the least key that is left goes over
module _ (left right out front back : List ℕ) (m : ℕ) (front' back' : List ℕ) (is : Merging left right out front back) (least : IsLeast front back m) (f : IsBehind front m front') (b : IsBehind back m back') where
  below : (x : ℕ) → has out x ≡ true → x < m
  below x has_x = ⊎_elim
      (λ (here : has front m ≡ true). all_has (λ y. x < y) front m (is.low x has_x).0 here)
      (λ (here : has back m ≡ true). all_has (λ y. x < y) back m (is.low x has_x).1 here)
      (or_cases (has front m) (has back m) least.there)

  low : (x : ℕ) → has (out ++ m ∷ []) x ≡ true → x ≤ m
  low x there = ⊎_elim
      (λ (before : has out x ≡ true). let lt = below x before in omega (arith, lt))
      (λ (now : has (m ∷ []) x ≡ true). ⊎_elim
      (λ (same : (m == x) ≡ true). let e = eqb-true m x same in omega (arith, e))
      (λ (no : false ≡ true). absurd (cc no))
      (or_cases (m == x) false now))
      (or_cases (has out x) (has (m ∷ []) x) (sym (list_any-append (λ j. j == x) out (m ∷ [])) ∙ there))

  pub merging_more : Merging left right (out ++ m ∷ []) front' back'
  merging_more = record {
    rising = rising_push out m is.rising below;
    front_rises = f.rising;
    back_rises = b.rising;
    low = λ x there. (above_from x m front' (low x there) f.above, above_from x m back' (low x there) b.above);
    each = λ k.
        ap (λ p. p || (has front' k || has back' k)) (list_any-append (λ j. j == k) out (m ∷ []))
        ∙ bools (has out k) (m == k) (has front m) (has back m) (has front' k) (has back' k) least.there
        ∙ ap (λ p. has out k || (p || ((m == k && has back m) || has back' k))) (sym (f.each k))
        ∙ ap (λ p. has out k || (has front k || p)) (sym (b.each k))
        ∙ is.each k;
  }

  pub merging_less : length front' + length back' < length front + length back
  merging_less =
      let p = f.shorter in
      let q = b.shorter in
      ⊎_elim
      (λ (here : has front m ≡ true). let e = ap (λ c. length front' + cond c 1 0) (sym here) ∙ p in less_by (has back m) (length front') (length back') (length front) (length back) e q)
      (λ (here : has back m ≡ true). let e = ap (λ c. length back' + cond c 1 0) (sym here) ∙ q in let lt = less_by (has front m) (length back') (length front') (length back) (length front) e p in omega (arith, lt))
      (or_cases (has front m) (has back m) least.there)
    where
      less_by : (c : Bool) (a b a' b' : ℕ) → a + 1 ≡ a' → b + cond c 1 0 ≡ b' → a + b < a' + b'
      less_by true a b a' b' e g = omega (arith, e, g)
      less_by false a b a' b' e g = omega (arith, e, g)

or_none : (b : Bool) → b ≡ (b || (false || false))
or_none true = refl
or_none false = refl

pub merging_end : (left right out front back : List ℕ) → Merging left right out front back → front ≡ [] → back ≡ [] → IsUnion left right out
merging_end left right out front back is a b = record {
  rising = is.rising;
  each = λ k. or_none (has out k) ∙ ap (λ (xs : List ℕ). has out k || (has xs k || false)) (sym a) ∙ ap (λ (ys : List ℕ). has out k || (has front k || has ys k)) (sym b) ∙ is.each k;
}
