-- How often an entry stands in lists.
use Rattle.std.proofs.Common.{◌≡◌, ℕ, zero, suc, ◌+◌, ◌<◌, ◌≤◌, Bool, true, false, cond, ◌&&◌, eqb, List, [], ◌∷◌, ◌++◌, inl, inr, arith, refl, ap, ◌∙◌}
use Rattle.std.proofs.lemmas.Bool.{eqb-true, eq-eqb, and_parts, and_from, cases_eq}
use Rattle.log_entry.specs.declared.entry.Body.{Body}
use Rattle.log_entry.specs.declared.entry.Entry.{Entry}
use Rattle.group_laws.specs.Updates.{same_body, same_entry, same_list, sum_below, times}
use Rattle.log_entry.specs.declared.entry.Body.TheVariants.{Pointer, Embedded, Tombstone}

same_list-true : (xs ys : List ℕ) → same_list xs ys ≡ true → xs ≡ ys
same_list-true [] [] t = refl
same_list-true [] (y ∷ ys) t = absurd (cc t)
same_list-true (x ∷ xs) [] t = absurd (cc t)
same_list-true (x ∷ xs) (y ∷ ys) t = let both = and_parts (eqb x y) (same_list xs ys) t in let h = eqb-true x y both.0 in let r = same_list-true xs ys both.1 in cc (h, r)

same_list-itself : (xs : List ℕ) → same_list xs xs ≡ true
same_list-itself [] = refl
same_list-itself (x ∷ xs) = and_from (eqb x x) (same_list xs xs) (eq-eqb x x refl) (same_list-itself xs)

same_body-true : (x y : Body) → same_body x y ≡ true → x ≡ y
same_body-true (Pointer p) (Pointer q) t = ap Pointer (eqb-true p q t)
same_body-true (Embedded v) (Embedded u) t = ap Embedded (same_list-true v u t)
same_body-true Tombstone Tombstone t = refl
same_body-true (Pointer p) (Embedded u) t = absurd (cc t)
same_body-true (Pointer p) Tombstone t = absurd (cc t)
same_body-true (Embedded v) (Pointer q) t = absurd (cc t)
same_body-true (Embedded v) Tombstone t = absurd (cc t)
same_body-true Tombstone (Pointer q) t = absurd (cc t)
same_body-true Tombstone (Embedded u) t = absurd (cc t)

same_body-itself : (x : Body) → same_body x x ≡ true
same_body-itself (Pointer p) = eq-eqb p p refl
same_body-itself (Embedded v) = same_list-itself v
same_body-itself Tombstone = refl

entry_parts : (x y : Entry) → x.key ≡ y.key → x.version ≡ y.version → x.body ≡ y.body → x ≡ y
entry_parts x y k v b = λ i. record { key = k i; version = v i; body = b i }

pub same_entry-true : (x y : Entry) → same_entry x y ≡ true → x ≡ y
same_entry-true x y t =
    let one = and_parts (eqb x.key y.key) (eqb x.version y.version && same_body x.body y.body) t in
    let two = and_parts (eqb x.version y.version) (same_body x.body y.body) one.1 in
    entry_parts x y (eqb-true x.key y.key one.0) (eqb-true x.version y.version two.0) (same_body-true x.body y.body two.1)

pub same_entry-itself : (x : Entry) → same_entry x x ≡ true
same_entry-itself x = and_from (eqb x.key x.key) (eqb x.version x.version && same_body x.body x.body) (eq-eqb x.key x.key refl) (and_from (eqb x.version x.version) (same_body x.body x.body) (eq-eqb x.version x.version refl) (same_body-itself x.body))

pub times-same : (e : Entry) (xs : List Entry) → times e (e ∷ xs) ≡ times e xs + 1
times-same e xs = ap (λ (b : Bool). cond b (times e xs + 1) (times e xs)) (same_entry-itself e)

pub times-other : (e x : Entry) (xs : List Entry) → same_entry e x ≡ false → times e (x ∷ xs) ≡ times e xs
times-other e x xs d = ap (λ (b : Bool). cond b (times e xs + 1) (times e xs)) d

-- one more entry never lowers the count
pub times-more : (e x : Entry) (xs : List Entry) → times e xs ≤ times e (x ∷ xs)
times-more e x xs = grind arith

times-push : (e x : Entry) (xs : List Entry) → times e (xs ++ x ∷ []) ≡ times e (x ∷ xs)
times-push e x [] = refl
times-push e x (y ∷ xs) = let rest = times-push e x xs in push_step (same_entry e y) (same_entry e x) (times e xs) (times e (xs ++ x ∷ [])) rest
  where
    push_step : (b c : Bool) (n r : ℕ) → r ≡ cond c (n + 1) n → cond b (r + 1) r ≡ cond c (cond b (n + 1) n + 1) (cond b (n + 1) n)
    push_step true true n r h = omega (arith, h)
    push_step true false n r h = omega (arith, h)
    push_step false true n r h = h
    push_step false false n r h = h

pub times-push_same : (e : Entry) (xs : List Entry) → times e (xs ++ e ∷ []) ≡ times e xs + 1
times-push_same e xs = times-push e e xs ∙ times-same e xs

pub times-push_other : (e x : Entry) (xs : List Entry) → same_entry e x ≡ false → times e (xs ++ x ∷ []) ≡ times e xs
times-push_other e x xs d = times-push e x xs ∙ times-other e x xs d

pub times-push_more : (e x : Entry) (xs : List Entry) → times e xs ≤ times e (xs ++ x ∷ [])
times-push_more e x xs = let p = times-push e x xs in let m = times-more e x xs in omega (arith, p, m)

pub sum_same : (n : ℕ) (f g : ℕ → ℕ) → ((h : ℕ) → f h ≡ g h) → sum_below n f ≡ sum_below n g
sum_same zero f g e = refl
sum_same (suc n) f g e = let below = sum_same n f g e in let here = e n in omega (arith, below, here)

sum_before : (n m : ℕ) (f g : ℕ → ℕ) → n ≤ m → ((h : ℕ) → (h ≡ m → ⊥) → f h ≡ g h) → sum_below n f ≡ sum_below n g
sum_before zero m f g l e = refl
sum_before (suc n) m f g l e = let below = sum_before n m f g (omega arith) e in let here = e n (λ i. absurd (omega (arith, i, l))) in omega (arith, below, here)

-- a sum whose term at m is one more
pub sum_more : (n m : ℕ) (f g : ℕ → ℕ) → m < n → f m ≡ g m + 1 → ((h : ℕ) → (h ≡ m → ⊥) → f h ≡ g h) → sum_below n f ≡ sum_below n g + 1
sum_more zero m f g l t e = absurd (omega arith)
sum_more (suc n) m f g l t e = elim (cases_eq n m) [
  | inl i ↦ let below = sum_before n m f g (omega (arith, i)) e in let at = ap f i in let ag = ap g i in omega (arith, below, at, ag, t)
  | inr ne ↦ let below = sum_more n m f g (omega (arith, l, ne)) t e in let here = e n ne in omega (arith, below, here)
]
