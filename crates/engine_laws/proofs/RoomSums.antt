-- Sums over lists, and entries that stand in other lists as often.
use Rattle.std.proofs.Common.{◌≡◌, ◌≢◌, ◌⊎◌, inl, inr, ⊎_elim, ℕ, zero, suc, ◌+◌, ◌*◌, ◌<◌, ◌≤◌, List, [], ◌∷◌, ◌++◌, Bool, true, false, cond, refl, sym, ◌∙◌, ap, arith, Some}
use Rattle.std.specs.List.{sum_by, enumerate_from, slice_get}
use Rattle.std.proofs.lemmas.Bool.{cases_eq}
use Rattle.std.proofs.lemmas.List.Sums.{sum_by-cons, sum_by-append}
use Rattle.log_entry.specs.declared.entry.Entry.{Entry}
use Rattle.fs_model.specs.declared.model.Request.{Request}
use Rattle.chunk_map.specs.Layouts.{numbers}
use Rattle.store_image.specs.Facts.{In}
use Rattle.group_laws.specs.Updates.{same_entry, times, sum_below}
use Rattle.group_laws.proofs.Clients.{same_entry-true, times-same, times-other}
use Rattle.engine_laws.specs.Spending.{lines_in}

pub sum_cons : {X : Type 0} (f : X → ℕ) (x : X) (xs : List X) → sum_by f (x ∷ xs) ≡ f x + sum_by f xs
sum_cons f x xs = sum_by-cons f x xs

-- a sum whose terms are no less, and one that is more
pub sum_up : {X : Type 0} (f g : X → ℕ) (xs : List X) → ((x : X) → In x xs → f x ≤ g x) → sum_by f xs ≤ sum_by g xs
sum_up f g [] h = omega arith
sum_up f g (x ∷ xs) h =
    let one = h x (inl refl) in
    let rest = sum_up f g xs (λ y i. h y (inr i)) in
    let a = sum_cons f x xs in
    let b = sum_cons g x xs in
    omega (arith, one, rest, a, b)

pub sum_more_at : {X : Type 0} (f g : X → ℕ) (xs : List X) (y : X) (d : ℕ) → In y xs → ((x : X) → In x xs → f x ≤ g x) → f y + d ≤ g y → sum_by f xs + d ≤ sum_by g xs
sum_more_at f g [] y d i h more = absurd i
sum_more_at f g (x ∷ xs) y d (inl e) h more =
    let same = ap f e in
    let also = ap g e in
    let rest = sum_up f g xs (λ z i. h z (inr i)) in
    let a = sum_cons f x xs in
    let b = sum_cons g x xs in
    omega (arith, more, rest, a, b, same, also)
sum_more_at f g (x ∷ xs) y d (inr i) h more =
    let one = h x (inl refl) in
    let rest = sum_more_at f g xs y d i (λ z j. h z (inr j)) more in
    let a = sum_cons f x xs in
    let b = sum_cons g x xs in
    omega (arith, one, rest, a, b)

-- over numbered requests, of the requests alone
pub sum_numbered : (f : Request → ℕ) (n : ℕ) (xs : List Request) → sum_by (λ (x : ℕ × Request). f x.1) (enumerate_from n xs) ≡ sum_by f xs
sum_numbered f n [] = refl
sum_numbered f n (x ∷ xs) =
    let rest = sum_numbered f (n + 1) xs in
    let a = sum_cons (λ (y : ℕ × Request). f y.1) (n, x) (enumerate_from (n + 1) xs) in
    let b = sum_cons f x xs in
    omega (arith, rest, a, b)

pub sum_times : {X : Type 0} (k : ℕ) (f : X → ℕ) (xs : List X) → sum_by (λ x. k * f x) xs ≡ k * sum_by f xs
sum_times k f [] = omega arith
sum_times k f (x ∷ xs) =
    let rest = sum_times k f xs in
    let a = sum_cons (λ y. k * f y) x xs in
    let b = sum_cons f x xs in
    let c : k * (f x + sum_by f xs) ≡ k * f x + k * sum_by f xs = omega arith in
    let d = ap (λ n. k * n) b in
    omega (arith, rest, a, c, d)

-- a numbered request is the one with its number
pub in_enumerated : (n : ℕ) (xs : List Request) (x : ℕ × Request) → In x (enumerate_from n xs) → (i : ℕ) × (x.0 ≡ n + i) × (slice_get xs i ≡ Some x.1)
in_enumerated n [] x i = absurd i
in_enumerated n (y ∷ ys) x (inl e) = (0, (let z = ap (λ (w : ℕ × Request). w.0) e in omega (arith, z)), ap (λ (w : ℕ × Request). Some w.1) (sym e))
in_enumerated n (y ∷ ys) x (inr i) = let r = in_enumerated (n + 1) ys x i in (suc r.0, (let e = r.1 in omega (arith, e)), r.2)

pub number_once : (xs : List Request) (x y : ℕ × Request) → In x (enumerate_from 0 xs) → In y (enumerate_from 0 xs) → x.0 ≡ y.0 → x.1 ≡ y.1
number_once xs x y i j e =
    let a = in_enumerated 0 xs x i in
    let b = in_enumerated 0 xs y j in
    let p = a.1 in
    let q = b.1 in
    let at : a.0 ≡ b.0 = omega (arith, p, q, e) in
    let both : Some x.1 ≡ Some y.1 = sym a.2 ∙ ap (slice_get xs) at ∙ b.2 in
    cc both

-- sums below a number
pub below_up : (n : ℕ) (f g : ℕ → ℕ) → ((h : ℕ) → f h ≤ g h) → sum_below n f ≤ sum_below n g
below_up zero f g le = omega arith
below_up (suc n) f g le = let rest = below_up n f g le in let one = le n in omega (arith, rest, one)

pub below_one : (n m d : ℕ) (f g : ℕ → ℕ) → ((h : ℕ) → h ≢ m → g h ≤ f h) → g m ≤ f m + d → sum_below n g ≤ sum_below n f + d
below_one n m d f g others here = by n where
  under : (n : ℕ) → n ≤ m → sum_below n g ≤ sum_below n f
  under zero le = omega arith
  under (suc n) le = let rest = under n (omega (arith, le)) in let one = others n (λ e. absurd (omega (arith, e, le))) in omega (arith, rest, one)

  by : (n : ℕ) → sum_below n g ≤ sum_below n f + d
  by zero = omega arith
  by (suc n) = ⊎_elim
      (λ same. let rest = under n (omega (arith, same)) in let at = ap g same in let also = ap f same in omega (arith, rest, here, at, also))
      (λ ne. let rest = by n in let one = others n ne in omega (arith, rest, one))
      (cases_eq n m)

-- a sum over numbers, where one term is one more
pub numbers_one : (from n k : ℕ) (f g : ℕ → ℕ) → from ≤ k → k < from + n → ((c : ℕ) → f c ≤ g c) → f k + 1 ≤ g k → sum_by f (numbers from n) + 1 ≤ sum_by g (numbers from n)
numbers_one from zero k f g low high le more = absurd (omega (arith, low, high))
numbers_one from (suc n) k f g low high le more =
    let a = sum_cons f from (numbers (suc from) n) in
    let b = sum_cons g from (numbers (suc from) n) in
    ⊎_elim
    (λ same. let rest = sum_up f g (numbers (suc from) n) (λ c i. le c) in let at = ap f same in let also = ap g same in omega (arith, rest, a, b, more, at, also))
    (λ ne. let rest = numbers_one (suc from) n k f g (omega (arith, low, ne)) (omega (arith, high)) le more in let one = le from in omega (arith, rest, a, b, one))
    (cases_eq k from)

-- an entry less
drop_one : Entry → List Entry → List Entry
drop_one e [] = []
drop_one e (x ∷ xs) = cond (same_entry e x) xs (x ∷ drop_one e xs)

drop_lines : (e : Entry) (xs : List Entry) → 1 ≤ times e xs → lines_in xs ≡ lines_in (e ∷ []) + lines_in (drop_one e xs)
unfolding drop_one
drop_lines e [] some = absurd (omega (arith, some))
drop_lines e (x ∷ xs) some = by (same_entry e x) refl (λ h. drop_lines e xs h) where
  cons : (y : Entry) (ys : List Entry) → lines_in (y ∷ ys) ≡ lines_in (y ∷ []) + lines_in ys
  cons y ys = sum_by-append _ (y ∷ []) ys

  by : (b : Bool) → same_entry e x ≡ b → (1 ≤ times e xs → lines_in xs ≡ lines_in (e ∷ []) + lines_in (drop_one e xs)) → lines_in (x ∷ xs) ≡ lines_in (e ∷ []) + lines_in (cond (same_entry e x) xs (x ∷ drop_one e xs))
  by true t again = cons x xs ∙ (λ i. lines_in (sym (same_entry-true e x t) i ∷ []) + lines_in xs) ∙ ap (λ b. lines_in (e ∷ []) + lines_in (cond b xs (x ∷ drop_one e xs))) (sym t)
  by false t again =
      let rest = again (let same = times-other e x xs t in omega (arith, some, same)) in
      let a = cons x xs in
      let b = cons x (drop_one e xs) in
      let c = ap (λ b. lines_in (e ∷ []) + lines_in (cond b xs (x ∷ drop_one e xs))) t in
      omega (arith, rest, a, b, c)

drop_times : (d e : Entry) (xs : List Entry) → 1 ≤ times e xs → times d xs ≡ times d (e ∷ []) + times d (drop_one e xs)
unfolding drop_one
drop_times d e [] some = absurd (omega (arith, some))
drop_times d e (x ∷ xs) some = by (same_entry e x) refl (λ h. drop_times d e xs h) where
  cons : (y : Entry) (ys : List Entry) → times d (y ∷ ys) ≡ times d (y ∷ []) + times d ys
  cons y ys = one (same_entry d y) where
    one : (b : Bool) → cond {A = ℕ} b (times d ys + 1) (times d ys) ≡ cond {A = ℕ} b 1 0 + times d ys
    one true = omega arith
    one false = omega arith

  by : (b : Bool) → same_entry e x ≡ b → (1 ≤ times e xs → times d xs ≡ times d (e ∷ []) + times d (drop_one e xs)) → times d (x ∷ xs) ≡ times d (e ∷ []) + times d (cond (same_entry e x) xs (x ∷ drop_one e xs))
  by true t again = cons x xs ∙ (λ i. times d (sym (same_entry-true e x t) i ∷ []) + times d xs) ∙ ap (λ b. times d (e ∷ []) + times d (cond b xs (x ∷ drop_one e xs))) (sym t)
  by false t again =
      let rest = again (let same = times-other e x xs t in omega (arith, some, same)) in
      let a = cons x xs in
      let b = cons x (drop_one e xs) in
      let c = ap (λ b. times d (e ∷ []) + times d (cond b xs (x ∷ drop_one e xs))) t in
      omega (arith, rest, a, b, c)

-- entries that stand in another list as often take no more lines
pub lines_within : (xs ys : List Entry) → ((e : Entry) → times e xs ≤ times e ys) → lines_in xs ≤ lines_in ys
lines_within [] ys le = omega arith
lines_within (x ∷ xs) ys le =
    let some : 1 ≤ times x ys = (let here = le x in let is = times-same x xs in omega (arith, here, is)) in
    let rest = lines_within xs (drop_one x ys) (λ e. (let all = le e in let split = drop_times e x ys some in let cons = times_cons e x xs in omega (arith, all, split, cons))) in
    let whole = drop_lines x ys some in
    let first : lines_in (x ∷ xs) ≡ lines_in (x ∷ []) + lines_in xs = sum_by-append _ (x ∷ []) xs in
    omega (arith, rest, whole, first)
  where
    times_cons : (e x : Entry) (xs : List Entry) → times e (x ∷ xs) ≡ times e (x ∷ []) + times e xs
    times_cons e x xs = one (same_entry e x) where
      one : (b : Bool) → cond {A = ℕ} b (times e xs + 1) (times e xs) ≡ cond {A = ℕ} b 1 0 + times e xs
      one true = omega arith
      one false = omega arith

-- the lists below a number, one after another
all_below : ℕ → (ℕ → List Entry) → List Entry
all_below zero f = []
all_below (suc n) f = all_below n f ++ f n

times_append : (e : Entry) (xs ys : List Entry) → times e (xs ++ ys) ≡ times e xs + times e ys
times_append e [] ys = omega arith
times_append e (x ∷ xs) ys = by (same_entry e x) (times_append e xs ys) where
  by : (b : Bool) → times e (xs ++ ys) ≡ times e xs + times e ys → cond {A = ℕ} b (times e (xs ++ ys) + 1) (times e (xs ++ ys)) ≡ cond {A = ℕ} b (times e xs + 1) (times e xs) + times e ys
  by true h = omega (arith, h)
  by false h = h

lines_below : (n : ℕ) (f : ℕ → List Entry) → lines_in (all_below n f) ≡ sum_below n (λ m. lines_in (f m))
unfolding all_below
lines_below zero f = refl
lines_below (suc n) f = let rest = lines_below n f in let split : lines_in (all_below n f ++ f n) ≡ lines_in (all_below n f) + lines_in (f n) = sum_by-append _ (all_below n f) (f n) in omega (arith, rest, split)

times_below : (n m : ℕ) (f : ℕ → List Entry) (e : Entry) → m < n → times e (f m) ≤ times e (all_below n f)
unfolding all_below
times_below zero m f e lt = absurd (omega (arith, lt))
times_below (suc n) m f e lt =
    let split = times_append e (all_below n f) (f n) in
    ⊎_elim
    (λ same. let at = ap (λ i. times e (f i)) same in omega (arith, split, at))
    (λ ne. let rest = times_below n m f e (omega (arith, lt, ne)) in omega (arith, split, rest))
    (cases_eq m n)

-- so do those that stand as often in one of some lists
pub lines_among : (n : ℕ) (xs : List Entry) (f : ℕ → List Entry) → ((e : Entry) → (m : ℕ) × (times e xs ≤ times e (f m)) × ((m < n) ⊎ (f m ≡ []))) → lines_in xs ≤ sum_below n (λ m. lines_in (f m))
lines_among n xs f le =
    let all = lines_within xs (all_below n f) (λ e. one e (le e)) in
    let is = lines_below n f in
    omega (arith, all, is)
  where
    one : (e : Entry) → (m : ℕ) × (times e xs ≤ times e (f m)) × ((m < n) ⊎ (f m ≡ [])) → times e xs ≤ times e (all_below n f)
    one e h = ⊎_elim
        (λ lt. let in_all = times_below n h.0 f e lt in let here = h.1 in omega (arith, in_all, here))
        (λ none. let zero_is = ap (times e) none in let here = h.1 in omega (arith, zero_is, here))
        h.2
