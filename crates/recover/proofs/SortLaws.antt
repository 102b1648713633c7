-- Found entries that were sorted in place by name and word: those of one name are as they were, where the words rise.
use Rattle.std.proofs.Common.{◌≡◌, inl, inr, ℕ, zero, suc, ◌+◌, ◌<◌, ◌≤◌, ◌==◌, Bool, true, false, cond, ltb, List, [], ◌∷◌, length, get_or, refl, sym, ◌∙◌, ap, subst, arith}
use Rattle.std.specs.Prelude.{filter}
use Rattle.std.specs.List.{AllByRecursion, Contains, sum_by}
use Rattle.std.specs.List.Sorted.{IsPermutation, IsSortedByKey}
use Rattle.std.specs.Ordering.{nat_cmp, is_lt, ordering_then}
use Rattle.std.specs.declared.cmp.Ordering.{Ordering}
use Rattle.std.specs.declared.cmp.Ordering.TheVariants.{Less, Equal, Greater}
use Rattle.std.specs.Cmp.{IsTotalOrder}
use Rattle.std.proofs.lemmas.Cmp.{nat_cmp_total, on_total, then_total}
use Rattle.std.proofs.lemmas.List.Sorted.{ranks_by, sorted_far, sum_by-IsPermutation, Contains-permutation, IsPermutation-sym}
use Rattle.std.proofs.lemmas.List.Sums.{sum_by-cons}
use Rattle.std.proofs.lemmas.Bool.{eqb-true, eq-eqb, ne_eqb, ltb-false, le-ltb, and_parts}
use Rattle.store_image.specs.Facts.{In}
use Rattle.recover.specs.declared.found_entries.Found.{Found}
use Rattle.recover.specs.Clashes.{name_cmp}
use Rattle.recover.specs.FoundEntries.{AreInOrder, is_found, AreByName, RiseByWord, WordsKeep}
use Rattle.recover.proofs.NameLaws.{less_of, in_at, in_filter, filter_in, all_of, one_of}

-- the name and the word
abbrev pub key_of : Found → ℕ × ℕ × ℕ
key_of f = (f.key, f.version, f.at)

abbrev pub key_cmp : ℕ × ℕ × ℕ → ℕ × ℕ × ℕ → Ordering
key_cmp = λ x y. ordering_then (ordering_then (nat_cmp x.0 y.0) (nat_cmp x.1 y.1)) (nat_cmp x.2 y.2)

then_lt : (o r : Ordering) → is_lt (ordering_then o r) ≡ false → is_lt o ≡ false
then_lt Less r e = e
then_lt Equal r e = refl
then_lt Greater r e = refl

pub named_order : (xs : List Found) → IsSortedByKey key_of key_cmp xs → AreInOrder xs
named_order xs sorted k d low high =
    let a = get_or xs (k + 1) d in
    let b = get_or xs k d in
    then_lt (name_cmp (a.key, a.version) (b.key, b.version)) (nat_cmp a.at b.at) (sorted k d low high)

-- words of one name don't fall
same_cmp : (n m : ℕ) → n ≡ m → nat_cmp n m ≡ Equal
same_cmp n m e = rw (le-ltb n m (omega (arith, e)), eq-eqb n m e) refl

word_low : (n m : ℕ) → is_lt (nat_cmp m n) ≡ false → n ≤ m
word_low n m e = elim (ltb m n) as (λ b. ltb m n ≡ b → is_lt (cond b Less (cond (m == n) Equal Greater)) ≡ false → n ≤ m) [
  | true ↦ λ t q. absurd (cc q)
  | false ↦ λ t q. ltb-false m n t
] refl e

at_most : (a b : Found) → a.key ≡ b.key → a.version ≡ b.version → is_lt (key_cmp (key_of b) (key_of a)) ≡ false → a.at ≤ b.at
at_most a b key version e =
    let ek : nat_cmp b.key a.key ≡ Equal = same_cmp b.key a.key (sym key) in
    let ev : nat_cmp b.version a.version ≡ Equal = same_cmp b.version a.version (sym version) in
    word_low a.at b.at (sym (λ i. is_lt (ordering_then (ordering_then (ek i) (ev i)) (nat_cmp b.at a.at))) ∙ e)

keys_total : IsTotalOrder key_cmp
keys_total = then_total (then_total (on_total (λ p. p.0) nat_cmp_total) (on_total (λ p. p.1) nat_cmp_total)) (on_total (λ p. p.2) nat_cmp_total)

abbrev WordsOfKeep : List Found → Type 0
WordsOfKeep [] = Unit {0}
WordsOfKeep (f ∷ fs) = ((g : Found) → In g fs → f.key ≡ g.key → f.version ≡ g.version → f.at ≤ g.at) × WordsOfKeep fs

keep_of : (fs : List Found) → ((i j : ℕ) (d : Found) → i ≤ j → j < length fs → (get_or fs i d).key ≡ (get_or fs j d).key → (get_or fs i d).version ≡ (get_or fs j d).version → (get_or fs i d).at ≤ (get_or fs j d).at) → WordsOfKeep fs
keep_of [] up = tt
keep_of (f ∷ fs) up = (
  λ g h key version. (let r = in_at g fs h in
      let l = r.1 in
      let e = r.2 f in
      let le = up zero (suc r.0) f (omega arith) (omega (arith, l)) (key ∙ sym (λ t. (e t).key)) (version ∙ sym (λ t. (e t).version)) in
      subst (λ (z : Found). f.at ≤ z.at) e le),
  keep_of fs (λ i j d le lt. up (suc i) (suc j) d (omega (arith, le)) (omega (arith, lt))),
)

pub words_keep_at : (xs : List Found) → IsSortedByKey key_of key_cmp xs → WordsKeep xs
words_keep_at xs sorted = λ i j d le lt key version. at_most (get_or xs i d) (get_or xs j d) key version (sorted_far (λ x y. is_lt (key_cmp (key_of x) (key_of y))) (ranks_by keys_total key_of) xs sorted i j d le lt)

words_keep : (xs : List Found) → IsSortedByKey key_of key_cmp xs → WordsOfKeep xs
words_keep xs sorted = keep_of xs (words_keep_at xs sorted)

-- of one name they rise or stay
abbrev WordsStay : List Found → Type 0
WordsStay [] = Unit {0}
WordsStay (f ∷ fs) = ((g : Found) → In g fs → f.at ≤ g.at) × WordsStay fs

passes : {X : Type 0} (p : X → Bool) (xs : List X) (x : X) → In x (filter p xs) → p x ≡ true
passes p [] x h = absurd h
passes p (y ∷ ys) x h = elim (p y) as (λ b. p y ≡ b → In x (cond b (y ∷ filter p ys) (filter p ys)) → p x ≡ true) [
  | true ↦ λ e h. first e (passes p ys x) h
  | false ↦ λ e h. passes p ys x h
] refl h where
  first : p y ≡ true → (In x (filter p ys) → p x ≡ true) → In x (y ∷ filter p ys) → p x ≡ true
  first e more (inl same) = ap p same ∙ e
  first e more (inr g) = more g

module _ (k v : ℕ) where
  named : (xs : List Found) (f : Found) → In f (filter (is_found k v) xs) → (f.key ≡ k) × (f.version ≡ v)
  named xs f h = let both = and_parts (f.key == k) (f.version == v) (passes (is_found k v) xs f h) in (eqb-true f.key k both.0, eqb-true f.version v both.1)

  stay_named : (xs : List Found) → WordsOfKeep xs → WordsStay (filter (is_found k v) xs)
  stay_named [] keep = tt
  stay_named (f ∷ fs) keep = elim (is_found k v f) as (λ b. is_found k v f ≡ b → WordsStay (cond b (f ∷ filter (is_found k v) fs) (filter (is_found k v) fs))) [
    | true ↦ λ e. (let both = and_parts (f.key == k) (f.version == v) e in
        let key = eqb-true f.key k both.0 in
        let version = eqb-true f.version v both.1 in
        (λ g h. (let n = named fs g h in keep.0 g (filter_in (is_found k v) fs g h) (key ∙ sym n.0) (version ∙ sym n.1)), stay_named fs keep.1))
    | false ↦ λ e. stay_named fs keep.1
  ] refl

  rise_named : (xs : List Found) → RiseByWord xs → RiseByWord (filter (is_found k v) xs)
  rise_named [] rise = tt
  rise_named (f ∷ fs) rise = elim (is_found k v f) as (λ b. RiseByWord (cond b (f ∷ filter (is_found k v) fs) (filter (is_found k v) fs))) [
    | true ↦ (all_of (λ (g : Found). f.at < g.at) (filter (is_found k v) fs) (λ g h. one_of (λ (g : Found). f.at < g.at) fs g rise.0 (filter_in (is_found k v) fs g h)), rise_named fs rise.1)
    | false ↦ rise_named fs rise.1
  ]

-- how many begin at a word
abbrev bit : ℕ → Found → ℕ
bit w f = cond (f.at == w) 1 0

abbrev total : ℕ → List Found → ℕ
total w fs = sum_by (bit w) fs

none_behind : (w : ℕ) (fs : List Found) → AllByRecursion (λ (g : Found). w < g.at) fs → total w fs ≡ 0
none_behind w [] all = refl
none_behind w (f ∷ fs) all =
    let no : (f.at == w) ≡ false = ne_eqb f.at w (λ p. let l = all.0 in omega (arith, l, p)) in
    sum_by-cons (bit w) f fs ∙ (λ i. cond (no i) 1 0 + total w fs) ∙ (let e : 0 + total w fs ≡ total w fs = omega arith in e) ∙ none_behind w fs all.1

bit_low : (w : ℕ) (f : Found) → bit w f ≤ 1
bit_low w f = elim (f.at == w) as (λ b. cond {A = ℕ} b 1 0 ≤ 1) [ true ↦ omega arith | false ↦ omega arith ]

one_at_most : (w : ℕ) (fs : List Found) → RiseByWord fs → total w fs ≤ 1
one_at_most w [] rise = omega arith
one_at_most w (f ∷ fs) rise = elim (f.at == w) as (λ b. (f.at == w) ≡ b → total w (f ∷ fs) ≤ 1) [
  | true ↦ λ e.
      let same = eqb-true f.at w e in
      let none = none_behind w fs (subst (λ n. AllByRecursion (λ (g : Found). n < g.at) fs) same rise.0) in
      let c = sum_by-cons (bit w) f fs in
      let low = bit_low w f in
      omega (arith, none, c, low)
  | false ↦ λ e.
      let c = sum_by-cons (bit w) f fs ∙ (λ i. cond (e i) 1 0 + total w fs) in
      let rest = one_at_most w fs rise.1 in
      omega (arith, c, rest)
] refl

filter_total : (w : ℕ) (p : Found → Bool) (fs : List Found) → total w (filter p fs) ≤ total w fs
filter_total w p [] = omega arith
filter_total w p (f ∷ fs) = elim (p f) as (λ b. total w (cond b (f ∷ filter p fs) (filter p fs)) ≤ total w (f ∷ fs)) [
  | true ↦ (let a = sum_by-cons (bit w) f (filter p fs) in let b = sum_by-cons (bit w) f fs in let rest = filter_total w p fs in omega (arith, a, b, rest))
  | false ↦ (let b = sum_by-cons (bit w) f fs in let rest = filter_total w p fs in omega (arith, b, rest))
]

counted : (w : ℕ) (fs : List Found) (g : Found) → In g fs → g.at ≡ w → 1 ≤ total w fs
counted w [] g h at = absurd h
counted w (f ∷ fs) g (inl e) at =
    let yes : (f.at == w) ≡ true = eq-eqb f.at w (sym (λ i. (e i).at) ∙ at) in
    let c = sum_by-cons (bit w) f fs ∙ (λ i. cond (yes i) 1 0 + total w fs) in
    omega (arith, c)
counted w (f ∷ fs) g (inr h) at = let c = sum_by-cons (bit w) f fs in let rest = counted w fs g h at in omega (arith, c, rest)

rise_of : (fs : List Found) → WordsStay fs → ((w : ℕ) → total w fs ≤ 1) → RiseByWord fs
rise_of [] stay once = tt
rise_of (f ∷ fs) stay once = (
  all_of (λ (g : Found). f.at < g.at) fs (λ g h. less_of f.at g.at (stay.0 g h) (λ p.
      let yes : (f.at == f.at) ≡ true = eq-eqb f.at f.at refl in
      let c = sum_by-cons (bit f.at) f fs ∙ (λ i. cond (yes i) 1 0 + total f.at fs) in
      let more = counted f.at fs g h (sym p) in
      let most = once f.at in
      omega (arith, c, more, most))),
  rise_of fs stay.1 (λ w. let c = sum_by-cons (bit w) f fs in let most = once w in omega (arith, c, most)),
)

-- rising lists of the same elements are the same
above_word : (w : ℕ) (g : Found) (fs : List Found) → AllByRecursion (λ (f : Found). w < f.at) fs → In g fs → w < g.at
above_word w g fs all h = one_of (λ (f : Found). w < f.at) fs g all h

first_same : (x y : Found) (xs ys : List Found) → RiseByWord (x ∷ xs) → RiseByWord (y ∷ ys) → In x (y ∷ ys) → In y (x ∷ xs) → x ≡ y
first_same x y xs ys a b (inl e) q = e
first_same x y xs ys a b (inr h) (inl e) = sym e
first_same x y xs ys a b (inr h) (inr g) = absurd (let l = above_word y.at x ys b.0 h in let m = above_word x.at y xs a.0 g in omega (arith, l, m))

rest_in : (j x y : Found) (xs ys : List Found) → x ≡ y → AllByRecursion (λ (f : Found). x.at < f.at) xs → ((f : Found) → In f (x ∷ xs) → In f (y ∷ ys)) → In j xs → In j ys
rest_in j x y xs ys same all there h = pick (there j (inr h)) where
  pick : In j (y ∷ ys) → In j ys
  pick (inl e) = absurd (let l = above_word x.at j xs all h in let p : j.at ≡ x.at = (λ i. (e i).at) ∙ sym (λ i. (same i).at) in omega (arith, l, p))
  pick (inr g) = g

same_risen : (xs ys : List Found) → RiseByWord xs → RiseByWord ys → ((f : Found) → In f xs → In f ys) → ((f : Found) → In f ys → In f xs) → xs ≡ ys
same_risen [] [] a b there back = refl
same_risen [] (y ∷ ys) a b there back = absurd (back y (inl refl))
same_risen (x ∷ xs) [] a b there back = absurd (there x (inl refl))
same_risen (x ∷ xs) (y ∷ ys) a b there back =
    let same = first_same x y xs ys a b (there x (inl refl)) (back y (inl refl)) in
    let rest = same_risen xs ys a.1 b.1 (λ k h. rest_in k x y xs ys same a.0 there h) (λ k h. rest_in k y x ys xs (sym same) b.0 back h) in
    (λ i. same i ∷ rest i)

-- a permutation has the same elements
to_contains : (x : Found) (xs : List Found) → In x xs → Contains xs x
to_contains x xs h = let r = in_at x xs h in (r.0, r.1, r.2 x)

from_at : (xs : List Found) (i : ℕ) (d : Found) → i < length xs → In (get_or xs i d) xs
from_at [] i d lt = absurd (omega (arith, lt))
from_at (x ∷ xs) zero d lt = inl refl
from_at (x ∷ xs) (suc i) d lt = inr (from_at xs i d (omega (arith, lt)))

from_contains : (x : Found) (xs : List Found) → Contains xs x → In x xs
from_contains x xs c = subst (λ y. In y xs) c.2 (from_at xs c.0 x c.1)

in_moved : (xs ys : List Found) → IsPermutation xs ys → (x : Found) → In x xs → In x ys
in_moved xs ys perm x h = from_contains x ys (Contains-permutation xs ys x perm (to_contains x xs h))

-- so a sort by name and word keeps those of a name in their order
pub sorted_in_place : (es xs : List Found) → IsPermutation es xs → IsSortedByKey key_of key_cmp xs → RiseByWord es → AreByName es xs
sorted_in_place es xs perm sorted rise = record { same = same; rising = named_order xs sorted } where
  once : (w : ℕ) → total w xs ≤ 1
  once w = let e = sum_by-IsPermutation (bit w) es xs perm in let most = one_at_most w es rise in omega (arith, e, most)

  named_rise : (k v : ℕ) → RiseByWord (filter (is_found k v) xs)
  named_rise k v = rise_of (filter (is_found k v) xs) (stay_named k v xs (words_keep xs sorted)) (λ w. let less = filter_total w (is_found k v) xs in let most = once w in omega (arith, less, most))

  moved : (k v : ℕ) (us ws : List Found) → IsPermutation us ws → (f : Found) → In f (filter (is_found k v) us) → In f (filter (is_found k v) ws)
  moved k v us ws move f h = in_filter (is_found k v) ws f (in_moved us ws move f (filter_in (is_found k v) us f h)) (passes (is_found k v) us f h)

  same : (k v : ℕ) → filter (is_found k v) xs ≡ filter (is_found k v) es
  same k v = same_risen (filter (is_found k v) xs) (filter (is_found k v) es) (named_rise k v) (rise_named k v es rise) (moved k v xs es (IsPermutation-sym es xs perm)) (moved k v es xs perm)
