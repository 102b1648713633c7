-- Pairs by rising key, and what a range keeps of them.
use Rattle.std.proofs.Common.{◌≡◌, ⊎_elim, ℕ, zero, suc, ◌<◌, ◌≤◌, ◌==◌, ◌||◌, List, [], ◌∷◌, ◌++◌, length, take, drop, Bool, true, false, cond, Option, Some, None, option_map, refl, sym, ◌∙◌, ap, subst, arith, min}
use Rattle.std.specs.Prelude.{is_some, slice_get, find}
use Rattle.std.specs.List.{AllByRecursion, filter, flat_map, count_by}
use Rattle.std.proofs.lemmas.Bool.{eqb-true, eq-eqb, cases_order, cases_lt, true≢false}
use Rattle.std.proofs.lemmas.List.{take_all}
use Rattle.std.proofs.lemmas.List.Sums.{length-filter}
use Rattle.fs_model.specs.declared.model.Pair.{Pair}
use Rattle.store_image.specs.Listing.{IsRising, ListsCells, lookup, with_pair}
use Rattle.range_scan.specs.Keys.{has}
use Rattle.range_scan.specs.Ranges.{is_within, kept, keys_of, Shown, ranged}
use Rattle.range_scan.proofs.KeyLaws.{has_here, has_above}

above_trans : (m x : ℕ) (xs : List ℕ) → m < x → AllByRecursion (λ y. x < y) xs → AllByRecursion (λ y. m < y) xs
above_trans m x [] lt all = tt
above_trans m x (y ∷ ys) lt all = (let a = all.0 in omega (arith, a, lt), above_trans m x ys lt all.1)

-- two rising lists with the same keys are one
rest_has : (x : ℕ) (xs ys : List ℕ) → AllByRecursion (λ z. x < z) xs → AllByRecursion (λ z. x < z) ys → (k : ℕ) → has (x ∷ xs) k ≡ has (x ∷ ys) k → has xs k ≡ has ys k
rest_has x xs ys a b k same = elim (x == k) as (λ c. (x == k) ≡ c → (c || has xs k) ≡ (c || has ys k) → has xs k ≡ has ys k) [
  | true ↦ λ e t. (let here = eqb-true x k e in ap (has xs) (sym here) ∙ has_above x xs a ∙ sym (has_above x ys b) ∙ ap (has ys) here)
  | false ↦ λ e t. t
] refl same

same_head : (x y : ℕ) (xs ys : List ℕ) → IsRising (x ∷ xs) → IsRising (y ∷ ys) → ((k : ℕ) → has (x ∷ xs) k ≡ has (y ∷ ys) k) → x ≡ y
same_head x y xs ys a b same = ⊎_elim
    (λ (e : x ≡ y). e)
    (λ (ne : _). ⊎_elim
    (λ (lt : x < y). absurd (true≢false (sym (has_here x xs) ∙ same x ∙ has_above x (y ∷ ys) (lt, above_trans x y ys lt b.0))))
    (λ (gt : y < x). absurd (true≢false (sym (has_here y ys) ∙ sym (same y) ∙ has_above y (x ∷ xs) (gt, above_trans y x xs gt a.0))))
    ne)
    (cases_order x y)

pub rising_same : (xs ys : List ℕ) → IsRising xs → IsRising ys → ((k : ℕ) → has xs k ≡ has ys k) → xs ≡ ys
rising_same [] [] a b same = refl
rising_same [] (y ∷ ys) a b same = absurd (true≢false (sym (has_here y ys) ∙ sym (same y)))
rising_same (x ∷ xs) [] a b same = absurd (true≢false (sym (has_here x xs) ∙ same x))
rising_same (x ∷ xs) (y ∷ ys) a b same =
    let e = same_head x y xs ys a b same in
    let below : AllByRecursion (λ z. x < z) ys = subst (λ (n : ℕ). AllByRecursion (λ z. n < z) ys) (sym e) b.0 in
    let rest = rising_same xs ys a.1 b.1 (λ k. rest_has x xs ys a.0 below k (same k ∙ ap (λ (n : ℕ). has (n ∷ ys) k) (sym e))) in
    ap (λ n. n ∷ xs) e ∙ ap (λ zs. y ∷ zs) rest

has_key : (p : Pair) (k : ℕ) (ps : List Pair) (c : Bool) → has (keys_of ps) k ≡ is_some (lookup k ps) → (c || has (keys_of ps) k) ≡ is_some (option_map (λ (x : Pair). x.value) (cond c (Some p) (find (λ (x : Pair). x.key == k) ps)))
has_key p k ps true again = refl
has_key p k ps false again = again

-- a list has the keys that it looks up
pub has_keys : (k : ℕ) (ps : List Pair) → has (keys_of ps) k ≡ is_some (lookup k ps)
has_keys k [] = refl
has_keys k (p ∷ ps) = has_key p k ps (p.key == k) (has_keys k ps)

-- rising keys with a cell each, and no others, are those of the pairs
pub keys_listed : (cells : ℕ → Option (List ℕ)) (keys : List ℕ) (pairs : List Pair) → IsRising keys → ((k : ℕ) → has keys k ≡ is_some (cells k)) → ListsCells cells pairs → keys ≡ keys_of pairs
keys_listed cells keys pairs rising live lists = rising_same keys (keys_of pairs) rising lists.rising (λ k. live k ∙ sym (ap is_some (lists.each k)) ∙ sym (has_keys k pairs))

-- each pair has its key's cell
abbrev pub HaveCells : (ℕ → Option (List ℕ)) → List Pair → Type 0
HaveCells cells ps = AllByRecursion (λ p. cells p.key ≡ Some p.value) ps

not_looked : (k : ℕ) (ps : List Pair) → AllByRecursion (λ y. k < y) (keys_of ps) → lookup k ps ≡ None
not_looked k ps above = none (lookup k ps) (sym (has_keys k ps) ∙ has_above k (keys_of ps) above) where
  none : (o : Option (List ℕ)) → is_some o ≡ false → o ≡ None
  none None e = refl
  none (Some v) e = absurd (true≢false e)

looked_behind : (p : Pair) (ps : List Pair) (k : ℕ) (v : List ℕ) (c : Bool) → (p.key == k) ≡ c → AllByRecursion (λ y. p.key < y) (keys_of ps) → lookup k ps ≡ Some v → option_map (λ (x : Pair). x.value) (cond c (Some p) (find (λ (x : Pair). x.key == k) ps)) ≡ Some v
looked_behind p ps k v true e above is = absurd (some_none (sym is ∙ ap (λ (n : ℕ). lookup n ps) (sym (eqb-true p.key k e)) ∙ not_looked p.key ps above)) where
  some_none : Some v ≡ None → ⊥
  some_none z = cc z
looked_behind p ps k v false e above is = is

pub have_cells : (cells : ℕ → Option (List ℕ)) (ps : List Pair) → IsRising (keys_of ps) → ((k : ℕ) (v : List ℕ) → lookup k ps ≡ Some v → cells k ≡ Some v) → HaveCells cells ps
have_cells cells [] rising looked = tt
have_cells cells (p ∷ ps) rising looked = (
  looked p.key p.value (ap (λ c. option_map (λ (x : Pair). x.value) (cond c (Some p) (find (λ (x : Pair). x.key == p.key) ps))) (eq-eqb p.key p.key refl)),
  have_cells cells ps rising.1 (λ k v is. looked k v (looked_behind p ps k v (p.key == k) refl rising.0 is)),
)

pub listed_cells : (cells : ℕ → Option (List ℕ)) (pairs : List Pair) → ListsCells cells pairs → HaveCells cells pairs
listed_cells cells pairs lists = have_cells cells pairs lists.rising (λ k v is. sym (lists.each k) ∙ is)

pub all_kept : {X : Type 0} (P : X → Type 0) (f : X → Bool) (xs : List X) → AllByRecursion P xs → AllByRecursion P (filter f xs)
all_kept P f [] all = tt
all_kept P f (x ∷ xs) all = elim (f x) as (λ c. AllByRecursion P (cond c (x ∷ filter f xs) (filter f xs))) [
  | true ↦ (all.0, all_kept P f xs all.1)
  | false ↦ all_kept P f xs all.1
]

pub all_taken : {X : Type 0} (P : X → Type 0) (n : ℕ) (xs : List X) → AllByRecursion P xs → AllByRecursion P (take n xs)
all_taken P zero xs all = tt
all_taken P (suc n) [] all = tt
all_taken P (suc n) (x ∷ xs) all = (all.0, all_taken P n xs all.1)

abbrev pub pairs_with : (ℕ → Option (List ℕ)) → List ℕ → List Pair
pairs_with cells ks = flat_map (λ k. with_pair k (cells k) []) ks

-- the pairs of their own keys
pub own_pairs : (cells : ℕ → Option (List ℕ)) (ps : List Pair) → HaveCells cells ps → pairs_with cells (keys_of ps) ≡ ps
own_pairs cells [] have = refl
own_pairs cells (p ∷ ps) have = ap (λ o. with_pair p.key o [] ++ pairs_with cells (keys_of ps)) have.0 ∙ ap (λ qs. p ∷ qs) (own_pairs cells ps have.1)

-- the keys of what a range keeps
pub kept_keys : (lo hi : ℕ) (ps : List Pair) → keys_of (kept ps lo hi) ≡ filter (is_within lo hi) (keys_of ps)
kept_keys lo hi [] = refl
kept_keys lo hi (p ∷ ps) = elim (is_within lo hi p.key) as (λ c. keys_of (cond c (p ∷ kept ps lo hi) (kept ps lo hi)) ≡ cond c (p.key ∷ filter (is_within lo hi) (keys_of ps)) (filter (is_within lo hi) (keys_of ps))) [
  | true ↦ ap (λ ks. p.key ∷ ks) (kept_keys lo hi ps)
  | false ↦ kept_keys lo hi ps
]

pub keys_taken : (n : ℕ) (ps : List Pair) → keys_of (take n ps) ≡ take n (keys_of ps)
keys_taken zero ps = refl
keys_taken (suc n) [] = refl
keys_taken (suc n) (p ∷ ps) = ap (λ ks. p.key ∷ ks) (keys_taken n ps)

pub keys_at : (n : ℕ) (ps : List Pair) → option_map (λ (p : Pair). p.key) (slice_get ps n) ≡ slice_get (keys_of ps) n
keys_at n [] = refl
keys_at zero (p ∷ ps) = refl
keys_at (suc n) (p ∷ ps) = keys_at n ps

pub length_keys : (ps : List Pair) → length (keys_of ps) ≡ length ps
length_keys [] = refl
length_keys (p ∷ ps) = ap suc (length_keys ps)

pub count_kept : (lo hi : ℕ) (keys : List ℕ) (pairs : List Pair) → keys ≡ keys_of pairs → count_by (is_within lo hi) keys ≡ length (kept pairs lo hi)
count_kept lo hi keys pairs is = sym (length-filter (is_within lo hi) keys) ∙ ap (λ ks. length (filter (is_within lo hi) ks)) is ∙ ap length (sym (kept_keys lo hi pairs)) ∙ length_keys (kept pairs lo hi)

-- the first so many, or all where there are fewer
pub taken_first : (n limit : ℕ) (ks : List ℕ) → n ≡ min (length ks) limit → take n ks ≡ take limit ks
taken_first n limit ks is = ⊎_elim
    (λ (few : length ks < limit). take_all n ks (omega (arith, is, few)) ∙ sym (take_all limit ks (omega (arith, few))))
    (λ (many : limit ≤ length ks). ap (λ (m : ℕ). take m ks) (omega (arith, is, many)))
    (cases_lt (length ks) limit)

get_past : (n : ℕ) (ks : List ℕ) → length ks ≤ n → slice_get ks n ≡ None
get_past n [] le = refl
get_past zero (k ∷ ks) le = absurd (omega (arith, le))
get_past (suc n) (k ∷ ks) le = get_past n ks (omega (arith, le))

get_dropped : (n : ℕ) (ks : List ℕ) → slice_get (drop n ks) 0 ≡ slice_get ks n
get_dropped zero ks = refl
get_dropped (suc n) [] = refl
get_dropped (suc n) (k ∷ ks) = get_dropped n ks

pub next_first : (n limit : ℕ) (ks : List ℕ) → n ≡ min (length ks) limit → slice_get (drop n ks) 0 ≡ slice_get ks limit
next_first n limit ks is = get_dropped n ks ∙ ⊎_elim
    (λ (few : length ks < limit). get_past n ks (omega (arith, is, few)) ∙ sym (get_past limit ks (omega (arith, few))))
    (λ (many : limit ≤ length ks). ap (λ (m : ℕ). slice_get ks m) (omega (arith, is, many)))
    (cases_lt (length ks) limit)

-- a page of the keys that a range keeps
pub page_is : (cells : ℕ → Option (List ℕ)) (keys : List ℕ) (pairs : List Pair) (lo hi limit n : ℕ) (ks : List ℕ) (out : List Pair) (more : Option ℕ)
    → keys ≡ keys_of pairs → HaveCells cells pairs → ks ≡ filter (is_within lo hi) keys → n ≡ min (length ks) limit
    → out ≡ pairs_with cells (take n ks) → more ≡ slice_get (drop n ks) 0 → (let s : Shown = record { pairs = out; more = more } in s ≡ ranged pairs lo hi limit)
page_is cells keys pairs lo hi limit n ks out more is have within count given next =
    let all = kept pairs lo hi in
    let same : ks ≡ keys_of all = within ∙ ap (filter (is_within lo hi)) is ∙ sym (kept_keys lo hi pairs) in
    let front : take n ks ≡ keys_of (take limit all) = taken_first n limit ks count ∙ ap (λ (zs : List ℕ). take limit zs) same ∙ sym (keys_taken limit all) in
    let given' : out ≡ take limit all = given ∙ ap (pairs_with cells) front ∙ own_pairs cells (take limit all) (all_taken (λ (p : Pair). cells p.key ≡ Some p.value) limit all (all_kept (λ (p : Pair). cells p.key ≡ Some p.value) (λ (p : Pair). is_within lo hi p.key) pairs have)) in
    let more' : more ≡ option_map (λ (p : Pair). p.key) (slice_get all limit) = next ∙ next_first n limit ks count ∙ ap (λ (zs : List ℕ). slice_get zs limit) same ∙ sym (keys_at limit all) in
    λ i. record { pairs = given' i; more = more' i }
