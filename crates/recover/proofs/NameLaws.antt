-- What a list of entries keeps when it is put in the order of their names.
use Rattle.std.proofs.Common.{◌≡◌, ◌⊎◌, inl, inr, ℕ, zero, suc, ◌+◌, ◌<◌, ◌≤◌, List, [], ◌∷◌, length, get_or, refl, sym, ◌∙◌, ap, subst, arith, ◌==◌, ◌&&◌, Bool, true, false, cond, Option, Some, None, ltb}
use Rattle.std.specs.Prelude.{find, filter, option_map, is_some}
use Rattle.std.specs.Option.{option_to_list}
use Rattle.std.specs.List.{flat_map, AllByRecursion}
use Rattle.std.specs.Ordering.{nat_cmp, is_lt, ordering_then}
use Rattle.std.specs.declared.cmp.Ordering.TheVariants.{Less, Equal, Greater}
use Rattle.std.specs.Cmp.{IsTotalOrder}
use Rattle.std.proofs.lemmas.Cmp.{nat_cmp_total, on_total, then_total}
use Rattle.std.proofs.lemmas.List.Sorted.{ranks_by, sorted_far}
use Rattle.std.proofs.lemmas.Bool.{eqb-true, eqb-false, eq-eqb, ne_eqb, ltb-true, ltb-false}
use Rattle.store_image.specs.declared.types.PlacedEntry.{PlacedEntry}
use Rattle.store_image.specs.Winners.{better, winner_in, with_key, keys_of}
use Rattle.store_image.specs.Listing.{IsRising}
use Rattle.store_image.specs.Soundness.{damaged, contradicts, clash_fault}
use Rattle.store_image.specs.Facts.{In, Agree}
use Rattle.store_image.proofs.Clients.{winner_some, winner_max, winner_key, winner_is, no_clash_after, rising_keys}
use Rattle.recover.specs.Clashes.{name_cmp}
use Rattle.recover.specs.Starts.{named_in}
use Rattle.recover.specs.ByName.{name_of, is_named, IsInOrder, IsByName}
use Rattle.recover.specs.Winning.{winners_of}
use Rattle.recover.proofs.ClashLaws.{agrees}
use Rattle.recover.proofs.WinningLaws.{above_in}

pub less_of : (a b : ℕ) → a ≤ b → (a ≡ b → ⊥) → a < b
less_of a b le ne = elim (ltb a b) as (λ c. ltb a b ≡ c → a < b) [
  | true ↦ λ e. ltb-true a b e
  | false ↦ λ e. absurd (ne (let h = ltb-false a b e in omega (arith, le, h)))
] refl

-- what passes a test is what the filter keeps
abbrev front : {X : Type 0} → List X → Option X
front [] = None
front (x ∷ xs) = Some x

find_front : {X : Type 0} (p : X → Bool) (xs : List X) → find p xs ≡ front (filter p xs)
find_front p [] = refl
find_front p (x ∷ xs) = elim (p x) as (λ b. cond b (Some x) (find p xs) ≡ front (cond b (x ∷ filter p xs) (filter p xs))) [
  | true ↦ refl
  | false ↦ find_front p xs
]

pub in_filter : {X : Type 0} (p : X → Bool) (xs : List X) (x : X) → In x xs → p x ≡ true → In x (filter p xs)
in_filter p [] x h is = absurd h
in_filter p (y ∷ ys) x (inl e) is = rw (sym (ap p e) ∙ is) (inl e)
in_filter p (y ∷ ys) x (inr h) is = elim (p y) as (λ b. In x (cond b (y ∷ filter p ys) (filter p ys))) [
  | true ↦ inr (in_filter p ys x h is)
  | false ↦ in_filter p ys x h is
]

pub filter_in : {X : Type 0} (p : X → Bool) (xs : List X) (x : X) → In x (filter p xs) → In x xs
filter_in p [] x h = h
filter_in p (y ∷ ys) x h = elim (p y) as (λ b. In x (cond b (y ∷ filter p ys) (filter p ys)) → In x (y ∷ ys)) [
  | true ↦ kept (filter_in p ys x)
  | false ↦ λ h. inr (filter_in p ys x h)
] h where
  kept : (In x (filter p ys) → In x ys) → In x (y ∷ filter p ys) → In x (y ∷ ys)
  kept more (inl e) = inl e
  kept more (inr h) = inr (more h)

-- a key's winner is the first entry of its name
winner_named : (k : ℕ) (es : List PlacedEntry) (x : PlacedEntry) → winner_in k es ≡ Some x → named_in k x.entry.version es ≡ Some x
winner_named k [] x won = absurd (cc won)
winner_named k (y ∷ ys) x won = elim (y.entry.key == k) as (λ b. (y.entry.key == k) ≡ b → cond b (Some (better y (winner_in k ys))) (winner_in k ys) ≡ Some x → named_in k x.entry.version (y ∷ ys) ≡ Some x) [
  | true ↦ λ e q. by_best e (winner_named k ys) (winner_in k ys) refl q
  | false ↦ λ e q. (λ i. cond (e i && y.entry.version == x.entry.version) (Some y) (named_in k x.entry.version ys)) ∙ winner_named k ys x q
] refl won where
  first : (y.entry.key == k) ≡ true → y ≡ x → named_in k x.entry.version (y ∷ ys) ≡ Some x
  first e same = rw (e, eq-eqb y.entry.version x.entry.version (ap (λ (z : PlacedEntry). z.entry.version) same)) (ap Some same)

  by_best : (y.entry.key == k) ≡ true → ((z : PlacedEntry) → winner_in k ys ≡ Some z → named_in k z.entry.version ys ≡ Some z) → (o : Option PlacedEntry) → winner_in k ys ≡ o → Some (better y o) ≡ Some x → named_in k x.entry.version (y ∷ ys) ≡ Some x
  by_best e again None is q = first e (cc q)
  by_best e again (Some z) is q = elim (ltb y.entry.version z.entry.version) as (λ b. ltb y.entry.version z.entry.version ≡ b → Some (cond b z y) ≡ Some x → named_in k x.entry.version (y ∷ ys) ≡ Some x) [
    | true ↦ λ less r.
        let same : z ≡ x = cc r in
        let lt = ltb-true y.entry.version z.entry.version less in
        let version = ap (λ (w : PlacedEntry). w.entry.version) same in
        let other : (y.entry.version == x.entry.version) ≡ false = ne_eqb y.entry.version x.entry.version (λ p. omega (arith, lt, version, p)) in
        rw (e, other) (again x (is ∙ ap Some same))
    | false ↦ λ less r. first e (cc r)
  ] refl q

-- rising lists of the same numbers are the same
first_same : (x y : ℕ) (xs ys : List ℕ) → IsRising (x ∷ xs) → IsRising (y ∷ ys) → In x (y ∷ ys) → In y (x ∷ xs) → x ≡ y
first_same x y xs ys a b (inl e) q = e
first_same x y xs ys a b (inr h) (inl e) = sym e
first_same x y xs ys a b (inr h) (inr g) = absurd (let l = above_in y x ys b.0 h in let m = above_in x y xs a.0 g in omega (arith, l, m))

rest_in : (j x y : ℕ) (xs ys : List ℕ) → x ≡ y → AllByRecursion (λ z. x < z) xs → ((k : ℕ) → In k (x ∷ xs) → In k (y ∷ ys)) → In j xs → In j ys
rest_in j x y xs ys same all there h = pick (there j (inr h)) where
  pick : In j (y ∷ ys) → In j ys
  pick (inl e) = absurd (let l = above_in x j xs all h in omega (arith, l, same, e))
  pick (inr g) = g

rising_same : (xs ys : List ℕ) → IsRising xs → IsRising ys → ((k : ℕ) → In k xs → In k ys) → ((k : ℕ) → In k ys → In k xs) → xs ≡ ys
rising_same [] [] a b there back = refl
rising_same [] (y ∷ ys) a b there back = absurd (back y (inl refl))
rising_same (x ∷ xs) [] a b there back = absurd (there x (inl refl))
rising_same (x ∷ xs) (y ∷ ys) a b there back =
    let same = first_same x y xs ys a b (there x (inl refl)) (back y (inl refl)) in
    let rest = rising_same xs ys a.1 b.1 (λ k h. rest_in k x y xs ys same a.0 there h) (λ k h. rest_in k y x ys xs (sym same) b.0 back h) in
    (λ i. same i ∷ rest i)

-- each key is that of an entry
with_in : (j k : ℕ) (ks : List ℕ) → In j (with_key k ks) → (j ≡ k) ⊎ In j ks
with_in j k [] (inl e) = inl e
with_in j k [] (inr h) = absurd h
with_in j k (x ∷ xs) h = elim (ltb k x) as (λ b. In j (cond b (k ∷ x ∷ xs) (cond (k == x) (x ∷ xs) (x ∷ with_key k xs))) → (j ≡ k) ⊎ In j (x ∷ xs)) [
  | true ↦ λ h. h
  | false ↦ elim (k == x) as (λ b. In j (cond b (x ∷ xs) (x ∷ with_key k xs)) → (j ≡ k) ⊎ In j (x ∷ xs)) [
    | true ↦ λ h. inr h
    | false ↦ deeper (with_in j k xs)
  ]
] h where
  place : (j ≡ k) ⊎ In j xs → (j ≡ k) ⊎ In j (x ∷ xs)
  place (inl e) = inl e
  place (inr h) = inr (inr h)

  deeper : (In j (with_key k xs) → (j ≡ k) ⊎ In j xs) → In j (x ∷ with_key k xs) → (j ≡ k) ⊎ In j (x ∷ xs)
  deeper more (inl e) = inr (inl e)
  deeper more (inr g) = place (more g)

pub key_won : (k : ℕ) (es : List PlacedEntry) → In k (keys_of es) → (x : PlacedEntry) × In x es × (x.entry.key ≡ k)
key_won k [] h = absurd h
key_won k (y ∷ ys) h = place (key_won k ys) (with_in k y.entry.key (keys_of ys) h) where
  place : (In k (keys_of ys) → (x : PlacedEntry) × In x ys × (x.entry.key ≡ k)) → (k ≡ y.entry.key) ⊎ In k (keys_of ys) → (x : PlacedEntry) × In x (y ∷ ys) × (x.entry.key ≡ k)
  place more (inl e) = (y, inl refl, sym e)
  place more (inr g) = let r = more g in (r.0, inr r.1, r.2)

key_in : (k : ℕ) (es : List PlacedEntry) (x : PlacedEntry) → In x es → x.entry.key ≡ k → In k (keys_of es)
key_in k es x h key = by_winner (winner_in k es) refl where
  by_winner : (o : Option PlacedEntry) → winner_in k es ≡ o → In k (keys_of es)
  by_winner None none = absurd (winner_some k es x h key none)
  by_winner (Some y) won = winner_key k es y won

pub all_of : {X : Type 0} (P : X → Type 0) (xs : List X) → ((x : X) → In x xs → P x) → AllByRecursion P xs
all_of P [] each = tt
all_of P (x ∷ xs) each = (each x (inl refl), all_of P xs (λ y h. each y (inr h)))

pub one_of : {X : Type 0} (P : X → Type 0) (xs : List X) (x : X) → AllByRecursion P xs → In x xs → P x
one_of P [] x all h = absurd h
one_of P (y ∷ ys) x all (inl e) = subst P (sym e) all.0
one_of P (y ∷ ys) x all (inr h) = one_of P ys x all.1 h

module _ (es xs : List PlacedEntry) (is : IsByName es xs) where
  pub named_same : (k v : ℕ) → named_in k v xs ≡ named_in k v es
  named_same k v = find_front (is_named k v) xs ∙ ap front (is.same k v) ∙ sym (find_front (is_named k v) es)

  own_name : (x : PlacedEntry) → is_named x.entry.key x.entry.version x ≡ true
  own_name x = rw (eq-eqb x.entry.key x.entry.key refl, eq-eqb x.entry.version x.entry.version refl) refl

  pub in_sorted : (x : PlacedEntry) → In x es → In x xs
  in_sorted x h = filter_in (is_named x.entry.key x.entry.version) xs x (subst (In x) (sym (is.same x.entry.key x.entry.version)) (in_filter (is_named x.entry.key x.entry.version) es x h (own_name x)))

  pub in_first : (x : PlacedEntry) → In x xs → In x es
  in_first x h = filter_in (is_named x.entry.key x.entry.version) es x (subst (In x) (is.same x.entry.key x.entry.version) (in_filter (is_named x.entry.key x.entry.version) xs x h (own_name x)))

  pub winner_same : (k : ℕ) → winner_in k xs ≡ winner_in k es
  winner_same k = by_both (winner_in k xs) (winner_in k es) refl refl where
    by_both : (a b : Option PlacedEntry) → winner_in k xs ≡ a → winner_in k es ≡ b → winner_in k xs ≡ winner_in k es
    by_both None None p q = p ∙ sym q
    by_both None (Some y) p q = let w = winner_is k es y q in absurd (winner_some k xs y (in_sorted y w.0) w.1 p)
    by_both (Some x) None p q = let w = winner_is k xs x p in absurd (winner_some k es x (in_first x w.0) w.1 q)
    by_both (Some x) (Some y) p q =
        let w = winner_is k xs x p in
        let z = winner_is k es y q in
        let low = winner_max k es y x q (in_first x w.0) w.1 in
        let high = winner_max k xs x y p (in_sorted y z.0) z.1 in
        let version : x.entry.version ≡ y.entry.version = omega (arith, low, high) in
        p ∙ sym (winner_named k xs x p) ∙ named_same k x.entry.version ∙ ap (λ v. named_in k v es) version ∙ winner_named k es y q ∙ sym q

  pub keys_same : keys_of xs ≡ keys_of es
  keys_same = rising_same (keys_of xs) (keys_of es) (rising_keys xs) (rising_keys es)
      (λ k h. let r = key_won k xs h in key_in k es r.0 (in_first r.0 r.1) r.2)
      (λ k h. let r = key_won k es h in key_in k xs r.0 (in_sorted r.0 r.1) r.2)

  pub winners_same : winners_of xs ≡ winners_of es
  winners_same = ap (flat_map (λ k. option_to_list (winner_in k xs))) keys_same ∙ (λ i. flat_map (λ k. option_to_list (winner_same k i)) (keys_of es))

  -- where the sorted entries agree, none contradicts one before it
  pub no_clash : Agree xs → clash_fault es ≡ None
  no_clash all = ap (option_map (λ (x : PlacedEntry). damaged x.core x.chunk 8)) (no_clash_after [] es (λ x y h g key version. all x y (in_sorted x h) (in_sorted y g) key version))

-- a name that isn't above another
pub not_above : (k v j u : ℕ) → is_lt (name_cmp (j, u) (k, v)) ≡ false → (k < j) ⊎ ((k ≡ j) × (v ≤ u))
not_above k v j u e = elim (ltb j k) as (λ b. ltb j k ≡ b → is_lt (ordering_then (cond b Less (cond (j == k) Equal Greater)) (nat_cmp u v)) ≡ false → (k < j) ⊎ ((k ≡ j) × (v ≤ u))) [
  | true ↦ λ t q. absurd (cc q)
  | false ↦ λ t. elim (j == k) as (λ b. (j == k) ≡ b → is_lt (ordering_then (cond b Equal Greater) (nat_cmp u v)) ≡ false → (k < j) ⊎ ((k ≡ j) × (v ≤ u))) [
    | true ↦ λ s q. inr (sym (eqb-true j k s), version q)
    | false ↦ λ s q. inl (less_of k j (ltb-false j k t) (λ p. eqb-false j k s (sym p)))
  ] refl
] refl e where
  version : is_lt (nat_cmp u v) ≡ false → v ≤ u
  version q = elim (ltb u v) as (λ b. ltb u v ≡ b → is_lt (cond b Less (cond (u == v) Equal Greater)) ≡ false → v ≤ u) [
    | true ↦ λ t q. absurd (cc q)
    | false ↦ λ t q. ltb-false u v t
  ] refl q

-- what stands between two equal names
pub between : (ak av bk bv ck cv : ℕ) → (ak < bk) ⊎ ((ak ≡ bk) × (av ≤ bv)) → (bk < ck) ⊎ ((bk ≡ ck) × (bv ≤ cv)) → ak ≡ ck → av ≡ cv → (ak ≡ bk) × (av ≡ bv)
between ak av bk bv ck cv (inl p) (inl q) k v = absurd (omega (arith, p, q, k))
between ak av bk bv ck cv (inl p) (inr q) k v = let e = q.0 in absurd (omega (arith, p, e, k))
between ak av bk bv ck cv (inr p) (inl q) k v = let e = p.0 in absurd (omega (arith, e, q, k))
between ak av bk bv ck cv (inr p) (inr q) k v = let a = p.1 in let b = q.1 in (p.0, omega (arith, a, b, v))

pub in_at : {X : Type 0} (x : X) (xs : List X) → In x xs → (i : ℕ) × (i < length xs) × ((d : X) → get_or xs i d ≡ x)
in_at x [] h = absurd h
in_at x (y ∷ ys) (inl e) = (zero, omega arith, λ d. sym e)
in_at x (y ∷ ys) (inr h) = let r = in_at x ys h in let l = r.1 in (suc r.0, omega (arith, l), r.2)

pub at_in : {X : Type 0} (xs : List X) (i : ℕ) (d : X) → i < length xs → In (get_or xs i d) xs
at_in [] i d lt = absurd (omega (arith, lt))
at_in (x ∷ xs) zero d lt = inl refl
at_in (x ∷ xs) (suc i) d lt = inr (at_in xs i d (omega (arith, lt)))

pub any_default : {X : Type 0} (xs : List X) (i : ℕ) (d e : X) → i < length xs → get_or xs i d ≡ get_or xs i e
any_default [] i d e lt = absurd (omega (arith, lt))
any_default (x ∷ xs) zero d e lt = refl
any_default (x ∷ xs) (suc i) d e lt = any_default xs i d e (omega (arith, lt))

find_some : {X : Type 0} (p : X → Bool) (xs : List X) (x : X) → In x xs → p x ≡ true → is_some (find p xs) ≡ true
find_some p [] x h is = absurd h
find_some p (y ∷ ys) x (inl e) is = rw (sym (ap p e) ∙ is) refl
find_some p (y ∷ ys) x (inr h) is = elim (p y) as (λ b. is_some (cond b (Some y) (find p ys)) ≡ true) [
  | true ↦ refl
  | false ↦ find_some p ys x h is
]

pub names_total : IsTotalOrder name_cmp
names_total = then_total (on_total (λ p. p.0) nat_cmp_total) (on_total (λ p. p.1) nat_cmp_total)

-- each entry from the second on agrees with the one before it
abbrev pub NeighboursAgree : List PlacedEntry → ℕ → Type 0
NeighboursAgree xs n = (j : ℕ) (d : PlacedEntry) → j + 1 < n → contradicts (get_or xs (j + 1) d) (get_or xs j d) ≡ false

module _ (xs : List PlacedEntry) (rising : IsInOrder xs) where
  above : (i j : ℕ) (d : PlacedEntry) → i ≤ j → j < length xs → ((get_or xs i d).entry.key < (get_or xs j d).entry.key) ⊎ (((get_or xs i d).entry.key ≡ (get_or xs j d).entry.key) × ((get_or xs i d).entry.version ≤ (get_or xs j d).entry.version))
  above i j d le lt =
      let a = get_or xs i d in
      let b = get_or xs j d in
      not_above a.entry.key a.entry.version b.entry.key b.entry.version (sorted_far (λ x y. is_lt (name_cmp (name_of x) (name_of y))) (ranks_by names_total name_of) xs rising i j d le lt)

  pub keys_rise : (i j : ℕ) (d : PlacedEntry) → i ≤ j → j < length xs → (get_or xs i d).entry.key ≤ (get_or xs j d).entry.key
  keys_rise i j d le lt = at_most (above i j d le lt) where
    at_most : ((get_or xs i d).entry.key < (get_or xs j d).entry.key) ⊎ (((get_or xs i d).entry.key ≡ (get_or xs j d).entry.key) × ((get_or xs i d).entry.version ≤ (get_or xs j d).entry.version)) → (get_or xs i d).entry.key ≤ (get_or xs j d).entry.key
    at_most (inl less) = omega (arith, less)
    at_most (inr same) = let e = same.0 in omega (arith, e)

-- a run of one name agrees where its neighbours do
module _ (xs : List PlacedEntry) (rising : IsInOrder xs) (low high : ℕ) (near : (j : ℕ) (d : PlacedEntry) → low ≤ j → j < high → contradicts (get_or xs (j + 1) d) (get_or xs j d) ≡ false) where
  pub run_agrees : (j i : ℕ) (d : PlacedEntry) → low ≤ i → i ≤ j → j ≤ high → j < length xs → (get_or xs i d).entry.key ≡ (get_or xs j d).entry.key → (get_or xs i d).entry.version ≡ (get_or xs j d).entry.version
      → ((get_or xs i d).entry.body ≡ (get_or xs j d).entry.body) × ((get_or xs i d).core ≡ (get_or xs j d).core)
  run_agrees zero i d from le upto lt k v = let z : i ≡ zero = omega (arith, le) in ((λ t. (get_or xs (z t) d).entry.body), (λ t. (get_or xs (z t) d).core))
  run_agrees (suc j) i d from le upto lt k v = elim (ltb i (suc j)) as (λ b. ltb i (suc j) ≡ b → ((get_or xs i d).entry.body ≡ (get_or xs (suc j) d).entry.body) × ((get_or xs i d).core ≡ (get_or xs (suc j) d).core)) [
    | true ↦ λ e.
        let l = ltb-true i (suc j) e in
        let a = get_or xs i d in
        let b = get_or xs j d in
        let c = get_or xs (suc j) d in
        let same = between a.entry.key a.entry.version b.entry.key b.entry.version c.entry.key c.entry.version (above xs rising i j d (omega (arith, l)) (omega (arith, lt))) (above xs rising j (suc j) d (omega arith) lt) k v in
        let first = run_agrees j i d from (omega (arith, l)) (omega (arith, upto)) (omega (arith, lt)) same.0 same.1 in
        let p : j + 1 ≡ suc j = omega arith in
        let no = subst (λ n. contradicts (get_or xs n d) b ≡ false) p (near j d (omega (arith, from, l)) (omega (arith, upto))) in
        let step = agrees c b no (record { key = sym same.0 ∙ k; version = sym same.1 ∙ v }) in
        (first.0 ∙ sym step.0, first.1 ∙ sym step.1)
    | false ↦ λ e.
        let h = ltb-false i (suc j) e in
        let z : i ≡ suc j = omega (arith, le, h) in
        ((λ t. (get_or xs (z t) d).entry.body), (λ t. (get_or xs (z t) d).core))
  ] refl

module _ (xs : List PlacedEntry) (rising : IsInOrder xs) (near : NeighboursAgree xs (length xs)) where
  run : (j i : ℕ) (d : PlacedEntry) → i ≤ j → j < length xs → (get_or xs i d).entry.key ≡ (get_or xs j d).entry.key → (get_or xs i d).entry.version ≡ (get_or xs j d).entry.version
      → ((get_or xs i d).entry.body ≡ (get_or xs j d).entry.body) × ((get_or xs i d).core ≡ (get_or xs j d).core)
  run j i d le lt = run_agrees xs rising 0 j (λ m e low high. near m e (omega (arith, high, lt))) j i d (omega arith) le (omega arith) lt

  pub all_agree : Agree xs
  all_agree x y h g key version =
      let a = in_at x xs h in
      let b = in_at y xs g in
      elim (ltb a.0 b.0) as (λ t. ltb a.0 b.0 ≡ t → (x.entry.body ≡ y.entry.body) × (x.core ≡ y.core)) [
        | true ↦ λ e. (let l = ltb-true a.0 b.0 e in
            let r = run b.0 a.0 x (omega (arith, l)) b.1 ((λ t. (a.2 x t).entry.key) ∙ key ∙ sym (λ t. (b.2 x t).entry.key)) ((λ t. (a.2 x t).entry.version) ∙ version ∙ sym (λ t. (b.2 x t).entry.version)) in
            (sym (λ t. (a.2 x t).entry.body) ∙ r.0 ∙ (λ t. (b.2 x t).entry.body), sym (λ t. (a.2 x t).core) ∙ r.1 ∙ (λ t. (b.2 x t).core)))
        | false ↦ λ e. (let l = ltb-false a.0 b.0 e in
            let r = run a.0 b.0 x l a.1 ((λ t. (b.2 x t).entry.key) ∙ sym key ∙ sym (λ t. (a.2 x t).entry.key)) ((λ t. (b.2 x t).entry.version) ∙ sym version ∙ sym (λ t. (a.2 x t).entry.version)) in
            (sym (sym (λ t. (b.2 x t).entry.body) ∙ r.0 ∙ (λ t. (a.2 x t).entry.body)), sym (sym (λ t. (b.2 x t).core) ∙ r.1 ∙ (λ t. (a.2 x t).core))))
      ] refl
