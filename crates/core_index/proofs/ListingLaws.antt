-- The live keys of a map in order.
use Rattle.std.proofs.Common.{◌≡◌, ◌≢◌, ◌⊎◌, inl, inr, ⊎_elim, ℕ, zero, suc, ◌+◌, ◌<◌, ◌==◌, take, Bool, true, false, cond, eqb, refl, List, [], ◌∷◌, ◌++◌, length, get_or, map, Option, Some, None, sym, ◌∙◌, ap, subst, arith}
use Rattle.std.specs.Prelude.{Result, Ok, Err, IfOk, is_some}
use Rattle.std.specs.List.{AllByRecursion, Contains, IsDistinct}
use Rattle.std.specs.List.Sorted.{IsStrictlySortedBy, IsPermutation, IsNonDecreasing, IsNonDecreasingBy, IsStrictlyIncreasing}
use Rattle.std.specs.Map.{keys_of}
use Rattle.std.specs.BTreeMap.{is_at}
use Rattle.std.specs.Ordering.{nat_cmp}
use Rattle.std.specs.declared.cmp.Ordering.TheVariants.{Less}
use Rattle.std.specs.Cmp.{ranked, unsigned_tied}
use Rattle.std.proofs.lemmas.Bool.{cases_eq, cond-true, cond-false, eq-eqb, ne_eqb}
use Rattle.std.proofs.lemmas.Map.Keys.{sorted_head, sorted_tail, IsDistinct-IsPermutation, IsStrictlyIncreasing-from_distinct}
use Rattle.std.proofs.lemmas.List.{append-nil, append_assoc, take_more}
use Rattle.std.proofs.lemmas.List.Sorted.{IsPermutation-map, IsPermutation-sym, Contains-permutation}
use Rattle.log_entry.specs.declared.entry.EntryName.{EntryName}
use Rattle.core_index.specs.declared.types.LiveFate.{LiveFate}
use Rattle.core_index.specs.declared.types.LiveFate.TheVariants.{Stands, Gone, Moved}
use Rattle.core_index.specs.declared.types.LiveKey.{LiveKey}
use Rattle.core_index.specs.declared.start_keys.StartKeys.{StartKeys}
use Rattle.core_index.specs.declared.types.Tombstone.{Tombstone}
use Rattle.core_index.specs.Records.{KeyRecord, live_version, is_tombstone}
use Rattle.core_index.specs.Slots.{Place}
use Rattle.core_index.specs.Lives.{entry_version, entry_home, live_key, live_at, valued, valued_by, body_in, KeysRise}
use Rattle.core_index.specs.Lones.{lones}
use Rattle.core_index.specs.Starts.{started, beside}
use Rattle.core_index.specs.Listing.{version_by, version_left, start_names}
use Rattle.core_index.specs.Noted.{name_with}
use Rattle.core_index.specs.Index.{place_at, known_in, known_at, live_name, live_names}
use Rattle.core_index.proofs.StepLaws.{apart}
use Rattle.core_index.proofs.TombLaws.{none_live}
use Rattle.core_index.proofs.LiveLaws.{no_tombstone}
use Rattle.core_index.proofs.OverLaws.{first_place, some_of}
use Rattle.core_index.proofs.LoneLaws.{known_live, known_deleted}
use Rattle.core_index.proofs.StartLaws.{start_keeps}

abbrev Among : List EntryName → EntryName → Type 0
Among [] n = ⊥
Among (x ∷ xs) n = (x ≡ n) ⊎ Among xs n

among_contains : (xs : List EntryName) (n : EntryName) → Among xs n → Contains xs n
among_contains [] n has = absurd has
among_contains (x ∷ xs) n has = ⊎_elim (λ (e : x ≡ n). (0, omega arith, e)) (λ (rest : Among xs n). let c = among_contains xs n rest in let lt = c.1 in (suc c.0, omega (arith, lt), c.2)) has

contains_among : (xs : List EntryName) (n : EntryName) → Contains xs n → Among xs n
contains_among [] n c = let lt = c.1 in absurd (omega (arith, lt))
contains_among (x ∷ xs) n c = by c.0 c.1 c.2 (contains_among xs n)
  where
    by : (k : ℕ) → k < length (x ∷ xs) → get_or (x ∷ xs) k n ≡ n → (Contains xs n → Among xs n) → Among (x ∷ xs) n
    by zero lt is rest = inl is
    by (suc k) lt is rest = inr (rest (k, omega (arith, lt), is))

among_left : (xs ys : List EntryName) (n : EntryName) → Among xs n → Among (xs ++ ys) n
among_left [] ys n has = absurd has
among_left (x ∷ xs) ys n has = ⊎_elim (λ (e : x ≡ n). inl e) (λ (rest : Among xs n). inr (among_left xs ys n rest)) has

among_right : (xs ys : List EntryName) (n : EntryName) → Among ys n → Among (xs ++ ys) n
among_right [] ys n has = has
among_right (x ∷ xs) ys n has = inr (among_right xs ys n has)

among_parts : (xs ys : List EntryName) (n : EntryName) → Among (xs ++ ys) n → Among xs n ⊎ Among ys n
among_parts [] ys n has = inr has
among_parts (x ∷ xs) ys n has = ⊎_elim (λ (e : x ≡ n). inl (inl e)) (λ (rest : Among (xs ++ ys) n). ⊎_elim (λ (a : Among xs n). inl (inr a)) (λ (b : Among ys n). inr b) (among_parts xs ys n rest)) has

abbrev keys_in : List EntryName → List ℕ
keys_in ns = map (λ (n : EntryName). n.key) ns

-- what all keys of the entries have, the live ones have
all_live : (P : ℕ → Type 0) (es : List (ℕ × Place)) → AllByRecursion P (keys_of es) → AllByRecursion P (keys_in (live_names es))
all_live P [] all = tt
all_live P (e ∷ es) all = by (live_version e.1.known) (all_live P es all.1)
  where
    by : (o : Option ℕ) → AllByRecursion P (keys_in (live_names es)) → AllByRecursion P (keys_in (live_name e.0 o ++ live_names es))
    by None rest = rest
    by (Some v) rest = (all.0, rest)

one_live : (P : ℕ → Type 0) (ns : List EntryName) (n : EntryName) → AllByRecursion P (keys_in ns) → Among ns n → P n.key
one_live P [] n all has = absurd has
one_live P (x ∷ ns) n all has = ⊎_elim (λ (e : x ≡ n). subst (λ (m : EntryName). P m.key) e all.0) (λ (rest : Among ns n). one_live P ns n all.1 rest) has

pub live_sorted : (es : List (ℕ × Place)) → IsStrictlySortedBy nat_cmp (keys_of es) → IsStrictlySortedBy nat_cmp (keys_in (live_names es))
unfolding IsStrictlySortedBy
live_sorted [] sorted = tt
live_sorted (e ∷ es) sorted = by (live_version e.1.known) (live_sorted es (sorted_tail nat_cmp e.0 (keys_of es) sorted)) (all_live (λ y. nat_cmp e.0 y ≡ Less) es (sorted_head nat_cmp e.0 (keys_of es) sorted))
  where
    by : (o : Option ℕ) → IsStrictlySortedBy nat_cmp (keys_in (live_names es)) → AllByRecursion (λ y. nat_cmp e.0 y ≡ Less) (keys_in (live_names es)) → IsStrictlySortedBy nat_cmp (keys_in (live_name e.0 o ++ live_names es))
    by None rest less = rest
    by (Some v) rest less = (less, rest)

not_itself : (k j : ℕ) → nat_cmp k j ≡ Less → k ≢ j
not_itself k j less = let lt : k < j = ranked k j Less (sym less) in λ e. omega (arith, e, lt)

hit : (k q : ℕ) → k ≡ q → is_at (nat_cmp k) q ≡ true
hit k q e = unsigned_tied k q ∙ eq-eqb k q e

at_here : (e : ℕ × Place) (es : List (ℕ × Place)) (k : ℕ) → k ≡ e.0 → known_at (e ∷ es) k ≡ e.1.known
at_here e es k is = ap known_in (cond-true (is_at (nat_cmp k) e.0) (Some e.1) (place_at es k) (hit k e.0 is))

at_later : (e : ℕ × Place) (es : List (ℕ × Place)) (k : ℕ) → k ≢ e.0 → known_at (e ∷ es) k ≡ known_at es k
at_later e es k ne = ap known_in (cond-false (is_at (nat_cmp k) e.0) (Some e.1) (place_at es k) (apart k e.0 (λ e. ne (sym e))))

-- a key with a value is listed
listed : (es : List (ℕ × Place)) (k v : ℕ) → live_version (known_at es k) ≡ Some v → Among (live_names es) (name_with k v)
listed [] k v is = absurd (cc is)
listed (e ∷ es) k v is = ⊎_elim
    (λ (here : k ≡ e.0).
    let at : live_version e.1.known ≡ Some v = ap live_version (sym (at_here e es k here)) ∙ is in
    let own : Among (live_name e.0 (live_version e.1.known)) (name_with k v) = subst (λ (o : Option ℕ). Among (live_name e.0 o) (name_with k v)) (sym at) (inl (ap (λ (j : ℕ). name_with j v) (sym here))) in
    among_left (live_name e.0 (live_version e.1.known)) (live_names es) (name_with k v) own)
    (λ (later : k ≢ e.0). among_right (live_name e.0 (live_version e.1.known)) (live_names es) (name_with k v) (listed es k v (ap live_version (sym (at_later e es k later)) ∙ is)))
    (cases_eq k e.0)

own_name : (j : ℕ) (o : Option ℕ) (k v : ℕ) → Among (live_name j o) (name_with k v) → (j ≡ k) × (o ≡ Some v)
own_name j None k v has = absurd has
own_name j (Some w) k v has = ⊎_elim (λ (e : name_with j w ≡ name_with k v). (ap (λ (n : EntryName). n.key) e, ap (λ (n : EntryName). Some n.version) e)) (λ (none : ⊥). absurd none) has

-- what is listed has a value
lists : (es : List (ℕ × Place)) (k v : ℕ) → IsStrictlySortedBy nat_cmp (keys_of es) → Among (live_names es) (name_with k v) → live_version (known_at es k) ≡ Some v
lists [] k v sorted has = absurd has
lists (e ∷ es) k v sorted has = ⊎_elim
    (λ (own : Among (live_name e.0 (live_version e.1.known)) (name_with k v)). let is = own_name e.0 (live_version e.1.known) k v own in ap live_version (at_here e es k (sym is.0)) ∙ is.1)
    (λ (rest : Among (live_names es) (name_with k v)).
    let less : nat_cmp e.0 k ≡ Less = one_live (λ y. nat_cmp e.0 y ≡ Less) (live_names es) (name_with k v) (all_live (λ y. nat_cmp e.0 y ≡ Less) es (sorted_head nat_cmp e.0 (keys_of es) sorted)) rest in
    ap live_version (at_later e es k (λ same. not_itself e.0 k less (sym same))) ∙ lists es k v (sorted_tail nat_cmp e.0 (keys_of es) sorted) rest)
    (among_parts (live_name e.0 (live_version e.1.known)) (live_names es) (name_with k v) has)

pub lists_exactly : (es : List (ℕ × Place)) (ns : List EntryName) → IsStrictlySortedBy nat_cmp (keys_of es) → ns ≡ live_names es → (k v : ℕ) → (Contains ns (name_with k v) → live_version (known_at es k) ≡ Some v) × (live_version (known_at es k) ≡ Some v → Contains ns (name_with k v))
lists_exactly es ns sorted is k v = (
  λ c. lists es k v sorted (contains_among (live_names es) (name_with k v) (subst (λ (xs : List EntryName). Contains xs (name_with k v)) is c)),
  λ at. subst (λ (xs : List EntryName). Contains xs (name_with k v)) (sym is) (among_contains (live_names es) (name_with k v) (listed es k v at)),
)

pub if_ok_both : {T E : Type 0} {P Q R : T → Type 0} (r : Result T E) → ((x : T) → P x → Q x → R x) → IfOk r P → IfOk r Q → IfOk r R
if_ok_both (Ok x) f p q = f x p q
if_ok_both (Err e) f p q = tt

-- The live keys of the start beside those of the map.

pub start_more : (es : List (ℕ × Place)) (xs : List LiveKey) (y : LiveKey) → start_names es (xs ++ y ∷ []) ≡ start_names es xs ++ live_name (live_key y) (version_left es y)
start_more es [] y = append-nil (live_name (live_key y) (version_left es y))
start_more es (x ∷ xs) y = ap (λ (ns : List EntryName). live_name (live_key x) (version_left es x) ++ ns) (start_more es xs y) ∙ sym (append_assoc (live_name (live_key x) (version_left es x)) (start_names es xs) (live_name (live_key y) (version_left es y)))

all_own : (P : ℕ → Type 0) (k : ℕ) (o : Option ℕ) (ns : List EntryName) → P k → AllByRecursion P (keys_in ns) → AllByRecursion P (keys_in (live_name k o ++ ns))
all_own P k None ns own rest = rest
all_own P k (Some v) ns own rest = (own, rest)

-- what all keys of the list have, its names have
all_start : (P : ℕ → Type 0) (es : List (ℕ × Place)) (xs : List LiveKey) → AllByRecursion (λ (x : LiveKey). P (live_key x)) xs → AllByRecursion P (keys_in (start_names es xs))
all_start P es [] all = tt
all_start P es (x ∷ xs) all = all_own P (live_key x) (version_left es x) (start_names es xs) all.0 (all_start P es xs all.1)

-- none of them is in the map
none_there : (es : List (ℕ × Place)) (xs : List LiveKey) → AllByRecursion (λ k. is_some (place_at es k) ≡ false) (keys_in (start_names es xs))
none_there es [] = tt
none_there es (x ∷ xs) = by (is_some (place_at es (live_key x))) refl (none_there es xs)
  where
    by : (b : Bool) → is_some (place_at es (live_key x)) ≡ b → AllByRecursion (λ k. is_some (place_at es k) ≡ false) (keys_in (start_names es xs)) → AllByRecursion (λ k. is_some (place_at es k) ≡ false) (keys_in (live_name (live_key x) (cond b None (version_by x.fate (entry_version x))) ++ start_names es xs))
    by true is rest = rest
    by false is rest = all_own (λ k. is_some (place_at es k) ≡ false) (live_key x) (version_by x.fate (entry_version x)) (start_names es xs) is rest

all_among : (P : ℕ → Type 0) (ns : List EntryName) → ((n : EntryName) → Among ns n → P n.key) → AllByRecursion P (keys_in ns)
all_among P [] each = tt
all_among P (n ∷ ns) each = (each n (inl refl), all_among P ns (λ m has. each m (inr has)))

place_lives : (o : Option Place) (v : ℕ) → live_version (known_in o) ≡ Some v → is_some o ≡ true
place_lives None v is = absurd (cc is)
place_lives (Some p) v is = refl

all_there : (es : List (ℕ × Place)) → IsStrictlySortedBy nat_cmp (keys_of es) → AllByRecursion (λ k. is_some (place_at es k) ≡ true) (keys_in (live_names es))
all_there es sorted = all_among (λ k. is_some (place_at es k) ≡ true) (live_names es) (λ n has. place_lives (place_at es n.key) n.version (lists es n.key n.version sorted has))

-- No key is named twice.

abbrev Apart : List ℕ → Type 0
Apart ks = IsDistinct eqb ks

all_map : (P Q : ℕ → Type 0) (ks : List ℕ) → ((k : ℕ) → P k → Q k) → AllByRecursion P ks → AllByRecursion Q ks
all_map P Q [] f all = tt
all_map P Q (k ∷ ks) f all = (f k all.0, all_map P Q ks f all.1)

apart_sorted : (ks : List ℕ) → IsStrictlySortedBy nat_cmp ks → Apart ks
unfolding IsDistinct
apart_sorted [] sorted = tt
apart_sorted (k ∷ ks) sorted = (all_map (λ y. nat_cmp k y ≡ Less) (λ y. eqb k y ≡ false) ks (λ y less. ne_eqb k y (not_itself k y less)) (sorted_head nat_cmp k ks sorted), apart_sorted ks (sorted_tail nat_cmp k ks sorted))

apart_own : (k : ℕ) (o : Option ℕ) (ns : List EntryName) → AllByRecursion (λ y. k < y) (keys_in ns) → Apart (keys_in ns) → Apart (keys_in (live_name k o ++ ns))
unfolding IsDistinct
apart_own k None ns above rest = rest
apart_own k (Some v) ns above rest = (all_map (λ y. k < y) (λ y. eqb k y ≡ false) (keys_in ns) (λ y lt. ne_eqb k y (λ e. omega (arith, e, lt))) above, rest)

apart_start : (es : List (ℕ × Place)) (xs : List LiveKey) → KeysRise xs → Apart (keys_in (start_names es xs))
unfolding IsDistinct
apart_start es [] rises = tt
apart_start es (x ∷ xs) rises = apart_own (live_key x) (version_left es x) (start_names es xs) (all_start (λ y. live_key x < y) es xs rises.0) (apart_start es xs rises.1)

apart_append : (P Q : ℕ → Type 0) (xs ys : List ℕ) → ((x y : ℕ) → P x → Q y → eqb x y ≡ false) → AllByRecursion P xs → AllByRecursion Q ys → Apart xs → Apart ys → Apart (xs ++ ys)
unfolding IsDistinct
apart_append P Q [] ys differ ps qs one two = two
apart_append P Q (x ∷ xs) ys differ ps qs one two = (both xs ys one.0 (all_map Q (λ y. eqb x y ≡ false) ys (λ y q. differ x y ps.0 q) qs), apart_append P Q xs ys differ ps.1 qs one.1 two)
  where
    both : (ks js : List ℕ) → AllByRecursion (λ y. eqb x y ≡ false) ks → AllByRecursion (λ y. eqb x y ≡ false) js → AllByRecursion (λ y. eqb x y ≡ false) (ks ++ js)
    both [] js f g = g
    both (k ∷ ks) js f g = (f.0, both ks js f.1 g)

keys_append : (ns ms : List EntryName) → keys_in (ns ++ ms) ≡ keys_in ns ++ keys_in ms
keys_append [] ms = refl
keys_append (n ∷ ns) ms = ap (λ (ks : List ℕ). n.key ∷ ks) (keys_append ns ms)

pub apart_all : (es : List (ℕ × Place)) (xs : List LiveKey) → IsStrictlySortedBy nat_cmp (keys_of es) → KeysRise xs → Apart (keys_in (live_names es ++ start_names es xs))
apart_all es xs sorted rises = subst Apart (sym (keys_append (live_names es) (start_names es xs)))
    (apart_append (λ k. is_some (place_at es k) ≡ true) (λ k. is_some (place_at es k) ≡ false) (keys_in (live_names es)) (keys_in (start_names es xs))
    (λ x y one two. ne_eqb x y (λ e. let a = ap (λ (k : ℕ). is_some (place_at es k)) e in cc (a, one, two)))
    (all_there es sorted) (none_there es xs) (apart_sorted (keys_in (live_names es)) (live_sorted es sorted)) (apart_start es xs rises))

pub rising_names : (es : List (ℕ × Place)) (xs : List LiveKey) (ns : List EntryName) → IsStrictlySortedBy nat_cmp (keys_of es) → KeysRise xs → IsPermutation (live_names es ++ start_names es xs) ns → IsNonDecreasing (keys_in ns) → IsStrictlyIncreasing (keys_in ns)
rising_names es xs ns sorted rises moved order = IsStrictlyIncreasing-from_distinct (keys_in ns) order
    (IsDistinct-IsPermutation eqb flips (keys_in (live_names es ++ start_names es xs)) (keys_in ns) (IsPermutation-map (λ (n : EntryName). n.key) (live_names es ++ start_names es xs) ns moved) (apart_all es xs sorted rises))
  where
    flips : (x y : ℕ) → eqb x y ≡ eqb y x
    flips x y = ⊎_elim (λ (e : x ≡ y). eq-eqb x y e ∙ sym (eq-eqb y x (sym e))) (λ (ne : x ≢ y). ne_eqb x y ne ∙ sym (ne_eqb y x (λ e. ne (sym e)))) (cases_eq x y)

-- What is listed lives, and the other way round.

pub live_valued : (bytes : List ℕ) (x : LiveKey) → live_version (valued bytes x) ≡ version_by x.fate (entry_version x)
live_valued bytes x = by x.fate
  where
    by : (f : LiveFate) → live_version (valued_by f (entry_version x) (entry_home x) (body_in bytes x.held)) ≡ version_by f (entry_version x)
    by Stands = cond-false (is_tombstone (body_in bytes x.held)) None (Some (entry_version x)) (no_tombstone bytes x.held)
    by Gone = cond-false (is_tombstone (body_in bytes x.held)) None (Some (entry_version x)) (no_tombstone bytes x.held)
    by Moved = refl

record IsStarted (es : List (ℕ × Place)) (xs : List LiveKey) (k v : ℕ) : Type 0 where
  found : LiveKey
  has : Some found ≡ live_at xs k
  version : version_by found.fate (entry_version found) ≡ Some v
  new : place_at es k ≡ None

started_listed : (es : List (ℕ × Place)) (xs : List LiveKey) (k v : ℕ) → IsStarted es xs k v → Among (start_names es xs) (name_with k v)
started_listed es xs k v is = by xs is.has
  where
    by : (ys : List LiveKey) → Some is.found ≡ live_at ys k → Among (start_names es ys) (name_with k v)
    by [] has = absurd (cc has)
    by (y ∷ ys) has = ⊎_elim
        (λ (e : live_key y ≡ k).
        let same : is.found ≡ y = cc (has ∙ cond-true (live_key y == k) (Some y) (live_at ys k) (eq-eqb (live_key y) k e)) in
        let none : is_some (place_at es (live_key y)) ≡ false = ap (λ (j : ℕ). is_some (place_at es j)) e ∙ ap is_some is.new in
        let version : version_left es y ≡ Some v = cond-false (is_some (place_at es (live_key y))) None (version_by y.fate (entry_version y)) none ∙ ap (λ (x : LiveKey). version_by x.fate (entry_version x)) (sym same) ∙ is.version in
        among_left (live_name (live_key y) (version_left es y)) (start_names es ys) (name_with k v) (subst (λ (o : Option ℕ). Among (live_name (live_key y) o) (name_with k v)) (sym version) (inl (ap (λ (j : ℕ). name_with j v) e))))
        (λ (ne : live_key y ≢ k). among_right (live_name (live_key y) (version_left es y)) (start_names es ys) (name_with k v) (by ys (has ∙ cond-false (live_key y == k) (Some y) (live_at ys k) (ne_eqb (live_key y) k ne))))
        (cases_eq (live_key y) k)

listed_started : (es : List (ℕ × Place)) (xs : List LiveKey) (k v : ℕ) → KeysRise xs → Among (start_names es xs) (name_with k v) → IsStarted es xs k v
listed_started es [] k v rises has = absurd has
listed_started es (x ∷ xs) k v rises has = ⊎_elim
    (λ (own : Among (live_name (live_key x) (version_left es x)) (name_with k v)).
    let is = own_name (live_key x) (version_left es x) k v own in
    by is.0 (place_at es (live_key x)) refl is.1)
    (λ (rest : Among (start_names es xs) (name_with k v)).
    let after = listed_started es xs k v rises.1 rest in
    let lt : live_key x < k = one_live (λ y. live_key x < y) (start_names es xs) (name_with k v) (all_start (λ y. live_key x < y) es xs rises.0) rest in
    record {
      found = after.found;
      has = after.has ∙ sym (cond-false (live_key x == k) (Some x) (live_at xs k) (ne_eqb (live_key x) k (λ e. omega (arith, e, lt))));
      version = after.version;
      new = after.new;
    })
    (among_parts (live_name (live_key x) (version_left es x)) (start_names es xs) (name_with k v) has)
  where
    by : live_key x ≡ k → (o : Option Place) → place_at es (live_key x) ≡ o → version_left es x ≡ Some v → IsStarted es (x ∷ xs) k v
    by e (Some p) at is = let none : version_left es x ≡ None = ap (λ (o : Option Place). cond (is_some o) None (version_by x.fate (entry_version x))) at in absurd (cc (none, is))
    by e None at is = record {
      found = x;
      has = sym (cond-true (live_key x == k) (Some x) (live_at xs k) (eq-eqb (live_key x) k e));
      version = sym (ap (λ (o : Option Place). cond (is_some o) None (version_by x.fate (entry_version x))) at) ∙ is;
      new = ap (place_at es) (sym e) ∙ at;
    }

live_keeps : (v : Option ℕ) (t : Tombstone) (o : Option KeyRecord) → live_version o ≡ v → live_version (beside t o) ≡ v
live_keeps v t None is = is
live_keeps v t (Some r) is = is

start_live : (a : StartKeys) (k : ℕ) → live_version (known_at (started a) k) ≡ live_version (known_at (lones a.lone) k)
start_live a k = start_keeps (λ (o : Option KeyRecord). live_version o ≡ live_version (known_at (lones a.lone) k)) a k (live_keeps (live_version (known_at (lones a.lone) k))) refl

pub names_live : (es : List (ℕ × Place)) (a : StartKeys) (k v : ℕ) → IsStrictlySortedBy nat_cmp (keys_of es) → KeysRise a.lone.live.items → Among (live_names es ++ start_names es a.lone.live.items) (name_with k v) → live_version (known_at (es ++ started a) k) ≡ Some v
names_live es a k v sorted rises has = ⊎_elim
    (λ (own : Among (live_names es) (name_with k v)).
    let is = lists es k v sorted own in
    let there = some_of (place_at es k) (place_lives (place_at es k) v is) in
    ap (λ (o : Option Place). live_version (known_in o)) (first_place es (started a) k (Some there.0) there.1) ∙ ap (λ (o : Option Place). live_version (known_in o)) (sym there.1) ∙ is)
    (λ (rest : Among (start_names es a.lone.live.items) (name_with k v)).
    let is = listed_started es a.lone.live.items k v rises rest in
    ap (λ (o : Option Place). live_version (known_in o)) (first_place es (started a) k None is.new) ∙ start_live a k ∙ ap live_version (known_live a.lone k is.found is.has) ∙ live_valued a.lone.live.bytes is.found ∙ is.version)
    (among_parts (live_names es) (start_names es a.lone.live.items) (name_with k v) has)

pub live_names_all : (es : List (ℕ × Place)) (a : StartKeys) (k v : ℕ) → live_version (known_at (es ++ started a) k) ≡ Some v → Among (live_names es ++ start_names es a.lone.live.items) (name_with k v)
live_names_all es a k v is = by (place_at es k) refl (live_at a.lone.live.items k) refl
  where
    by : (o : Option Place) → place_at es k ≡ o → (q : Option LiveKey) → q ≡ live_at a.lone.live.items k → Among (live_names es ++ start_names es a.lone.live.items) (name_with k v)
    by (Some p) at q found = among_left (live_names es) (start_names es a.lone.live.items) (name_with k v) (listed es k v (ap (λ (o : Option Place). live_version (known_in o)) at ∙ sym (ap (λ (o : Option Place). live_version (known_in o)) (first_place es (started a) k (Some p) at)) ∙ is))
    by None at (Some x) found = among_right (live_names es) (start_names es a.lone.live.items) (name_with k v) (started_listed es a.lone.live.items k v (record {
      found = x;
      has = found;
      version = sym (ap (λ (o : Option Place). live_version (known_in o)) (first_place es (started a) k None at) ∙ start_live a k ∙ ap live_version (known_live a.lone k x found) ∙ live_valued a.lone.live.bytes x) ∙ is;
      new = at;
    }))
    by None at None found = let none : live_version (known_at (es ++ started a) k) ≡ None = ap (λ (o : Option Place). live_version (known_in o)) (first_place es (started a) k None at) ∙ start_live a k ∙ ap live_version (known_deleted a.lone k found) ∙ none_live a.lone.deleted.items k in absurd (cc (none, is))

pub sorted_each : (es : List (ℕ × Place)) (a : StartKeys) (ms ns : List EntryName) (k v : ℕ) → IsStrictlySortedBy nat_cmp (keys_of es) → KeysRise a.lone.live.items → ms ≡ live_names es ++ start_names es a.lone.live.items → IsPermutation ms ns → (Contains ns (name_with k v) → live_version (known_at (es ++ started a) k) ≡ Some v) × (live_version (known_at (es ++ started a) k) ≡ Some v → Contains ns (name_with k v))
sorted_each es a ms ns k v sorted rises is moved = (
  λ has. names_live es a k v sorted rises (subst (λ (xs : List EntryName). Among xs (name_with k v)) is (contains_among ms (name_with k v) (Contains-permutation ns ms (name_with k v) (IsPermutation-sym ms ns moved) has))),
  λ lives. Contains-permutation ms ns (name_with k v) moved (subst (λ (xs : List EntryName). Contains xs (name_with k v)) (sym is) (among_contains (live_names es ++ start_names es a.lone.live.items) (name_with k v) (live_names_all es a k v lives))),
)

pub start_step : (es : List (ℕ × Place)) (xs : List LiveKey) (i : ℕ) (d : LiveKey) (old names new : List EntryName) → i < length xs → names ≡ old ++ start_names es (take i xs) → new ≡ names ++ live_name (live_key (get_or xs i d)) (version_left es (get_or xs i d)) → new ≡ old ++ start_names es (take (i + 1) xs)
start_step es xs i d old names new lt was is =
    let own = live_name (live_key (get_or xs i d)) (version_left es (get_or xs i d)) in
    is ∙ ap (λ (ns : List EntryName). ns ++ own) was ∙ append_assoc old (start_names es (take i xs)) own
    ∙ ap (λ (ns : List EntryName). old ++ ns) (sym (start_more es (take i xs) (get_or xs i d)))
    ∙ ap (λ (ys : List LiveKey). old ++ start_names es ys) (sym (take_more xs i d lt))

-- a sort by key leaves the keys in order
keys_length : (ns : List EntryName) → length (keys_in ns) ≡ length ns
keys_length [] = refl
keys_length (n ∷ ns) = let rest = keys_length ns in omega (arith, rest)

key_at : (ns : List EntryName) (i d : ℕ) (e : EntryName) → i < length ns → get_or (keys_in ns) i d ≡ (get_or ns i e).key
key_at [] i d e lt = absurd (omega (arith, lt))
key_at (n ∷ ns) zero d e lt = refl
key_at (n ∷ ns) (suc i) d e lt = key_at ns i d e (omega (arith, lt))

pub keys_order : (ns : List EntryName) → IsNonDecreasingBy (λ (n : EntryName). n.key) ns → IsNonDecreasing (keys_in ns)
keys_order ns order = λ i j d le lt.
    let size = keys_length ns in
    let e = name_with 0 0 in
    let a = key_at ns i d e (omega (arith, le, lt, size)) in
    let b = key_at ns j d e (omega (arith, lt, size)) in
    let c = order i j e le (omega (arith, lt, size)) in
    omega (arith, a, b, c)
