-- Names in a list by rising rank.
use Rattle.std.proofs.Common.{◌≡◌, ◌≢◌, ⊎_elim, ℕ, zero, suc, ◌+◌, ◌-◌, ◌<◌, ◌≤◌, ◌==◌, true, false, cond, List, [], ◌∷◌, ◌++◌, length, get_or, Option, Some, None, refl, sym, ◌∙◌, ap, subst, arith, slice_set}
use Rattle.std.specs.Prelude.{unwrap_or}
use Rattle.std.specs.List.{AllByRecursion}
use Rattle.std.specs.List.Sorted.{IsNonDecreasingBy}
use Rattle.std.proofs.lemmas.Bool.{cond-true, cond-false, cases_eq, cases_lt}
use Rattle.std.proofs.lemmas.List.{get_or-set_same}
use Rattle.log_standing.specs.declared.name_item.NameItem.{NameItem}
use Rattle.log_standing.specs.declared.types.Copies.{Copies}
use Rattle.log_standing.specs.NameCounts.{name_eq, copies_with, told_in}
use Rattle.log_standing.specs.NameItems.{item_spot, rank_of, rank_in, is_item, copies_of, live, copies_among, one_of, Rises, IsAbsent}
use Rattle.log_standing.proofs.StandingLaws.{same_name, name_same}

pub name_flip : (k v j w : ℕ) → name_eq (k, v) (j, w) ≡ name_eq (j, w) (k, v)
name_flip k v j w = elim (name_eq (k, v) (j, w)) as (λ b. name_eq (k, v) (j, w) ≡ b → b ≡ name_eq (j, w) (k, v)) [
  | true ↦ λ is. let e = same_name k v j w is in sym ((λ i. name_eq (j, w) (e.0 i, e.1 i)) ∙ name_same j w)
  | false ↦ λ isnt. elim (name_eq (j, w) (k, v)) as (λ b. name_eq (j, w) (k, v) ≡ b → false ≡ b) [
    | true ↦ λ is. let e = same_name j w k v is in absurd (let both : true ≡ false = sym ((λ i. name_eq (k, v) (e.0 i, e.1 i)) ∙ name_same k v) ∙ isnt in cc both)
    | false ↦ λ _. refl
  ] refl
] refl

-- an item of a name has its rank
pub item_rank : (k v : ℕ) (x : NameItem) → is_item k v x ≡ true → rank_in x ≡ rank_of k v
item_rank k v x is = let e = same_name x.key x.version k v is in λ i. rank_of (e.0 i) (e.1 i)

pub other_rank : (k v : ℕ) (x : NameItem) → rank_in x ≢ rank_of k v → is_item k v x ≡ false
other_rank k v x ne = elim (is_item k v x) as (λ b. is_item k v x ≡ b → b ≡ false) [
  | true ↦ λ is. absurd (ne (item_rank k v x is))
  | false ↦ λ _. refl
] refl

pub other_key : (k v : ℕ) (x : NameItem) → x.key ≢ k → is_item k v x ≡ false
other_key k v x ne = elim (is_item k v x) as (λ b. is_item k v x ≡ b → b ≡ false) [
  | true ↦ λ is. absurd (ne (same_name x.key x.version k v is).0)
  | false ↦ λ _. refl
] refl

pub other_version : (k v : ℕ) (x : NameItem) → x.version ≢ v → is_item k v x ≡ false
other_version k v x ne = elim (is_item k v x) as (λ b. is_item k v x ≡ b → b ≡ false) [
  | true ↦ λ is. absurd (ne (same_name x.key x.version k v is).1)
  | false ↦ λ _. refl
] refl

above_at : (r : ℕ) (xs : List NameItem) (j : ℕ) (d : NameItem) → AllByRecursion (λ (x : NameItem). r < rank_in x) xs → j < length xs → r < rank_in (get_or xs j d)
above_at r [] j d all lt = absurd (omega (arith, lt))
above_at r (x ∷ xs) zero d all lt = all.0
above_at r (x ∷ xs) (suc j) d all lt = above_at r xs j d all.1 (omega (arith, lt))

pub rises_pair : (xs : List NameItem) (i j : ℕ) (d : NameItem) → Rises xs → i < j → j < length xs → rank_in (get_or xs i d) < rank_in (get_or xs j d)
rises_pair [] i j d rises lt within = absurd (omega (arith, within))
rises_pair (x ∷ xs) i zero d rises lt within = absurd (omega (arith, lt))
rises_pair (x ∷ xs) zero (suc j) d rises lt within = above_at (rank_in x) xs j d rises.0 (omega (arith, within))
rises_pair (x ∷ xs) (suc i) (suc j) d rises lt within = rises_pair xs i j d rises.1 (omega (arith, lt)) (omega (arith, within))

pub never_falls : (xs : List NameItem) → Rises xs → IsNonDecreasingBy rank_in xs
never_falls xs rises = λ i j d le within. ⊎_elim
    (λ (same : i ≡ j). let e = ap (λ (n : ℕ). rank_in (get_or xs n d)) same in omega (arith, e))
    (λ (ne : i ≢ j). ⊎_elim (λ (lt : i < j). let less = rises_pair xs i j d rises lt within in omega (arith, less)) (λ (ge : j ≤ i). absurd (ne (omega (arith, le, ge)))) (cases_lt i j))
    (cases_eq i j)

all_from : (P : NameItem → Type 0) (xs : List NameItem) → ((k : ℕ) (d : NameItem) → k < length xs → P (get_or xs k d)) → AllByRecursion P xs
all_from P [] each = tt
all_from P (x ∷ xs) each = (each 0 x (omega arith), all_from P xs (λ k d lt. each (suc k) d (omega (arith, lt))))

-- every rank before a place is less, from it on none is, and the item there is another name's
pub absent_from : (xs : List NameItem) (k v at : ℕ) → Rises xs → ((j : ℕ) (d : NameItem) → j < at → rank_in (get_or xs j d) < rank_of k v) → ((j : ℕ) (d : NameItem) → at ≤ j → j < length xs → rank_of k v ≤ rank_in (get_or xs j d)) → (at < length xs → (d : NameItem) → is_item k v (get_or xs at d) ≡ false) → IsAbsent xs k v
absent_from xs k v at rises less more isnt = all_from (λ (x : NameItem). is_item k v x ≡ false) xs (λ j d within. ⊎_elim
    (λ (lt : j < at). let below = less j d lt in other_rank k v (get_or xs j d) (λ e. omega (arith, below, e)))
    (λ (ge : at ≤ j). ⊎_elim
    (λ (same : j ≡ at). ap (λ (n : ℕ). is_item k v (get_or xs n d)) same ∙ isnt (subst (λ (n : ℕ). n < length xs) same within) d)
    (λ (ne : j ≢ at). ⊎_elim
    (λ (lt : at < j). let first = more at d (omega arith) (omega (arith, lt, within)) in let above = rises_pair xs at j d rises lt within in other_rank k v (get_or xs j d) (λ e. omega (arith, first, above, e)))
    (λ (le : j ≤ at). absurd (ne (omega (arith, le, ge))))
    (cases_lt at j))
    (cases_eq j at))
    (cases_lt j at))

-- What a name has in the list.

pub copies_first : (x : NameItem) (xs : List NameItem) (k v : ℕ) → copies_among (live (x ∷ xs)) k v ≡ cond (x.count == 0) (copies_among (live xs) k v) (cond (name_eq (k, v) (x.key, x.version)) (Some (copies_with x.count x.dead (item_spot x))) (copies_among (live xs) k v))
copies_first x xs k v = elim (x.count == 0) as (λ b. copies_among (cond b (live xs) (((x.key, x.version), copies_with x.count x.dead (item_spot x)) ∷ live xs)) k v ≡ cond b (copies_among (live xs) k v) (cond (name_eq (k, v) (x.key, x.version)) (Some (copies_with x.count x.dead (item_spot x))) (copies_among (live xs) k v))) [ true ↦ refl | false ↦ refl ]

pub copies_behind : (x : NameItem) (xs : List NameItem) (k v : ℕ) → is_item k v x ≡ false → copies_among (live (x ∷ xs)) k v ≡ copies_among (live xs) k v
copies_behind x xs k v isnt =
    let test : name_eq (k, v) (x.key, x.version) ≡ false = name_flip k v x.key x.version ∙ isnt in
    copies_first x xs k v ∙ elim (x.count == 0) as (λ b. cond b (copies_among (live xs) k v) (cond (name_eq (k, v) (x.key, x.version)) (Some (copies_with x.count x.dead (item_spot x))) (copies_among (live xs) k v)) ≡ copies_among (live xs) k v) [
      | true ↦ refl
      | false ↦ cond-false (name_eq (k, v) (x.key, x.version)) (Some (copies_with x.count x.dead (item_spot x))) (copies_among (live xs) k v) test
    ]

pub copies_here : (x : NameItem) (xs : List NameItem) (k v : ℕ) → is_item k v x ≡ true → copies_among (live xs) k v ≡ None → copies_among (live (x ∷ xs)) k v ≡ copies_of x
copies_here x xs k v is none =
    let test : name_eq (k, v) (x.key, x.version) ≡ true = name_flip k v x.key x.version ∙ is in
    copies_first x xs k v ∙ elim (x.count == 0) as (λ b. cond b (copies_among (live xs) k v) (cond (name_eq (k, v) (x.key, x.version)) (Some (copies_with x.count x.dead (item_spot x))) (copies_among (live xs) k v)) ≡ cond b None (Some (copies_with x.count x.dead (item_spot x)))) [
      | true ↦ none
      | false ↦ cond-true (name_eq (k, v) (x.key, x.version)) (Some (copies_with x.count x.dead (item_spot x))) (copies_among (live xs) k v) test
    ]

pub absent_copies : (xs : List NameItem) (k v : ℕ) → IsAbsent xs k v → copies_among (live xs) k v ≡ None
absent_copies [] k v absent = refl
absent_copies (x ∷ xs) k v absent = copies_behind x xs k v absent.0 ∙ absent_copies xs k v absent.1

above_absent : (xs : List NameItem) (r k v : ℕ) → AllByRecursion (λ (x : NameItem). r < rank_in x) xs → rank_of k v ≤ r → IsAbsent xs k v
above_absent [] r k v all le = tt
above_absent (x ∷ xs) r k v all le = (other_rank k v x (λ e. omega (arith, all.0, le, e)), above_absent xs r k v all.1 le)

pub below_absent : (xs : List NameItem) (r k v : ℕ) → AllByRecursion (λ (x : NameItem). rank_in x < r) xs → r ≤ rank_of k v → IsAbsent xs k v
below_absent [] r k v all le = tt
below_absent (x ∷ xs) r k v all le = (other_rank k v x (λ e. omega (arith, all.0, le, e)), below_absent xs r k v all.1 le)

pub copies_at_place : (xs : List NameItem) (i : ℕ) (d : NameItem) (k v : ℕ) → Rises xs → i < length xs → is_item k v (get_or xs i d) ≡ true → copies_among (live xs) k v ≡ copies_of (get_or xs i d)
copies_at_place [] i d k v rises lt is = absurd (omega (arith, lt))
copies_at_place (x ∷ xs) zero d k v rises lt is = let e = item_rank k v x is in copies_here x xs k v is (absent_copies xs k v (above_absent xs (rank_in x) k v rises.0 (omega (arith, e))))
copies_at_place (x ∷ xs) (suc i) d k v rises lt is =
    let e = item_rank k v (get_or xs i d) is in
    let less = above_at (rank_in x) xs i d rises.0 (omega (arith, lt)) in
    copies_behind x xs k v (other_rank k v x (λ same. omega (arith, e, less, same))) ∙ copies_at_place xs i d k v rises.1 (omega (arith, lt)) is

-- What a write that keeps the name leaves.

all_set : (P : ℕ → Type 0) (xs : List NameItem) (i : ℕ) (z d : NameItem) → rank_in z ≡ rank_in (get_or xs i d) → AllByRecursion (λ (x : NameItem). P (rank_in x)) xs → AllByRecursion (λ (x : NameItem). P (rank_in x)) (slice_set xs i z)
all_set P [] i z d same all = tt
all_set P (x ∷ xs) zero z d same all = (subst P (sym same) all.0, all.1)
all_set P (x ∷ xs) (suc i) z d same all = (all.0, all_set P xs i z d same all.1)

pub rises_set : (xs : List NameItem) (i : ℕ) (z d : NameItem) → rank_in z ≡ rank_in (get_or xs i d) → Rises xs → Rises (slice_set xs i z)
rises_set [] i z d same rises = tt
rises_set (x ∷ xs) zero z d same rises = (subst (λ (r : ℕ). AllByRecursion (λ (y : NameItem). r < rank_in y) xs) (sym same) rises.0, rises.1)
rises_set (x ∷ xs) (suc i) z d same rises = (all_set (λ (r : ℕ). rank_in x < r) xs i z d same rises.0, rises_set xs i z d same rises.1)

length_same : (xs : List NameItem) (i : ℕ) (z : NameItem) → length (slice_set xs i z) ≡ length xs
length_same [] i z = refl
length_same (x ∷ xs) zero z = refl
length_same (x ∷ xs) (suc i) z = ap suc (length_same xs i z)

other_copies : (xs : List NameItem) (i : ℕ) (z d : NameItem) (k v : ℕ) → is_item k v (get_or xs i d) ≡ false → is_item k v z ≡ false → copies_among (live (slice_set xs i z)) k v ≡ copies_among (live xs) k v
other_copies [] i z d k v isnt new = refl
other_copies (x ∷ xs) zero z d k v isnt new = copies_behind z xs k v new ∙ sym (copies_behind x xs k v isnt)
other_copies (x ∷ xs) (suc i) z d k v isnt new =
    copies_first x (slice_set xs i z) k v ∙ ap (λ (o : Option Copies). cond (x.count == 0) o (cond (name_eq (k, v) (x.key, x.version)) (Some (copies_with x.count x.dead (item_spot x))) o)) (other_copies xs i z d k v isnt new) ∙ sym (copies_first x xs k v)

pub copies_set : (xs : List NameItem) (i : ℕ) (z d : NameItem) (k v : ℕ) → Rises xs → i < length xs → is_item k v (get_or xs i d) ≡ true → is_item k v z ≡ true → (j w : ℕ) → copies_among (live (slice_set xs i z)) j w ≡ cond (name_eq (k, v) (j, w)) (copies_of z) (copies_among (live xs) j w)
copies_set xs i z d k v rises lt is new j w =
    let same : rank_in z ≡ rank_in (get_or xs i d) = item_rank k v z new ∙ sym (item_rank k v (get_or xs i d) is) in
    let n = length_same xs i z in
    let was = same_name (get_or xs i d).key (get_or xs i d).version k v is in
    let now = same_name z.key z.version k v new in
    elim (name_eq (k, v) (j, w)) as (λ b. name_eq (k, v) (j, w) ≡ b → copies_among (live (slice_set xs i z)) j w ≡ cond b (copies_of z) (copies_among (live xs) j w)) [
      | true ↦ λ eq.
          let e = same_name k v j w eq in
          let read : get_or (slice_set xs i z) i d ≡ z = get_or-set_same xs i z d lt in
          let there : is_item j w (get_or (slice_set xs i z) i d) ≡ true = ap (is_item j w) read ∙ (λ t. name_eq (now.0 t, now.1 t) (j, w)) ∙ eq in
          copies_at_place (slice_set xs i z) i d j w (rises_set xs i z d same rises) (omega (arith, n, lt)) there ∙ ap copies_of read
      | false ↦ λ ne. other_copies xs i z d j w ((λ t. name_eq (was.0 t, was.1 t) (j, w)) ∙ ne) ((λ t. name_eq (now.0 t, now.1 t) (j, w)) ∙ ne)
    ] refl

-- How many names there are.

live_first : (x : NameItem) (xs : List NameItem) → length (live (x ∷ xs)) ≡ one_of (copies_of x) + length (live xs)
live_first x xs = elim (x.count == 0) as (λ b. length (cond b (live xs) (((x.key, x.version), copies_with x.count x.dead (item_spot x)) ∷ live xs)) ≡ one_of (cond b None (Some (copies_with x.count x.dead (item_spot x)))) + length (live xs)) [ true ↦ omega arith | false ↦ omega arith ]

pub count_set : (xs : List NameItem) (i : ℕ) (z d : NameItem) → i < length xs → length (live (slice_set xs i z)) + one_of (copies_of (get_or xs i d)) ≡ length (live xs) + one_of (copies_of z)
count_set [] i z d lt = absurd (omega (arith, lt))
count_set (x ∷ xs) zero z d lt = let a = live_first x xs in let b = live_first z xs in omega (arith, a, b)
count_set (x ∷ xs) (suc i) z d lt =
    let a = live_first x xs in
    let b = live_first x (slice_set xs i z) in
    let rest = count_set xs i z d (omega (arith, lt)) in
    omega (arith, a, b, rest)

-- One more at the end.

all_push : (P : NameItem → Type 0) (xs : List NameItem) (y : NameItem) → AllByRecursion P xs → P y → AllByRecursion P (xs ++ y ∷ [])
all_push P [] y all new = (new, tt)
all_push P (x ∷ xs) y all new = (all.0, all_push P xs y all.1 new)

pub rises_push : (xs : List NameItem) (y : NameItem) → Rises xs → AllByRecursion (λ (x : NameItem). rank_in x < rank_in y) xs → Rises (xs ++ y ∷ [])
rises_push [] y rises below = (tt, tt)
rises_push (x ∷ xs) y rises below = (all_push (λ (z : NameItem). rank_in x < rank_in z) xs y rises.0 below.0, rises_push xs y rises.1 below.1)

-- the last one is below, so all are
pub all_below : (xs : List NameItem) (r : ℕ) → Rises xs → ((d : NameItem) → 0 < length xs → rank_in (get_or xs (length xs - 1) d) < r) → AllByRecursion (λ (x : NameItem). rank_in x < r) xs
all_below xs r rises last = all_from (λ (x : NameItem). rank_in x < r) xs (λ j d within. let top = last d (omega (arith, within)) in ⊎_elim
    (λ (lt : j < length xs - 1). let less = rises_pair xs j (length xs - 1) d rises lt (omega (arith, within)) in omega (arith, less, top))
    (λ (ge : length xs - 1 ≤ j). let same : j ≡ length xs - 1 = omega (arith, ge, within) in subst (λ (n : ℕ). rank_in (get_or xs n d) < r) (sym same) top)
    (cases_lt j (length xs - 1)))

pub copies_push : (xs : List NameItem) (y : NameItem) (k v : ℕ) → AllByRecursion (λ (x : NameItem). rank_in x < rank_in y) xs → copies_among (live (xs ++ y ∷ [])) k v ≡ cond (is_item k v y) (copies_of y) (copies_among (live xs) k v)
copies_push [] y k v below = elim (is_item k v y) as (λ b. is_item k v y ≡ b → copies_among (live (y ∷ [])) k v ≡ cond b (copies_of y) None) [
  | true ↦ λ is. copies_here y [] k v is refl
  | false ↦ λ isnt. copies_behind y [] k v isnt
] refl
copies_push (x ∷ xs) y k v below = elim (is_item k v y) as (λ b. is_item k v y ≡ b → copies_among (live (x ∷ (xs ++ y ∷ []))) k v ≡ cond b (copies_of y) (copies_among (live (x ∷ xs)) k v)) [
  | true ↦ λ is.
      let e = item_rank k v y is in
      copies_behind x (xs ++ y ∷ []) k v (other_rank k v x (λ same. omega (arith, same, e, below.0))) ∙ copies_push xs y k v below.1 ∙ cond-true (is_item k v y) (copies_of y) (copies_among (live xs) k v) is
  | false ↦ λ isnt.
      let rest : copies_among (live (xs ++ y ∷ [])) k v ≡ copies_among (live xs) k v = copies_push xs y k v below.1 ∙ cond-false (is_item k v y) (copies_of y) (copies_among (live xs) k v) isnt in
      copies_first x (xs ++ y ∷ []) k v ∙ ap (λ (o : Option Copies). cond (x.count == 0) o (cond (name_eq (k, v) (x.key, x.version)) (Some (copies_with x.count x.dead (item_spot x))) o)) rest ∙ sym (copies_first x xs k v)
] refl

-- What is true of each item's copies is true of what a name has.
pub each_live : (P : Copies → Type 0) (xs : List NameItem) → AllByRecursion (λ (x : NameItem). P (copies_with x.count x.dead (item_spot x))) xs → (k v : ℕ) (c : Copies) → copies_among (live xs) k v ≡ Some c → P c
each_live P [] all k v c at = absurd (cc at)
each_live P (x ∷ xs) all k v c at = elim (x.count == 0) as (λ b. cond b (copies_among (live xs) k v) (cond (name_eq (k, v) (x.key, x.version)) (Some (copies_with x.count x.dead (item_spot x))) (copies_among (live xs) k v)) ≡ Some c → P c) [
  | true ↦ λ rest. each_live P xs all.1 k v c rest
  | false ↦ elim (name_eq (k, v) (x.key, x.version)) as (λ b. cond b (Some (copies_with x.count x.dead (item_spot x))) (copies_among (live xs) k v) ≡ Some c → P c) [
    | true ↦ λ is. subst P (ap (λ (o : Option Copies). unwrap_or o (copies_with x.count x.dead (item_spot x))) is) all.0
    | false ↦ λ rest. each_live P xs all.1 k v c rest
  ]
] (sym (copies_first x xs k v) ∙ at)

pub none_told : (o : Option Copies) → ((c : Copies) → o ≡ Some c → c.dead ≡ false) → told_in o ≡ false
none_told None each = refl
none_told (Some c) each = each c refl
