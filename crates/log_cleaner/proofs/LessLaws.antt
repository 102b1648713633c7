-- What is left to be copied after a batch.
use Rattle.std.proofs.Common.{◌≡◌, inl, inr, ⊎_elim, ℕ, zero, suc, ◌+◌, ◌≤◌, ◌<◌, ◌==◌, ◌&&◌, ◌||◌, not, Bool, true, false, cond, List, [], ◌∷◌, length, take, Option, Some, refl, sym, ◌∙◌, ap, subst, arith}
use Rattle.std.specs.List.{filter, sum_by, count_by}
use Rattle.std.proofs.lemmas.Bool.{cond-true, cond-false, eqb-true, and_parts}
use Rattle.std.proofs.lemmas.List.Sums.{sum_by-cons}
use Rattle.std.proofs.lemmas.List.Filters.{sum_by-filter_both}
use Rattle.log_entry.specs.declared.entry.Entry.{Entry}
use Rattle.log_entry.specs.Spelling.{words_of}
use Rattle.store_image.specs.Facts.{In}
use Rattle.log_standing.specs.declared.types.Copies.{Copies}
use Rattle.log_standing.specs.NameCounts.{StandingState, copies_at, count_in, told_in, count_of, one_more, name_eq}
use Rattle.log_standing.specs.ChunkCounts.{is_named, has_name}
use Rattle.log_cleaner.specs.Copying.{awaits, left_to_copy, IsEachOnce}
use Rattle.log_cleaner.specs.CopyBatch.{firsts, next_batch, Adds, IsLess, IsLessJust}
pub use Rattle.log_cleaner.proofs.FloorLaws.{sum_ones}
use Rattle.log_cleaner.proofs.Parts.{name_in, in_named}
use Rattle.log_cleaner.proofs.Batches.{name_sym, filter_same, filter_both, filter_swap, two_wants, and_false, and_true}
use Rattle.log_cleaner.proofs.CopyLaws.{in_batch}

module _ {X : Type 0} (f : X → ℕ) where
  pub sum_filter : (p : X → Bool) (xs : List X) → sum_by f (filter p xs) ≤ sum_by f xs
  sum_filter p [] = omega arith
  sum_filter p (x ∷ xs) =
      let rest = sum_filter p xs in
      let a = sum_by-cons f x xs in
      elim (p x) as (λ b. sum_by f (cond b (x ∷ filter p xs) (filter p xs)) ≤ sum_by f (x ∷ xs)) [
        | true ↦ let b = sum_by-cons f x (filter p xs) in omega (arith, rest, a, b)
        | false ↦ omega (arith, rest, a)
      ]

  pub sum_take : (p : X → Bool) (n : ℕ) (xs : List X) → sum_by f (filter p (take n xs)) ≤ sum_by f (filter p xs)
  sum_take p zero xs = omega arith
  sum_take p (suc n) [] = omega arith
  sum_take p (suc n) (x ∷ xs) =
      let rest = sum_take p n xs in
      elim (p x) as (λ b. sum_by f (cond b (x ∷ filter p (take n xs)) (filter p (take n xs))) ≤ sum_by f (cond b (x ∷ filter p xs) (filter p xs))) [
        | true ↦ let a = sum_by-cons f x (filter p (take n xs)) in let b = sum_by-cons f x (filter p xs) in omega (arith, rest, a, b)
        | false ↦ rest
      ]

  pub filter_all : (p : X → Bool) (xs : List X) → ((x : X) → In x xs → p x ≡ true) → filter p xs ≡ xs
  filter_all p [] all = refl
  filter_all p (x ∷ xs) all = cond-true (p x) (x ∷ filter p xs) (filter p xs) (all x (inl refl)) ∙ ap (λ (l : List X). x ∷ l) (filter_all p xs (λ y is. all y (inr is)))

pub sum_firsts : (f : ℕ × Entry → ℕ) (p : ℕ × Entry → Bool) (xs : List (ℕ × Entry)) → sum_by f (filter p (firsts xs)) ≤ sum_by f (filter p xs)
sum_firsts f p [] = omega arith
sum_firsts f p (x ∷ xs) =
    let q : ℕ × Entry → Bool = λ y. not (is_named x.1.key x.1.version y) in
    let swap = ap (sum_by f) (filter_swap p q (firsts xs)) in
    let fewer = sum_filter f q (filter p (firsts xs)) in
    let rest = sum_firsts f p xs in
    elim (p x) as (λ b. sum_by f (cond b (x ∷ filter p (filter (λ y. not (is_named x.1.key x.1.version y)) (firsts xs))) (filter p (filter (λ y. not (is_named x.1.key x.1.version y)) (firsts xs)))) ≤ sum_by f (cond b (x ∷ filter p xs) (filter p xs))) [
      | true ↦ let a = sum_by-cons f x (filter p (filter q (firsts xs))) in let b = sum_by-cons f x (filter p xs) in omega (arith, a, b, swap, fewer, rest)
      | false ↦ omega (arith, swap, fewer, rest)
    ]

-- entries of which no two have one name
pub filter_same_in : {X : Type 0} (p q : X → Bool) (xs : List X) → ((x : X) → In x xs → p x ≡ q x) → filter p xs ≡ filter q xs
filter_same_in p q [] same = refl
filter_same_in p q (x ∷ xs) same = (λ i. cond (same x (inl refl) i) (x ∷ filter_same_in p q xs (λ y is. same y (inr is)) i) (filter_same_in p q xs (λ y is. same y (inr is)) i))

filter_no : {X : Type 0} (xs : List X) → filter (λ (x : X). false) xs ≡ []
filter_no [] = refl
filter_no (x ∷ xs) = filter_no xs

named_self : (x : ℕ × Entry) → is_named x.1.key x.1.version x ≡ true
named_self x = just_one (is_named x.1.key x.1.version x) (in_named (x ∷ []) x (inl refl))
  where
    just_one : (b : Bool) → (b || false) ≡ true → b ≡ true
    just_one true e = refl
    just_one false e = e

count_some : (p : ℕ × Entry → Bool) (xs : List (ℕ × Entry)) (y : ℕ × Entry) → In y xs → p y ≡ true → 0 < count_by p xs
count_some p [] y is passes = absurd is
count_some p (x ∷ xs) y is passes =
    let a = sum_by-cons (λ (z : ℕ × Entry). cond (p z) 1 0) x xs in
    ⊎_elim (λ (here : y ≡ x). let one = ap {B = ℕ} (λ (b : Bool). cond b 1 0) (sym (ap p here) ∙ passes) in omega (arith, a, one))
    (λ later. let rest = count_some p xs y later passes in omega (arith, a, rest)) is

fewer_once : (x : ℕ × Entry) (xs : List (ℕ × Entry)) → IsEachOnce (x ∷ xs) → IsEachOnce xs
fewer_once x xs once k v = let a = sum_by-cons (λ (z : ℕ × Entry). cond (is_named k v z) 1 0) x xs in let o = once k v in omega (arith, a, o)

apart : (x : ℕ × Entry) (xs : List (ℕ × Entry)) → IsEachOnce (x ∷ xs) → (y : ℕ × Entry) → In y xs → is_named y.1.key y.1.version x ≡ false
apart x xs once y is = elim (is_named y.1.key y.1.version x) as (λ b. is_named y.1.key y.1.version x ≡ b → b ≡ false) [
  | true ↦ λ same.
      let a = sum_by-cons (λ (z : ℕ × Entry). cond (is_named y.1.key y.1.version z) 1 0) x xs in
      let one = ap {B = ℕ} (λ (b : Bool). cond b 1 0) same in
      let more = count_some (is_named y.1.key y.1.version) xs y is (named_self y) in
      let o = once y.1.key y.1.version in
      absurd (omega (arith, a, one, more, o))
  | false ↦ λ isnt. refl
] refl

firsts_once : (xs : List (ℕ × Entry)) → IsEachOnce xs → firsts xs ≡ xs
firsts_once [] once = refl
firsts_once (x ∷ xs) once =
    let rest = firsts_once xs (fewer_once x xs once) in
    ap (λ (l : List (ℕ × Entry)). x ∷ l) (ap (filter (λ (y : ℕ × Entry). not (is_named x.1.key x.1.version y))) rest
    ∙ filter_all (λ (y : ℕ × Entry). 1) (λ (y : ℕ × Entry). not (is_named x.1.key x.1.version y)) xs (λ y is. ap not (name_sym y.1.key y.1.version x.1.key x.1.version ∙ apart x xs once y is)))

-- of such ones those that the first n have are the first n
taken_once : (n : ℕ) (xs : List (ℕ × Entry)) → IsEachOnce xs → filter (λ (y : ℕ × Entry). has_name (take n xs) y.1.key y.1.version) xs ≡ take n xs
taken_once zero xs once = filter_no xs
taken_once (suc n) [] once = refl
taken_once (suc n) (x ∷ xs) once =
    let q : ℕ × Entry → Bool = λ y. is_named y.1.key y.1.version x || has_name (take n xs) y.1.key y.1.version in
    cond-true (q x) (x ∷ filter q xs) (filter q xs) (ap (λ (b : Bool). b || has_name (take n xs) x.1.key x.1.version) (named_self x))
    ∙ ap (λ (l : List (ℕ × Entry)). x ∷ l) (filter_same_in q (λ (y : ℕ × Entry). has_name (take n xs) y.1.key y.1.version) xs (λ y is. ap (λ (b : Bool). b || has_name (take n xs) y.1.key y.1.version) (apart x xs once y is))
    ∙ taken_once n xs (fewer_once x xs once))

take_short : {X : Type 0} (n : ℕ) (xs : List X) → length (take n xs) < n → take n xs ≡ xs
take_short zero xs few = absurd (omega (arith, few))
take_short (suc n) [] few = refl
take_short (suc n) (x ∷ xs) few = ap (λ (l : List _). x ∷ l) (take_short n xs (omega (arith, few)))

in_filter : {X : Type 0} (q : X → Bool) (xs : List X) (z : X) → In z xs → q z ≡ true → In z (filter q xs)
in_filter q [] z is passes = absurd is
in_filter q (x ∷ xs) z (inl here) passes = subst (In z) (sym (cond-true (q x) (x ∷ filter q xs) (filter q xs) (ap q (sym here) ∙ passes))) (inl here)
in_filter q (x ∷ xs) z (inr later) passes =
    let rest = in_filter q xs z later passes in
    elim (q x) as (λ b. In z (cond b (x ∷ filter q xs) (filter q xs))) [
      | true ↦ inr rest
      | false ↦ rest
    ]

filter_none : {X : Type 0} (q : X → Bool) (xs : List X) → ((x : X) → In x xs → q x ≡ false) → filter q xs ≡ []
filter_none q [] all = refl
filter_none q (x ∷ xs) all = cond-false (q x) (x ∷ filter q xs) (filter q xs) (all x (inl refl)) ∙ filter_none q xs (λ y is. all y (inr is))

-- of each name one is among the first ones
firsts_has : (xs : List (ℕ × Entry)) (y : ℕ × Entry) → In y xs → has_name (firsts xs) y.1.key y.1.version ≡ true
firsts_has [] y is = absurd is
firsts_has (x ∷ xs) y (inl here) = in_named (firsts (x ∷ xs)) y (inl here)
firsts_has (x ∷ xs) y (inr later) = by (firsts_has xs y later) (is_named y.1.key y.1.version x) refl
  where
    by : has_name (firsts xs) y.1.key y.1.version ≡ true → (b : Bool) → is_named y.1.key y.1.version x ≡ b → (is_named y.1.key y.1.version x || has_name (filter (λ z. not (is_named x.1.key x.1.version z)) (firsts xs)) y.1.key y.1.version) ≡ true
    by has true same = ap (λ (b : Bool). b || has_name (filter (λ z. not (is_named x.1.key x.1.version z)) (firsts xs)) y.1.key y.1.version) same
    by has false isnt =
        let n = name_in (firsts xs) y.1.key y.1.version has in
        let other : is_named x.1.key x.1.version n.found ≡ false = (λ i. name_eq (n.key i, n.version i) (x.1.key, x.1.version)) ∙ name_sym y.1.key y.1.version x.1.key x.1.version ∙ isnt in
        let there = in_filter (λ (z : ℕ × Entry). not (is_named x.1.key x.1.version z)) (firsts xs) n.found n.here (ap not other) in
        let found = in_named (filter (λ (z : ℕ × Entry). not (is_named x.1.key x.1.version z)) (firsts xs)) n.found there in
        let names : has_name (filter (λ (z : ℕ × Entry). not (is_named x.1.key x.1.version z)) (firsts xs)) n.found.1.key n.found.1.version ≡ has_name (filter (λ (z : ℕ × Entry). not (is_named x.1.key x.1.version z)) (firsts xs)) y.1.key y.1.version = λ i. has_name (filter (λ (z : ℕ × Entry). not (is_named x.1.key x.1.version z)) (firsts xs)) (n.key i) (n.version i) in
        let moved = sym names ∙ found in
        ap (λ (b : Bool). b || has_name (filter (λ z. not (is_named x.1.key x.1.version z)) (firsts xs)) y.1.key y.1.version) isnt ∙ moved

module _ (old new : StandingState) (es : List (ℕ × Entry)) (adds : Adds old new (next_batch old es)) where
  in_it : ℕ × Entry → Bool
  in_it y = has_name (next_batch old es) y.1.key y.1.version

  awaits_now : (y : ℕ × Entry) → awaits new y ≡ (awaits old y && not (in_it y))
  unfolding in_it
  awaits_now y = by (has_name (next_batch old es) y.1.key y.1.version) refl
    where
      by : (b : Bool) → has_name (next_batch old es) y.1.key y.1.version ≡ b → awaits new y ≡ (awaits old y && not (has_name (next_batch old es) y.1.key y.1.version))
      by true is =
          let n = name_in (next_batch old es) y.1.key y.1.version is in
          let one : count_of old n.found.1.key n.found.1.version ≡ 1 = eqb-true _ 1 (and_parts _ _ (in_batch old es n.found n.here).1).0 in
          let one_here : count_of old y.1.key y.1.version ≡ 1 = sym (λ i. count_of old (n.key i) (n.version i)) ∙ one in
          let at = adds y.1.key y.1.version ∙ cond-true (has_name (next_batch old es) y.1.key y.1.version) (Some (one_more (copies_at old y.1.key y.1.version))) (copies_at old y.1.key y.1.version) is in
          ap (λ (o : Option Copies). count_in o == 1 && not (told_in o)) at ∙ two_wants (copies_at old y.1.key y.1.version) one_here ∙ sym (ap (λ (b : Bool). awaits old y && not b) is ∙ and_false (awaits old y))
      by false isnt =
          let at = adds y.1.key y.1.version ∙ cond-false (has_name (next_batch old es) y.1.key y.1.version) (Some (one_more (copies_at old y.1.key y.1.version))) (copies_at old y.1.key y.1.version) isnt in
          ap (λ (o : Option Copies). count_in o == 1 && not (told_in o)) at ∙ sym (ap (λ (b : Bool). awaits old y && not b) isnt ∙ and_true (awaits old y))

  left_is : left_to_copy new es ≡ filter (λ (y : ℕ × Entry). not (in_it y)) (left_to_copy old es)
  left_is = filter_same (awaits new) (λ y. awaits old y && not (in_it y)) es awaits_now ∙ filter_both (awaits old) (λ y. not (in_it y)) es

  less_by : (f : ℕ × Entry → ℕ) → sum_by f (next_batch old es) + sum_by f (left_to_copy new es) ≤ sum_by f (left_to_copy old es)
  unfolding in_it
  less_by f =
      let L = left_to_copy old es in
      let all = ap (sum_by f) (filter_all f in_it (next_batch old es) (λ x is. in_named (next_batch old es) x is)) in
      let a = sum_take f in_it 64 (firsts L) in
      let b = sum_firsts f in_it L in
      let both = sum_by-filter_both in_it (λ y. not (in_it y)) (λ y. refl) f L in
      let left = ap (sum_by f) left_is in
      omega (arith, all, a, b, both, left)

  -- a batch that is not full leaves nothing
  pub none_after : length (next_batch old es) < 64 → left_to_copy new es ≡ []
  unfolding in_it
  none_after few =
      let L = left_to_copy old es in
      let whole = take_short 64 (firsts L) few in
      left_is ∙ filter_none (λ (y : ℕ × Entry). not (has_name (next_batch old es) y.1.key y.1.version)) L (λ y is. ap not (ap (λ (xs : List (ℕ × Entry)). has_name xs y.1.key y.1.version) whole ∙ firsts_has L y is))

  -- just by the batch where no two that are left are equal
  module _ (once : IsEachOnce (left_to_copy old es)) where
    just_by : (f : ℕ × Entry → ℕ) → sum_by f (next_batch old es) + sum_by f (left_to_copy new es) ≡ sum_by f (left_to_copy old es)
    unfolding in_it
    just_by f =
        let L = left_to_copy old es in
        let whole = ap (take 64) (firsts_once L once) in
        let named : (y : ℕ × Entry) → has_name (next_batch old es) y.1.key y.1.version ≡ has_name (take 64 L) y.1.key y.1.version = λ y. ap (λ (xs : List (ℕ × Entry)). has_name xs y.1.key y.1.version) whole in
        let taken = ap (sum_by f) (filter_same in_it (λ y. has_name (take 64 L) y.1.key y.1.version) L named ∙ taken_once 64 L once ∙ sym whole) in
        let both = sum_by-filter_both in_it (λ y. not (in_it y)) (λ y. refl) f L in
        let left = ap (sum_by f) left_is in
        omega (arith, taken, both, left)

    pub is_just : IsLessJust old new es
    unfolding in_it
    is_just =
        let n = just_by (λ (x : ℕ × Entry). 1) in
        let a = sum_ones (next_batch old es) in
        let b = sum_ones (left_to_copy new es) in
        let d = sum_ones (left_to_copy old es) in
        record {
          entries = omega (arith, n, a, b, d);
          words = just_by (λ (x : ℕ × Entry). length (words_of x.1));
          once = λ k v. let l = ap (count_by (is_named k v)) left_is in let fewer = sum_filter (λ (x : ℕ × Entry). cond (is_named k v x) 1 0) (λ y. not (in_it y)) (left_to_copy old es) in let o = once k v in omega (arith, l, fewer, o);
        }

  pub is_less : IsLess old new es
  is_less =
      let n = less_by (λ (x : ℕ × Entry). 1) in
      let a = sum_ones (next_batch old es) in
      let b = sum_ones (left_to_copy new es) in
      let d = sum_ones (left_to_copy old es) in
      record { entries = omega (arith, n, a, b, d); words = less_by (λ (x : ℕ × Entry). length (words_of x.1)); just = λ once. is_just once; none = none_after }

-- where the batch is empty nothing was left
pub none_awaits : (old : StandingState) (es : List (ℕ × Entry)) (n : ℕ) → n ≡ length (next_batch old es) → n ≡ 0 → left_to_copy old es ≡ []
none_awaits old es n count zero_is = by (left_to_copy old es) (sym count ∙ zero_is)
  where
    by : (xs : List (ℕ × Entry)) → length (take 64 (firsts xs)) ≡ 0 → xs ≡ []
    by [] none = refl
    by (x ∷ xs) none = absurd (omega (arith, none))
