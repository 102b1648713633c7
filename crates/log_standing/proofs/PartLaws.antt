-- Names in two parts.
use Rattle.std.proofs.Common.{◌≡◌, ℕ, ◌+◌, ◌≤◌, length, max, arith, true, false, cond, List, [], ◌∷◌, ◌++◌, Option, Some, None, is_some, refl, sym, ◌∙◌, ap}
use Rattle.std.specs.Prelude.{IfSome}
use Rattle.std.proofs.lemmas.Bool.{cond-true, cond-false}
use Rattle.std.proofs.lemmas.List.{length-append}
use Rattle.log_standing.specs.declared.types.Copies.{Copies}
use Rattle.log_standing.specs.NameCounts.{name_eq, count_in}
use Rattle.log_standing.specs.NameItems.{copies_among, one_of, Recounts, Writes}
use Rattle.log_standing.specs.TwoParts.{AreApart}
use Rattle.log_standing.proofs.StandingLaws.{same_name}

-- the first, or else the second
abbrev pub either : Option Copies → Option Copies → Option Copies
either None o = o
either (Some c) o = Some c

pub copies_joined : (xs ys : List ((ℕ × ℕ) × Copies)) (k v : ℕ) → copies_among (xs ++ ys) k v ≡ either (copies_among xs k v) (copies_among ys k v)
copies_joined [] ys k v = refl
copies_joined (x ∷ xs) ys k v = elim (name_eq (k, v) x.0) as (λ b. cond b (Some x.1) (copies_among (xs ++ ys) k v) ≡ either (cond b (Some x.1) (copies_among xs k v)) (copies_among ys k v)) [
  | true ↦ refl
  | false ↦ copies_joined xs ys k v
]

pub joined_none : (xs ys : List ((ℕ × ℕ) × Copies)) (k v : ℕ) → copies_among xs k v ≡ None → copies_among (xs ++ ys) k v ≡ copies_among ys k v
joined_none xs ys k v none = copies_joined xs ys k v ∙ ap (λ (o : Option Copies). either o (copies_among ys k v)) none

pub joined_some : (xs ys : List ((ℕ × ℕ) × Copies)) (k v : ℕ) (c : Copies) → copies_among xs k v ≡ Some c → copies_among (xs ++ ys) k v ≡ Some c
joined_some xs ys k v c some = copies_joined xs ys k v ∙ ap (λ (o : Option Copies). either o (copies_among ys k v)) some

pub none_from : (o : Option Copies) → is_some o ≡ false → o ≡ None
none_from None isnt = refl
none_from (Some c) isnt = absurd (cc isnt)

pub joined_first : (xs ys : List ((ℕ × ℕ) × Copies)) (k v : ℕ) → is_some (copies_among xs k v) ≡ true → copies_among (xs ++ ys) k v ≡ copies_among xs k v
joined_first xs ys k v some = copies_joined xs ys k v ∙ first (copies_among xs k v) (copies_among ys k v) some where
  first : (o p : Option Copies) → is_some o ≡ true → either o p ≡ o
  first None p some = absurd (cc some)
  first (Some c) p some = refl

pub bounded : (o : Option Copies) (n most : ℕ) → IfSome o (λ (c : Copies). c.count ≤ most) → 2 ≤ most → n ≤ max 2 (count_in o) → n ≤ most
bounded None n most small two le = omega (arith, two, le)
bounded (Some c) n most small two le = omega (arith, small, two, le)

-- a name that has nothing has nothing after that
pub writes_none : (t : List ((ℕ × ℕ) × Copies)) (k v : ℕ) → copies_among t k v ≡ None → Writes t t k v None
writes_none t k v none j w = elim (name_eq (k, v) (j, w)) as (λ b. name_eq (k, v) (j, w) ≡ b → copies_among t j w ≡ cond b None (copies_among t j w)) [
  | true ↦ λ is. let e = same_name k v j w is in sym (λ i. copies_among t (e.0 i) (e.1 i)) ∙ none
  | false ↦ λ _. refl
] refl

-- a write in the first part
pub writes_first : (t new l : List ((ℕ × ℕ) × Copies)) (k v : ℕ) (c : Copies) → Writes t new k v (Some c) → Writes (t ++ l) (new ++ l) k v (Some c)
writes_first t new l k v c writes j w = copies_joined new l j w ∙ ap (λ (o : Option Copies). either o (copies_among l j w)) (writes j w) ∙ elim (name_eq (k, v) (j, w)) as (λ b. either (cond b (Some c) (copies_among t j w)) (copies_among l j w) ≡ cond b (Some c) (copies_among (t ++ l) j w)) [
  | true ↦ refl
  | false ↦ sym (copies_joined t l j w)
]

-- a write in the second part, of a name that is gone from the first
pub writes_second : (t new l more : List ((ℕ × ℕ) × Copies)) (k v : ℕ) (o : Option Copies) → Writes t new k v None → Writes l more k v o → Writes (t ++ l) (new ++ more) k v o
writes_second t new l more k v o gone writes j w = copies_joined new more j w ∙ (λ i. either (gone j w i) (writes j w i)) ∙ elim (name_eq (k, v) (j, w)) as (λ b. either (cond b None (copies_among t j w)) (cond b o (copies_among l j w)) ≡ cond b o (copies_among (t ++ l) j w)) [
  | true ↦ refl
  | false ↦ sym (copies_joined t l j w)
]

pub apart_first : (t new l : List ((ℕ × ℕ) × Copies)) (k v : ℕ) (c : Copies) → AreApart t l → copies_among l k v ≡ None → Writes t new k v (Some c) → AreApart new l
apart_first t new l k v c apart none writes j w = elim (name_eq (k, v) (j, w)) as (λ b. name_eq (k, v) (j, w) ≡ b → is_some (copies_among new j w) ≡ true → copies_among l j w ≡ None) [
  | true ↦ λ is _. let e = same_name k v j w is in sym (λ i. copies_among l (e.0 i) (e.1 i)) ∙ none
  | false ↦ λ isnt some. apart j w (sym (ap (λ (o : Option Copies). is_some o) (writes j w ∙ cond-false (name_eq (k, v) (j, w)) (Some c) (copies_among t j w) isnt)) ∙ some)
] refl

pub apart_second : (t new l more : List ((ℕ × ℕ) × Copies)) (k v : ℕ) (o : Option Copies) → AreApart t l → Writes t new k v None → Writes l more k v o → AreApart new more
apart_second t new l more k v o apart gone writes j w = elim (name_eq (k, v) (j, w)) as (λ b. name_eq (k, v) (j, w) ≡ b → is_some (copies_among new j w) ≡ true → copies_among more j w ≡ None) [
  | true ↦ λ is some. absurd (let both : false ≡ true = sym (ap (λ (p : Option Copies). is_some p) (gone j w ∙ cond-true (name_eq (k, v) (j, w)) None (copies_among t j w) is)) ∙ some in cc both)
  | false ↦ λ isnt some. writes j w ∙ cond-false (name_eq (k, v) (j, w)) o (copies_among l j w) isnt ∙ apart j w (sym (ap (λ (p : Option Copies). is_some p) (gone j w ∙ cond-false (name_eq (k, v) (j, w)) None (copies_among t j w) isnt)) ∙ some)
] refl

-- How many names both parts have.

either_first : (o p : Option Copies) → p ≡ None → one_of (either o p) ≡ one_of o
either_first None p none = ap one_of none
either_first (Some c) p none = refl

either_count : (o p : Option Copies) → (is_some o ≡ true → p ≡ None) → one_of (either o p) ≡ one_of o + one_of p
either_count None p apart = omega arith
either_count (Some c) p apart = let none = ap one_of (apart refl) in omega (arith, none)

-- a name of the first part alone
pub recounts_first : (t new l : List ((ℕ × ℕ) × Copies)) (k v : ℕ) (o : Option Copies) → copies_among l k v ≡ None → Recounts t new k v o → Recounts (t ++ l) (new ++ l) k v o
recounts_first t new l k v o none count =
    let a = length-append t l in
    let b = length-append new l in
    let one = ap one_of (copies_joined t l k v) ∙ either_first (copies_among t k v) (copies_among l k v) none in
    omega (arith, a, b, one, count)

-- one that is taken out of the first part, and written in the second one
pub recounts_second : (t new l more : List ((ℕ × ℕ) × Copies)) (k v : ℕ) (o : Option Copies) → AreApart t l → Recounts t new k v None → length more + one_of (copies_among l k v) ≡ length l + one_of o → Recounts (t ++ l) (new ++ more) k v o
recounts_second t new l more k v o apart gone count =
    let a = length-append t l in
    let b = length-append new more in
    let both = ap one_of (copies_joined t l k v) ∙ either_count (copies_among t k v) (copies_among l k v) (apart k v) in
    omega (arith, a, b, both, gone, count)

pub one_is : (o : Option Copies) → is_some o ≡ true → one_of o ≡ 1
one_is None some = absurd (cc some)
one_is (Some c) some = refl

pub one_none : (t : List ((ℕ × ℕ) × Copies)) (k v : ℕ) → copies_among t k v ≡ None → Recounts t t k v None
one_none t k v none = let zero_there = ap one_of none in omega (arith, zero_there)
