-- The chunks of a log as a map from numbers to tails.
use Rattle.std.proofs.Common.{◌≡◌, ◌≢◌, ⊎_elim, ℕ, zero, suc, ◌+◌, ◌≤◌, ◌<◌, ◌==◌, nat_lt, nat_le, Bool, true, false, cond, List, [], ◌∷◌, length, drop, get_or, Option, Some, None, refl, sym, ◌∙◌, ap, subst, arith, slice_set}
use Rattle.std.specs.List.{insert, AllByRecursion}
use Rattle.std.proofs.lemmas.Bool.{eqb-true, eq-eqb, ne_eqb, leb-true, leb-false, cond-true, cond-false, cases_eq, cases_lt}
use Rattle.std.proofs.lemmas.Bool.Decides.{nat_tests}
use Rattle.std.proofs.lemmas.List.{drop_more}
use Rattle.core_log.specs.declared.types.LogChunk.{LogChunk}
use Rattle.core_log.specs.Log.{tail_of, with_tail, chunk_with, IsRising}
use Rattle.core_log.specs.Places.{place_of}

-- one chunk further in a list
pub tail_step : (cs : List LogChunk) (i j : ℕ) (d : LogChunk) → i < length cs → tail_of (drop i cs) j ≡ cond ((get_or cs i d).chunk == j) (Some (get_or cs i d).tail) (tail_of (drop (i + 1) cs) j)
tail_step cs i j d lt = ap (λ (xs : List LogChunk). tail_of xs j) (drop_more cs i d lt)

pub place_step : (cs : List LogChunk) (i j : ℕ) (d : LogChunk) → i < length cs → place_of (drop i cs) j ≡ cond (nat_le j (get_or cs i d).chunk) 0 (place_of (drop (i + 1) cs) j + 1)
place_step cs i j d lt = ap (λ (xs : List LogChunk). place_of xs j) (drop_more cs i d lt)

-- the chunk that is set has the tail, and any other has the one that it had
pub tail_set : (cs : List LogChunk) (j t : ℕ) → tail_of (with_tail cs j t) j ≡ Some t
tail_set [] j t = grind (arith, nat_tests)
tail_set (c ∷ cs) j t = elim (nat_lt j c.chunk) as (λ b. tail_of (cond b (chunk_with j t ∷ c ∷ cs) (cond (c.chunk == j) (chunk_with j t ∷ cs) (c ∷ with_tail cs j t))) j ≡ Some t) [
  | true ↦ cond-true (j == j) (Some t) (tail_of (c ∷ cs) j) (eq-eqb j j refl)
  | false ↦ at_or_behind (tail_set cs j t) (c.chunk == j) refl
]
  where
    at_or_behind : tail_of (with_tail cs j t) j ≡ Some t → (b : Bool) → (c.chunk == j) ≡ b → tail_of (cond b (chunk_with j t ∷ cs) (c ∷ with_tail cs j t)) j ≡ Some t
    at_or_behind rest true is = cond-true (j == j) (Some t) (tail_of cs j) (eq-eqb j j refl)
    at_or_behind rest false isnt = cond-false (c.chunk == j) (Some c.tail) (tail_of (with_tail cs j t) j) isnt ∙ rest

pub tail_other : (cs : List LogChunk) (j t k : ℕ) → k ≢ j → tail_of (with_tail cs j t) k ≡ tail_of cs k
tail_other [] j t k ne = cond-false (j == k) (Some t) None (ne_eqb j k (λ e. ne (sym e)))
tail_other (c ∷ cs) j t k ne = elim (nat_lt j c.chunk) as (λ b. tail_of (cond b (chunk_with j t ∷ c ∷ cs) (cond (c.chunk == j) (chunk_with j t ∷ cs) (c ∷ with_tail cs j t))) k ≡ tail_of (c ∷ cs) k) [
  | true ↦ cond-false (j == k) (Some t) (tail_of (c ∷ cs) k) (ne_eqb j k (λ e. ne (sym e)))
  | false ↦ at_or_behind (tail_other cs j t k ne) (c.chunk == j) refl
]
  where
    at_or_behind : tail_of (with_tail cs j t) k ≡ tail_of cs k → (b : Bool) → (c.chunk == j) ≡ b → tail_of (cond b (chunk_with j t ∷ cs) (c ∷ with_tail cs j t)) k ≡ tail_of (c ∷ cs) k
    at_or_behind rest true is =
        let here : c.chunk ≡ j = eqb-true c.chunk j is in
        cond-false (j == k) (Some t) (tail_of cs k) (ne_eqb j k (λ e. ne (sym e))) ∙ sym (cond-false (c.chunk == k) (Some c.tail) (tail_of cs k) (ne_eqb c.chunk k (λ e. ne (sym e ∙ here))))
    at_or_behind rest false isnt = ap (λ (o : Option ℕ). cond (c.chunk == k) (Some c.tail) o) rest

-- the code's two cases
pub set_is : (cs : List LogChunk) (j t : ℕ) (d : LogChunk) → place_of cs j < length cs → (get_or cs (place_of cs j) d).chunk ≡ j → with_tail cs j t ≡ slice_set cs (place_of cs j) (chunk_with j t)
set_is [] j t d = λ lt here. absurd (omega (arith, lt))
set_is (c ∷ cs) j t d = by_place (set_is cs j t d) (nat_le j c.chunk) refl
  where
    by_place : (place_of cs j < length cs → (get_or cs (place_of cs j) d).chunk ≡ j → with_tail cs j t ≡ slice_set cs (place_of cs j) (chunk_with j t)) → (b : Bool) → nat_le j c.chunk ≡ b → cond b 0 (place_of cs j + 1) < length (c ∷ cs) → (get_or (c ∷ cs) (cond b 0 (place_of cs j + 1)) d).chunk ≡ j
        → with_tail (c ∷ cs) j t ≡ slice_set (c ∷ cs) (cond b 0 (place_of cs j + 1)) (chunk_with j t)
    by_place rest true le lt here =
        cond-false (nat_lt j c.chunk) (chunk_with j t ∷ c ∷ cs) (cond (c.chunk == j) (chunk_with j t ∷ cs) (c ∷ with_tail cs j t)) (grind (arith, nat_tests, here))
        ∙ cond-true (c.chunk == j) (chunk_with j t ∷ cs) (c ∷ with_tail cs j t) (eq-eqb c.chunk j here)
    by_place rest false gt lt here =
        let above = leb-false j c.chunk gt in
        let e : place_of cs j + 1 ≡ suc (place_of cs j) = omega arith in
        let lt' : place_of cs j < length cs = omega (arith, lt) in
        let here' : (get_or cs (place_of cs j) d).chunk ≡ j = sym (ap (λ (n : ℕ). (get_or (c ∷ cs) n d).chunk) e) ∙ here in
        cond-false (nat_lt j c.chunk) (chunk_with j t ∷ c ∷ cs) (cond (c.chunk == j) (chunk_with j t ∷ cs) (c ∷ with_tail cs j t)) (grind (arith, nat_tests, above))
        ∙ cond-false (c.chunk == j) (chunk_with j t ∷ cs) (c ∷ with_tail cs j t) (ne_eqb c.chunk j (λ is. omega (arith, is, above)))
        ∙ ap (λ (xs : List LogChunk). c ∷ xs) (rest lt' here')
        ∙ ap (λ (n : ℕ). slice_set (c ∷ cs) n (chunk_with j t)) (sym e)

pub insert_is : (cs : List LogChunk) (j t : ℕ) (d : LogChunk) → (place_of cs j < length cs → (get_or cs (place_of cs j) d).chunk ≢ j) → with_tail cs j t ≡ insert cs (place_of cs j) (chunk_with j t)
insert_is [] j t d = λ none. refl
insert_is (c ∷ cs) j t d = by_place (insert_is cs j t d) (nat_le j c.chunk) refl
  where
    by_place : ((place_of cs j < length cs → (get_or cs (place_of cs j) d).chunk ≢ j) → with_tail cs j t ≡ insert cs (place_of cs j) (chunk_with j t)) → (b : Bool) → nat_le j c.chunk ≡ b → (cond b 0 (place_of cs j + 1) < length (c ∷ cs) → (get_or (c ∷ cs) (cond b 0 (place_of cs j + 1)) d).chunk ≢ j)
        → with_tail (c ∷ cs) j t ≡ insert (c ∷ cs) (cond b 0 (place_of cs j + 1)) (chunk_with j t)
    by_place rest true le none =
        let at = leb-true j c.chunk le in
        let ne : c.chunk ≢ j = none (omega arith) in
        cond-true (nat_lt j c.chunk) (chunk_with j t ∷ c ∷ cs) (cond (c.chunk == j) (chunk_with j t ∷ cs) (c ∷ with_tail cs j t)) (grind (arith, nat_tests, at, ne))
    by_place rest false gt none =
        let above = leb-false j c.chunk gt in
        let e : place_of cs j + 1 ≡ suc (place_of cs j) = omega arith in
        let none' : place_of cs j < length cs → (get_or cs (place_of cs j) d).chunk ≢ j = λ lt is. none (omega (arith, lt)) (ap (λ (n : ℕ). (get_or (c ∷ cs) n d).chunk) e ∙ is) in
        cond-false (nat_lt j c.chunk) (chunk_with j t ∷ c ∷ cs) (cond (c.chunk == j) (chunk_with j t ∷ cs) (c ∷ with_tail cs j t)) (grind (arith, nat_tests, above))
        ∙ cond-false (c.chunk == j) (chunk_with j t ∷ cs) (c ∷ with_tail cs j t) (ne_eqb c.chunk j (λ is. omega (arith, is, above)))
        ∙ ap (λ (xs : List LogChunk). c ∷ xs) (rest none')
        ∙ ap (λ (n : ℕ). insert (c ∷ cs) n (chunk_with j t)) (sym e)

-- a rising list stays one
pub rising_set : (from : ℕ) (cs : List LogChunk) (j t : ℕ) → IsRising from cs → from ≤ j → IsRising from (with_tail cs j t)
rising_set from [] j t rising le = (le, tt)
rising_set from (c ∷ cs) j t rising le = ⊎_elim
    (λ lt. subst (IsRising from) (sym (cond-true (nat_lt j c.chunk) _ _ (grind (arith, nat_tests, lt)))) (le, (omega (arith, lt), rising.1)))
    (λ ge. subst (IsRising from) (sym (cond-false (nat_lt j c.chunk) _ (cond (c.chunk == j) (chunk_with j t ∷ cs) (c ∷ with_tail cs j t)) (grind (arith, nat_tests, ge)))) (⊎_elim
    (λ is. subst (IsRising from) (sym (cond-true (c.chunk == j) _ _ (eq-eqb c.chunk j is))) (le, subst (λ (n : ℕ). IsRising (n + 1) cs) is rising.1))
    (λ ne. subst (IsRising from) (sym (cond-false (c.chunk == j) _ _ (ne_eqb c.chunk j ne))) (rising.0, rising_set (c.chunk + 1) cs j t rising.1 (omega (arith, ne, ge))))
    (cases_eq c.chunk j)))
    (cases_lt j c.chunk)

pub all_set : (P : LogChunk → Type 0) (cs : List LogChunk) (j t : ℕ) → AllByRecursion P cs → P (chunk_with j t) → AllByRecursion P (with_tail cs j t)
all_set P [] j t all new = (new, tt)
all_set P (c ∷ cs) j t all new = elim (nat_lt j c.chunk) as (λ b. AllByRecursion P (cond b (chunk_with j t ∷ c ∷ cs) (cond (c.chunk == j) (chunk_with j t ∷ cs) (c ∷ with_tail cs j t)))) [
  | true ↦ (new, all)
  | false ↦ elim (c.chunk == j) as (λ b. AllByRecursion P (cond b (chunk_with j t ∷ cs) (c ∷ with_tail cs j t))) [
    | true ↦ (new, all.1)
    | false ↦ (all.0, all_set P cs j t all.1 new)
  ]
]

-- what all chunks have, a chunk with a tail has
pub all_of : (P : LogChunk → Type 0) (cs : List LogChunk) (j t : ℕ) → AllByRecursion P cs → tail_of cs j ≡ Some t → P (chunk_with j t)
all_of P [] j t all = λ is. absurd (cc is)
all_of P (c ∷ cs) j t all = by_number (all_of P cs j t all.1) (c.chunk == j) refl
  where
    by_number : (tail_of cs j ≡ Some t → P (chunk_with j t)) → (b : Bool) → (c.chunk == j) ≡ b → cond b (Some c.tail) (tail_of cs j) ≡ Some t → P (chunk_with j t)
    by_number rest true same is = let e = eqb-true c.chunk j same in let f : c.tail ≡ t = cc is in subst P (λ i. chunk_with (e i) (f i)) all.0
    by_number rest false other is = rest is

-- a rising list of numbers below a bound is no longer than what is left up to it
pub rising_short : (from n : ℕ) (cs : List LogChunk) → from ≤ n → IsRising from cs → AllByRecursion (λ (c : LogChunk). c.chunk < n) cs → from + length cs ≤ n
rising_short from n [] le rising all = omega (arith, le)
rising_short from n (c ∷ cs) le rising all = let rest = rising_short (c.chunk + 1) n cs (let lt = all.0 in omega arith) rising.1 all.1 in omega (arith, rest, rising.0)

-- what all elements have, one at a place has
pub all_at : (P : LogChunk → Type 0) (cs : List LogChunk) (i : ℕ) (d : LogChunk) → AllByRecursion P cs → i < length cs → P (get_or cs i d)
all_at P [] i d all lt = absurd (omega (arith, lt))
all_at P (c ∷ cs) zero d all lt = all.0
all_at P (c ∷ cs) (suc i) d all lt = all_at P cs i d all.1 (omega (arith, lt))

-- no number of a rising list is below its start
pub rising_at : (from : ℕ) (cs : List LogChunk) (j t : ℕ) → IsRising from cs → tail_of cs j ≡ Some t → from ≤ j
rising_at from [] j t rising is = absurd (cc is)
rising_at from (c ∷ cs) j t rising is = elim (c.chunk == j) as (λ b. (c.chunk == j) ≡ b → cond b (Some c.tail) (tail_of cs j) ≡ Some t → from ≤ j) [
  | true ↦ λ here at. let e = eqb-true c.chunk j here in omega (arith, e, rising.0)
  | false ↦ λ other at. let le = rising_at (c.chunk + 1) cs j t rising.1 at in omega (arith, le, rising.0)
] refl is
