-- A list of chunks without one.
use Rattle.std.proofs.Common.{◌≡◌, ◌≢◌, ⊎_elim, ℕ, suc, ◌+◌, ◌≤◌, ◌<◌, ◌==◌, nat_le, true, false, cond, List, [], ◌∷◌, length, Option, Some, None, is_some, refl, sym, ◌∙◌, ap, arith}
use Rattle.std.specs.List.{remove, AllByRecursion}
use Rattle.std.proofs.lemmas.Bool.{eqb-true, eq-eqb, ne_eqb, leb-false, cond-true, cond-false, cases_eq}
use Rattle.std.proofs.lemmas.Bool.Decides.{nat_tests}
use Rattle.core_log.specs.declared.types.LogChunk.{LogChunk}
use Rattle.core_log.specs.Log.{tail_of, without, IsRising}
use Rattle.core_log.specs.Places.{place_of}
use Rattle.core_log.proofs.TailLaws.{rising_at}

-- a chunk of the list has its place in it
pub place_in : (cs : List LogChunk) (j : ℕ) → is_some (tail_of cs j) ≡ true → place_of cs j < length cs
place_in [] j some = absurd (cc some)
place_in (c ∷ cs) j some = elim (nat_le j c.chunk) as (λ b. nat_le j c.chunk ≡ b → cond b 0 (place_of cs j + 1) < suc (length cs)) [
  | true ↦ λ le. omega arith
  | false ↦ λ gt. let above = leb-false j c.chunk gt in
      let behind : is_some (tail_of cs j) ≡ true = ap is_some (sym (cond-false (c.chunk == j) (Some c.tail) (tail_of cs j) (ne_eqb c.chunk j (λ e. omega (arith, e, above))))) ∙ some in
      let rest = place_in cs j behind in omega (arith, rest)
] refl

pub without_is : (cs : List LogChunk) (from j : ℕ) → IsRising from cs → is_some (tail_of cs j) ≡ true → without cs j ≡ remove cs (place_of cs j)
without_is [] from j rising some = absurd (cc some)
without_is (c ∷ cs) from j rising some = ⊎_elim
    (λ here.
    let zero_is : place_of (c ∷ cs) j ≡ 0 = cond-true (nat_le j c.chunk) 0 (place_of cs j + 1) (grind (arith, nat_tests, here)) in
    cond-true (c.chunk == j) cs (c ∷ without cs j) (eq-eqb c.chunk j here) ∙ ap (remove (c ∷ cs)) (sym zero_is))
    (λ other.
    let isnt = ne_eqb c.chunk j other in
    let behind : is_some (tail_of cs j) ≡ true = ap is_some (sym (cond-false (c.chunk == j) (Some c.tail) (tail_of cs j) isnt)) ∙ some in
    let above = later cs (c.chunk + 1) j rising.1 behind in
    let more : place_of (c ∷ cs) j ≡ place_of cs j + 1 = cond-false (nat_le j c.chunk) 0 (place_of cs j + 1) (grind (arith, nat_tests, above)) in
    let next : place_of cs j + 1 ≡ suc (place_of cs j) = omega arith in
    cond-false (c.chunk == j) cs (c ∷ without cs j) isnt ∙ ap (λ (xs : List LogChunk). c ∷ xs) (without_is cs (c.chunk + 1) j rising.1 behind) ∙ ap (remove (c ∷ cs)) (sym (more ∙ next)))
    (cases_eq c.chunk j)
  where
    later : (xs : List LogChunk) (f k : ℕ) → IsRising f xs → is_some (tail_of xs k) ≡ true → f ≤ k
    later xs f k is has = by_tail (tail_of xs k) refl has
      where
        by_tail : (o : Option ℕ) → tail_of xs k ≡ o → is_some o ≡ true → f ≤ k
        by_tail None at none = absurd (cc none)
        by_tail (Some t) at has_one = rising_at f xs k t is at

pub without_other : (cs : List LogChunk) (j k : ℕ) → k ≢ j → tail_of (without cs j) k ≡ tail_of cs k
without_other [] j k ne = refl
without_other (c ∷ cs) j k ne = elim (c.chunk == j) as (λ b. (c.chunk == j) ≡ b → tail_of (cond b cs (c ∷ without cs j)) k ≡ tail_of (c ∷ cs) k) [
  | true ↦ λ is. let here = eqb-true c.chunk j is in sym (cond-false (c.chunk == k) (Some c.tail) (tail_of cs k) (ne_eqb c.chunk k (λ e. ne (sym e ∙ here))))
  | false ↦ λ isnt. ap (λ (o : Option ℕ). cond (c.chunk == k) (Some c.tail) o) (without_other cs j k ne)
] refl

pub without_self : (cs : List LogChunk) (from j : ℕ) → IsRising from cs → tail_of (without cs j) j ≡ None
without_self [] from j rising = refl
without_self (c ∷ cs) from j rising = elim (c.chunk == j) as (λ b. (c.chunk == j) ≡ b → tail_of (cond b cs (c ∷ without cs j)) j ≡ None) [
  | true ↦ λ is. let here = eqb-true c.chunk j is in none_below cs (c.chunk + 1) j rising.1 (omega (arith, here))
  | false ↦ λ isnt. cond-false (c.chunk == j) (Some c.tail) (tail_of (without cs j) j) isnt ∙ without_self cs (c.chunk + 1) j rising.1
] refl
  where
    none_below : (xs : List LogChunk) (f k : ℕ) → IsRising f xs → k < f → tail_of xs k ≡ None
    none_below [] f k is lt = refl
    none_below (x ∷ xs) f k is lt = cond-false (x.chunk == k) (Some x.tail) (tail_of xs k) (ne_eqb x.chunk k (λ e. omega (arith, e, lt, is.0))) ∙ none_below xs (x.chunk + 1) k is.1 (omega (arith, lt, is.0))

lower : (cs : List LogChunk) (from to : ℕ) → IsRising from cs → to ≤ from → IsRising to cs
lower [] from to rising le = tt
lower (c ∷ cs) from to rising le = (omega (arith, rising.0, le), rising.1)

pub rising_without : (from : ℕ) (cs : List LogChunk) (j : ℕ) → IsRising from cs → IsRising from (without cs j)
rising_without from [] j rising = tt
rising_without from (c ∷ cs) j rising = elim (c.chunk == j) as (λ b. IsRising from (cond b cs (c ∷ without cs j))) [
  | true ↦ lower cs (c.chunk + 1) from rising.1 (omega (arith, rising.0))
  | false ↦ (rising.0, rising_without (c.chunk + 1) cs j rising.1)
]

pub all_without : (P : LogChunk → Type 0) (cs : List LogChunk) (j : ℕ) → AllByRecursion P cs → AllByRecursion P (without cs j)
all_without P [] j all = tt
all_without P (c ∷ cs) j all = elim (c.chunk == j) as (λ b. AllByRecursion P (cond b cs (c ∷ without cs j))) [
  | true ↦ all.1
  | false ↦ (all.0, all_without P cs j all.1)
]
