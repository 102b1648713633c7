-- The chunks of a log as it is opened.
use Rattle.std.proofs.Common.{◌≡◌, ◌⊎◌, inl, inr, ⊎_elim, ℕ, ◌+◌, ◌≤◌, ◌<◌, ◌==◌, nat_lt, true, false, cond, List, [], ◌∷◌, length, drop, get_or, Option, Some, None, refl, sym, ◌∙◌, ap, subst, arith}
use Rattle.std.specs.Option.{option_or}
use Rattle.std.proofs.lemmas.Bool.{eqb-true, eqb-false, eq-eqb, ne_eqb, ltb-true, ltb-false, cond-true, cond-false, cases_lt}
use Rattle.std.proofs.lemmas.Bool.Decides.{nat_tests}
use Rattle.std.proofs.lemmas.List.{drop_more}
use Rattle.core_log.specs.declared.types.LogChunk.{LogChunk}
use Rattle.core_log.specs.Log.{tail_of, with_tail, IsRising}
use Rattle.core_log.specs.Fresh.{HasEachOnce, IsEmptiest, all_set, least, emptiest}
use Rattle.core_log.proofs.TailLaws.{tail_set, tail_other, rising_at}

-- a chunk that is set has the tail that it has in the list, and any other the one that it had
set_tails : (cs kept : List LogChunk) (j : ℕ) → HasEachOnce cs → tail_of (all_set cs kept) j ≡ option_or (tail_of cs j) (tail_of kept j)
set_tails [] kept j once = refl
set_tails (c ∷ cs) kept j once = set_tails cs (with_tail kept c.chunk c.tail) j once.1 ∙ elim (c.chunk == j) as (λ b. (c.chunk == j) ≡ b → option_or (tail_of cs j) (tail_of (with_tail kept c.chunk c.tail) j) ≡ option_or (cond b (Some c.tail) (tail_of cs j)) (tail_of kept j)) [
  | true ↦ λ is. let here : c.chunk ≡ j = eqb-true c.chunk j is in
      let none : tail_of cs j ≡ None = ap (tail_of cs) (sym here) ∙ once.0 in
      let set : tail_of (with_tail kept c.chunk c.tail) j ≡ Some c.tail = ap (tail_of (with_tail kept c.chunk c.tail)) (sym here) ∙ tail_set kept c.chunk c.tail in
      (λ i. option_or (none i) (set i))
  | false ↦ λ isnt. ap (option_or (tail_of cs j)) (tail_other kept c.chunk c.tail j (λ e. eqb-false c.chunk j isnt (sym e)))
] refl

or_none : (o : Option ℕ) → option_or o None ≡ o
or_none None = refl
or_none (Some x) = refl

pub tails_same : (cs : List LogChunk) (j : ℕ) → HasEachOnce cs → tail_of (all_set cs []) j ≡ tail_of cs j
tails_same cs j once = set_tails cs [] j once ∙ or_none (tail_of cs j)

pub set_step : (cs kept : List LogChunk) (i : ℕ) (d : LogChunk) → i < length cs → all_set (drop i cs) kept ≡ all_set (drop (i + 1) cs) (with_tail kept (get_or cs i d).chunk (get_or cs i d).tail)
set_step cs kept i d lt = ap (λ (xs : List LogChunk). all_set xs kept) (drop_more cs i d lt)

pub least_step : (cs : List LogChunk) (best : LogChunk) (i : ℕ) (d : LogChunk) → i < length cs
    → least best (drop i cs) ≡ cond (nat_lt (get_or cs i d).tail best.tail) (least (get_or cs i d) (drop (i + 1) cs)) (least best (drop (i + 1) cs))
least_step cs best i d lt = ap (least best) (drop_more cs i d lt)

-- the chunk that is found, in a rising list behind one more chunk
record IsLeast (b : LogChunk) (cs : List LogChunk) (r : LogChunk) : Type 0 where
  pub at : tail_of (b ∷ cs) r.chunk ≡ Some r.tail
  pub first : (r.tail < b.tail) ⊎ ((r.tail ≡ b.tail) × (r.chunk ≤ b.chunk))
  pub others : (j u : ℕ) → tail_of cs j ≡ Some u → (r.tail < u) ⊎ ((r.tail ≡ u) × (r.chunk ≤ j))

is_least : (b : LogChunk) (cs : List LogChunk) → IsRising (b.chunk + 1) cs → IsLeast b cs (least b cs)
is_least b [] rising = record {
  at = cond-true (b.chunk == b.chunk) (Some b.tail) None (eq-eqb b.chunk b.chunk refl);
  first = inr (refl, omega arith);
  others = λ j u is. absurd (cc is);
}
is_least b (c ∷ cs) rising = elim (nat_lt c.tail b.tail) as (λ t. nat_lt c.tail b.tail ≡ t → IsLeast b (c ∷ cs) (cond t (least c cs) (least b cs))) [
  | true ↦ λ below. on c (is_least c cs rising.1) (ltb-true c.tail b.tail below)
  | false ↦ λ above. keep (is_least b cs (weaker cs rising.1 (omega (arith, rising.0)))) (ltb-false c.tail b.tail above)
] refl
  where
    weaker : (xs : List LogChunk) → IsRising (c.chunk + 1) xs → b.chunk + 1 ≤ c.chunk + 1 → IsRising (b.chunk + 1) xs
    weaker [] is le = tt
    weaker (x ∷ xs) is le = (omega (arith, is.0, le), is.1)

    on : (d : LogChunk) → IsLeast c cs (least d cs) → c.tail < b.tail → IsLeast b (c ∷ cs) (least d cs)
    on d is below = record {
      at =
          let le = rising_at c.chunk (c ∷ cs) (least d cs).chunk (least d cs).tail (omega arith, rising.1) is.at in
          cond-false (b.chunk == (least d cs).chunk) (Some b.tail) (tail_of (c ∷ cs) (least d cs).chunk) (ne_eqb b.chunk (least d cs).chunk (λ e. omega (arith, e, le, rising.0))) ∙ is.at;
      first = ⊎_elim (λ lt. inl (omega (arith, lt, below))) (λ same. inl (omega (arith, same.0, below))) is.first;
      others = λ j u at. elim (c.chunk == j) as (λ t. (c.chunk == j) ≡ t → cond t (Some c.tail) (tail_of cs j) ≡ Some u → ((least d cs).tail < u) ⊎ (((least d cs).tail ≡ u) × ((least d cs).chunk ≤ j))) [
        | true ↦ λ here some. let e = eqb-true c.chunk j here in let f : c.tail ≡ u = cc some in
            ⊎_elim (λ lt. inl (omega (arith, lt, f))) (λ same. inr (same.0 ∙ f, omega (arith, same.1, e))) is.first
        | false ↦ λ other some. is.others j u some
      ] refl at;
    }

    keep : IsLeast b cs (least b cs) → b.tail ≤ c.tail → IsLeast b (c ∷ cs) (least b cs)
    keep is above = record {
      at = elim (b.chunk == (least b cs).chunk) as (λ t. (b.chunk == (least b cs).chunk) ≡ t → cond t (Some b.tail) (tail_of cs (least b cs).chunk) ≡ Some (least b cs).tail → cond t (Some b.tail) (tail_of (c ∷ cs) (least b cs).chunk) ≡ Some (least b cs).tail) [
        | true ↦ λ here some. some
        | false ↦ λ other some.
            let le = rising_at (c.chunk + 1) cs (least b cs).chunk (least b cs).tail rising.1 some in
            cond-false (c.chunk == (least b cs).chunk) (Some c.tail) (tail_of cs (least b cs).chunk) (ne_eqb c.chunk (least b cs).chunk (λ e. omega (arith, e, le))) ∙ some
      ] refl is.at;
      first = is.first;
      others = λ j u at. elim (c.chunk == j) as (λ t. (c.chunk == j) ≡ t → cond t (Some c.tail) (tail_of cs j) ≡ Some u → ((least b cs).tail < u) ⊎ (((least b cs).tail ≡ u) × ((least b cs).chunk ≤ j))) [
        | true ↦ λ here some. let e = eqb-true c.chunk j here in let f : c.tail ≡ u = cc some in
            ⊎_elim (λ lt. inl (omega (arith, lt, f, above)))
            (λ same. ⊎_elim (λ lt. inl (omega (arith, lt, f, same.0))) (λ ge. let g : b.tail ≡ c.tail = omega (arith, ge, above) in inr (same.0 ∙ g ∙ f, omega (arith, same.1, e, rising.0))) (cases_lt b.tail c.tail)) is.first
        | false ↦ λ other some. is.others j u some
      ] refl at;
    }

-- the first chunk of least tail is the emptiest, of a rising list
pub emptiest_is : (cs : List LogChunk) → IsRising 0 cs → IsEmptiest cs (emptiest cs)
emptiest_is [] rising = λ j. refl
emptiest_is (c ∷ cs) rising =
    let is = is_least c cs rising.1 in
    let same : least c (c ∷ cs) ≡ least c cs = cond-false (nat_lt c.tail c.tail) (least c cs) (least c cs) (grind (arith, nat_tests)) in
    subst (λ (r : LogChunk). IsEmptiest (c ∷ cs) (Some r.chunk)) (sym same) (
      (least c cs).tail,
      is.at,
      λ j u at. elim (c.chunk == j) as (λ t. (c.chunk == j) ≡ t → cond t (Some c.tail) (tail_of cs j) ≡ Some u → ((least c cs).tail < u) ⊎ (((least c cs).tail ≡ u) × ((least c cs).chunk ≤ j))) [
        | true ↦ λ here some. let e = eqb-true c.chunk j here in let f : c.tail ≡ u = cc some in
            ⊎_elim (λ lt. inl (omega (arith, lt, f))) (λ eq. inr (eq.0 ∙ f, omega (arith, eq.1, e))) is.first
        | false ↦ λ other some. is.others j u some
      ] refl at,
    )

pub emptiest_start : (cs : List LogChunk) (d : LogChunk) → 0 < length cs → Some (least (get_or cs 0 d) cs).chunk ≡ emptiest cs
emptiest_start [] d some = absurd (omega (arith, some))
emptiest_start (c ∷ cs) d some = refl
