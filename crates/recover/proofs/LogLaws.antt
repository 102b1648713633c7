-- The Log chunks of a part, one after another.
use Rattle.std.proofs.Common.{◌≡◌, ⊎_elim, ℕ, ◌+◌, ◌<◌, ◌≤◌, ◌==◌, true, false, cond, List, [], ◌∷◌, ◌++◌, length, Option, Some, None, refl, sym, ◌∙◌, ap, subst, arith, append-nil}
use Rattle.std.specs.Prelude.{IfSome, slice_index_or}
use Rattle.std.specs.List.{AllByRecursion}
use Rattle.std.proofs.lemmas.List.{get_or_push}
use Rattle.std.proofs.Math.ListN.{get_or-append}
use Rattle.std.proofs.lemmas.Bool.{eq-eqb, ne_eqb, cases_eq}
use Rattle.chunk_map.specs.declared.layouts.Geometry.{Geometry}
use Rattle.core_log.specs.declared.types.LogChunk.{LogChunk}
use Rattle.core_log.specs.Log.{tail_of, chunk_with, IsChunkOf}
use Rattle.core_log.specs.Fresh.{HasEachOnce}
use Rattle.recover.specs.Logs.{with_log}
use Rattle.recover.proofs.ListLaws.{or_else, or_none}

-- the tail of a chunk in a list with one more at its end
tail_append : (cs : List LogChunk) (c : LogChunk) (j : ℕ) → tail_of (cs ++ c ∷ []) j ≡ or_else (tail_of cs j) (cond (c.chunk == j) (Some c.tail) None)
tail_append [] c j = refl
tail_append (d ∷ cs) c j = elim (d.chunk == j) as (λ b. cond b (Some d.tail) (tail_of (cs ++ c ∷ []) j) ≡ or_else (cond b (Some d.tail) (tail_of cs j)) (cond (c.chunk == j) (Some c.tail) None)) [
  | true ↦ refl
  | false ↦ tail_append cs c j
]

-- the list has no chunk from a number on
abbrev pub EndsBefore : ℕ → List LogChunk → Type 0
EndsBefore n cs = (j : ℕ) → n ≤ j → tail_of cs j ≡ None

not_later : (c : LogChunk) (n j : ℕ) → c.chunk ≡ n → n + 1 ≤ j → cond (c.chunk == j) (Some c.tail) None ≡ None
not_later c n j is le = rw (ne_eqb c.chunk j (λ e. omega (arith, is, le, e))) refl

pub ends_more : (n : ℕ) (cs : List LogChunk) (c : LogChunk) → EndsBefore n cs → c.chunk ≡ n → EndsBefore (n + 1) (cs ++ c ∷ [])
ends_more n cs c ends is j le = tail_append cs c j ∙ ap (λ o. or_else o (cond (c.chunk == j) (Some c.tail) None)) (ends j (omega (arith, le))) ∙ not_later c n j is le

pub ends_same : (n : ℕ) (cs : List LogChunk) → EndsBefore n cs → EndsBefore (n + 1) cs
ends_same n cs ends j le = ends j (omega (arith, le))

-- and then each chunk once
pub once_more : (n : ℕ) (cs : List LogChunk) (c : LogChunk) → HasEachOnce cs → EndsBefore n cs → c.chunk ≡ n → HasEachOnce (cs ++ c ∷ [])
once_more n [] c once ends is = (refl, tt)
once_more n (d ∷ cs) c once ends is = (here, once_more n cs c once.1 behind is) where
  apart : d.chunk ≡ n → ⊥
  apart e = cc (sym (ends n (omega arith)) ∙ ap (λ b. cond b (Some d.tail) (tail_of cs n)) (eq-eqb d.chunk n e))

  here : tail_of (cs ++ c ∷ []) d.chunk ≡ None
  here = tail_append cs c d.chunk ∙ ap (λ o. or_else o (cond (c.chunk == d.chunk) (Some c.tail) None)) once.0 ∙ ap (λ b. cond b (Some c.tail) None) (ne_eqb c.chunk d.chunk (λ e. apart (sym e ∙ is)))

  behind : EndsBefore n cs
  behind j le = elim (d.chunk == j) as (λ b. (d.chunk == j) ≡ b → cond b (Some d.tail) (tail_of cs j) ≡ None → tail_of cs j ≡ None) [
    | true ↦ λ e q. absurd (cc q)
    | false ↦ λ e q. q
  ] refl (ends j le)

pub all_more : (l : Geometry) (cs : List LogChunk) (c : LogChunk) → AllByRecursion (IsChunkOf l) cs → IsChunkOf l c → AllByRecursion (IsChunkOf l) (cs ++ c ∷ [])
all_more l [] c all is = (is, tt)
all_more l (d ∷ cs) c all is = (all.0, all_more l cs c all.1 is)

-- The list has exactly the Log chunks below a number, by the tails of all chunks.
module _ (tails : ℕ → Option ℕ) where
  abbrev pub HasBelow : ℕ → List LogChunk → Type 0
  HasBelow n cs = (j : ℕ) → j < n → tail_of cs j ≡ tails j

  below_log : (n tail : ℕ) (cs : List LogChunk) → HasBelow n cs → EndsBefore n cs → tails n ≡ Some tail → HasBelow (n + 1) (cs ++ chunk_with n tail ∷ [])
  below_log n tail cs has ends head j lt = tail_append cs (chunk_with n tail) j ∙ ⊎_elim
      (λ same. ap (λ o. or_else o (cond (n == j) (Some tail) None)) (ends j (omega (arith, same))) ∙ ap (λ b. cond b (Some tail) None) (eq-eqb n j (sym same)) ∙ sym (ap tails same ∙ head))
      (λ ne. ap (λ b. or_else (tail_of cs j) (cond b (Some tail) None)) (ne_eqb n j (λ e. ne (sym e))) ∙ or_none (tail_of cs j) ∙ has j (omega (arith, lt, ne)))
      (cases_eq j n)

  below_other : (n : ℕ) (cs : List LogChunk) → HasBelow n cs → EndsBefore n cs → tails n ≡ None → HasBelow (n + 1) cs
  below_other n cs has ends none j lt = ⊎_elim
      (λ same. ends j (omega (arith, same)) ∙ sym (ap tails same ∙ none))
      (λ ne. has j (omega (arith, lt, ne)))
      (cases_eq j n)

  pub has_more : (n : ℕ) (cs new : List LogChunk) (o : Option ℕ) → new ≡ cs ++ with_log n o → o ≡ tails n → EndsBefore n cs → HasBelow n cs → HasBelow (n + 1) new
  has_more n cs new None is there ends has = subst (HasBelow (n + 1)) (sym (is ∙ append-nil cs)) (below_other n cs has ends (sym there))
  has_more n cs new (Some tail) is there ends has = subst (HasBelow (n + 1)) (sym is) (below_log n tail cs has ends (sym there))

-- a list of Log chunks of the part, each once, none of them from a number on
pub record Collects (l : Geometry) (n : ℕ) (cs : List LogChunk) : Type 0 where
  pub each : AllByRecursion (IsChunkOf l) cs
  pub once : HasEachOnce cs
  pub ends : EndsBefore n cs

pub collects_none : (l : Geometry) → Collects l 0 []
collects_none l = record { each = tt; once = tt; ends = λ j le. refl }

pub collects_more : (l : Geometry) (n : ℕ) (cs new : List LogChunk) (o : Option ℕ) → new ≡ cs ++ with_log n o → IfSome o (λ tail. IsChunkOf l (chunk_with n tail)) → Collects l n cs → Collects l (n + 1) new
collects_more l n cs new None is fits so = subst (Collects l (n + 1)) (sym (is ∙ append-nil cs)) (record { each = so.each; once = so.once; ends = ends_same n cs so.ends })
collects_more l n cs new (Some tail) is fits so = subst (Collects l (n + 1)) (sym is) (record {
  each = all_more l cs (chunk_with n tail) so.each fits;
  once = once_more n cs (chunk_with n tail) so.once so.ends refl;
  ends = ends_more n cs (chunk_with n tail) so.ends refl;
})

-- what holds of each of a list by its index, and of one more
pub each_more : (X : Type 0) (P : ℕ → X → Type 0) (xs new : List X) (x : X) (n : ℕ) → length xs ≡ n → new ≡ xs ++ x ∷ [] → ((c : ℕ) (d : X) → c < n → P c (slice_index_or xs c d)) → P n x → (c : ℕ) (d : X) → c < n + 1 → P c (slice_index_or new c d)
each_more X P xs new x n long is each last c d lt = ⊎_elim
    (λ same. let at : slice_index_or new c d ≡ x = ap (λ l. slice_index_or l c d) is ∙ get_or_push xs x d c (long ∙ sym same) in
    subst (λ (y : X). P c y) (sym at) (subst (λ (m : ℕ). P m x) (sym same) last))
    (λ ne. let less : c < n = omega (arith, lt, ne) in let at : slice_index_or new c d ≡ slice_index_or xs c d = ap (λ l. slice_index_or l c d) is ∙ get_or-append xs (x ∷ []) d c (omega (arith, less, long)) in
    subst (λ (y : X). P c y) (sym at) (each c d less))
    (cases_eq c n)
