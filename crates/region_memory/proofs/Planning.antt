-- The fences of a piece that are to fail.
use Rattle.std.proofs.Common.{◌≡◌, ◌≢◌, ⊎_elim, ℕ, ◌+◌, ◌<◌, ◌==◌, List, [], ◌∷◌, ◌++◌, length, get_or, take, refl, sym, ◌∙◌, ap, arith}
use Rattle.std.proofs.lemmas.Bool.{cases_eq, cond-true, cond-false}
use Rattle.std.proofs.lemmas.Bool.Decides.{nat_tests}
use Rattle.std.proofs.lemmas.List.{append-nil, take_more}
use Rattle.region_memory.specs.Plans.{FaultCounts, Plan, numbers_in, piece_calls}
use Rattle.region_memory.specs.MemoryRegions.{ArePlanned, piece_plan}
use Rattle.region_memory.specs.declared.plan.FenceNumber.{FenceNumber}
use Rattle.region_memory.specs.declared.memory_piece.MemoryPiece.{MemoryPiece}
use Rattle.region_memory.proofs.Taking.{each_more, count_more}

with_one : (piece : ℕ) (f : FenceNumber) (fs : List FenceNumber) → f.piece ≡ piece → numbers_in piece (f ∷ fs) ≡ f.number ∷ numbers_in piece fs
with_one piece f fs is = cond-true (f.piece == piece) (f.number ∷ numbers_in piece fs) (numbers_in piece fs) (grind (arith, nat_tests))

without_one : (piece : ℕ) (f : FenceNumber) (fs : List FenceNumber) → f.piece ≢ piece → numbers_in piece (f ∷ fs) ≡ numbers_in piece fs
without_one piece f fs isnt = cond-false (f.piece == piece) (f.number ∷ numbers_in piece fs) (numbers_in piece fs) (grind (arith, nat_tests))

numbers_append : (piece : ℕ) (xs ys : List FenceNumber) → numbers_in piece (xs ++ ys) ≡ numbers_in piece xs ++ numbers_in piece ys
numbers_append piece [] ys = refl
numbers_append piece (x ∷ xs) ys = ⊎_elim
    (λ is. with_one piece x (xs ++ ys) is ∙ ap (λ (l : List ℕ). x.number ∷ l) (numbers_append piece xs ys) ∙ sym (ap (λ (l : List ℕ). l ++ numbers_in piece ys) (with_one piece x xs is)))
    (λ isnt. without_one piece x (xs ++ ys) isnt ∙ numbers_append piece xs ys ∙ sym (ap (λ (l : List ℕ). l ++ numbers_in piece ys) (without_one piece x xs isnt)))
    (cases_eq x.piece piece)

more : (piece : ℕ) (fences : List FenceNumber) (i : ℕ) (d : FenceNumber) → i < length fences → numbers_in piece (take (i + 1) fences) ≡ numbers_in piece (take i fences) ++ numbers_in piece (get_or fences i d ∷ [])
more piece fences i d lt = ap (λ (l : List FenceNumber). numbers_in piece l) (take_more fences i d lt) ∙ numbers_append piece (take i fences) (get_or fences i d ∷ [])

pub numbers_with : (piece : ℕ) (fences : List FenceNumber) (i : ℕ) (d : FenceNumber) → i < length fences → (get_or fences i d).piece ≡ piece
    → numbers_in piece (take (i + 1) fences) ≡ numbers_in piece (take i fences) ++ (get_or fences i d).number ∷ []
numbers_with piece fences i d lt is = more piece fences i d lt ∙ ap (λ (l : List ℕ). numbers_in piece (take i fences) ++ l) (with_one piece (get_or fences i d) [] is)

pub numbers_without : (piece : ℕ) (fences : List FenceNumber) (i : ℕ) (d : FenceNumber) → i < length fences → (get_or fences i d).piece ≢ piece
    → numbers_in piece (take (i + 1) fences) ≡ numbers_in piece (take i fences)
numbers_without piece fences i d lt isnt =
    more piece fences i d lt ∙ ap (λ (l : List ℕ). numbers_in piece (take i fences) ++ l) (without_one piece (get_or fences i d) [] isnt) ∙ append-nil (numbers_in piece (take i fences))

pub planned_more : {P : Type 0} (counts : P → FaultCounts) (plan : P → Plan) (whole : P) (pieces pieces' : List (MemoryPiece P)) (i : ℕ) (q : MemoryPiece P) → ArePlanned counts plan whole pieces i
    → (counts q.counts).faults ≡ (counts whole).faults → piece_plan plan q ≡ piece_calls (plan whole) i → pieces' ≡ pieces ++ q ∷ [] → ArePlanned counts plan whole pieces' (i + 1)
planned_more {P = P} counts plan whole pieces pieces' i q are faults calls is = record {
  count = count_more pieces pieces' i q are.count is;
  faults = each_more (λ (j : ℕ) (s : MemoryPiece P). (counts s.counts).faults ≡ (counts whole).faults) pieces pieces' i q are.count is are.faults faults;
  plans = each_more (λ (j : ℕ) (s : MemoryPiece P). piece_plan plan s ≡ piece_calls (plan whole) j) pieces pieces' i q are.count is are.plans calls;
}
