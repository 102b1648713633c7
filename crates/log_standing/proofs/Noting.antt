-- The chunks of a log, and the names that were noted of its entries.
use Rattle.std.proofs.Common.{◌≡◌, ℕ, suc, ◌+◌, ◌<◌, ◌==◌, ◌&&◌, ◌||◌, Bool, true, false, cond, List, [], ◌∷◌, length, get_or, map, Some, is_some, refl, sym, ◌∙◌, ap, arith}
use Rattle.std.specs.List.{count_by}
use Rattle.std.proofs.lemmas.Bool.{cond-true, cond-false, and_parts, and_from, eqb-true, eq-eqb, ne_eqb}
use Rattle.std.proofs.lemmas.List.Folds.{list_any_at}
use Rattle.std.proofs.lemmas.List.Sums.{sum_by-cons}
use Rattle.core_log.specs.declared.types.LogChunk.{LogChunk}
use Rattle.core_log.specs.Log.{LogState, IsOwn, IsRising, tail_of}
use Rattle.log_standing.specs.declared.name_item.NameItem.{NameItem}
use Rattle.log_standing.specs.ChunkCounts.{stands_in, chunks_in}
use Rattle.log_standing.specs.NameItems.{is_item, is_note, has_note, chunks_noted, AreIn}
use Rattle.log_standing.specs.Notes.{was_noted, note_of, AreOfLog}
use Rattle.log_standing.proofs.Filled.{is_there}
use Rattle.log_standing.proofs.StandingLaws.{name_same}

abbrev one_if : Bool → ℕ
one_if b = cond b 1 0

-- a chunk of a log stands there once
above_none : (cs : List LogChunk) (from j : ℕ) → IsRising from cs → j < from → count_by (λ (c : LogChunk). c.chunk == j) cs ≡ 0
above_none [] from j rising lt = refl
above_none (c ∷ cs) from j rising lt =
    let e : count_by (λ (x : LogChunk). x.chunk == j) (c ∷ cs) ≡ one_if (c.chunk == j) + count_by (λ (x : LogChunk). x.chunk == j) cs = sum_by-cons (λ (x : LogChunk). cond (x.chunk == j) 1 0) c cs in
    let none : one_if (c.chunk == j) ≡ 0 = cond-false (c.chunk == j) 1 0 (ne_eqb c.chunk j (λ same. omega (arith, same, rising.0, lt))) in
    let rest = above_none cs (c.chunk + 1) j rising.1 (omega (arith, rising.0, lt)) in
    omega (arith, e, none, rest)

pub stands_once : (cs : List LogChunk) (from j : ℕ) → IsRising from cs → is_some (tail_of cs j) ≡ true → count_by (λ (c : LogChunk). c.chunk == j) cs ≡ 1
stands_once [] from j rising has = absurd (cc has)
stands_once (c ∷ cs) from j rising has =
    let e : count_by (λ (x : LogChunk). x.chunk == j) (c ∷ cs) ≡ one_if (c.chunk == j) + count_by (λ (x : LogChunk). x.chunk == j) cs = sum_by-cons (λ (x : LogChunk). cond (x.chunk == j) 1 0) c cs in
    elim (c.chunk == j) as (λ b. (c.chunk == j) ≡ b → is_some (cond b (Some c.tail) (tail_of cs j)) ≡ true → count_by (λ (x : LogChunk). x.chunk == j) (c ∷ cs) ≡ 1) [
      | true ↦ λ is _.
          let same = eqb-true c.chunk j is in
          let one : one_if (c.chunk == j) ≡ 1 = cond-true (c.chunk == j) 1 0 is in
          let rest = above_none cs (c.chunk + 1) j rising.1 (omega (arith, same)) in
          omega (arith, e, one, rest)
      | false ↦ λ isnt there.
          let none : one_if (c.chunk == j) ≡ 0 = cond-false (c.chunk == j) 1 0 isnt in
          let rest = stands_once cs (c.chunk + 1) j rising.1 there in
          omega (arith, e, none, rest)
    ] refl has

-- two tests that agree at each element count alike
pub count_alike : (p q : LogChunk → Bool) (cs : List LogChunk) → ((i : ℕ) (d : LogChunk) → i < length cs → p (get_or cs i d) ≡ q (get_or cs i d)) → count_by p cs ≡ count_by q cs
count_alike p q [] same = refl
count_alike p q (c ∷ cs) same =
    let a : count_by p (c ∷ cs) ≡ one_if (p c) + count_by p cs = sum_by-cons (λ (x : LogChunk). cond (p x) 1 0) c cs in
    let b : count_by q (c ∷ cs) ≡ one_if (q c) + count_by q cs = sum_by-cons (λ (x : LogChunk). cond (q x) 1 0) c cs in
    let here : one_if (p c) ≡ one_if (q c) = ap one_if (same 0 c (omega arith)) in
    let rest = count_alike p q cs (λ i d lt. same (suc i) d (omega (arith, lt))) in
    omega (arith, a, b, here, rest)

-- what was noted, by the items
pub was_item : (xs : List NameItem) (k v j : ℕ) → was_noted (map note_of xs) k v j ≡ has_note xs k v j
was_item [] k v j = refl
was_item (x ∷ xs) k v j = ap (λ (b : Bool). is_note k v j x || b) (was_item xs k v j)

-- the names that were noted are a log's
module _ (image : ℕ → ℕ) (log : LogState) (own : IsOwn log) (items : List NameItem) (are : AreOfLog image log (map note_of items)) where
  of : (k v j : ℕ) → has_note items k v j ≡ (is_some (tail_of log.chunks j) && stands_in image log j k v)
  of k v j = sym (was_item items k v j) ∙ are k v j

  own_note : (x : NameItem) → is_note x.key x.version x.chunk x ≡ true
  own_note x = and_from (is_item x.key x.version x) (x.chunk == x.chunk) (name_same x.key x.version) (eq-eqb x.chunk x.chunk refl)

  pub notes_once : AreIn log.chunks items
  notes_once i d lt =
      let x = get_or items i d in
      let noted : has_note items x.key x.version x.chunk ≡ true = list_any_at (is_note x.key x.version x.chunk) items i d lt (own_note x) in
      let parts = and_parts (is_some (tail_of log.chunks x.chunk)) (stands_in image log x.chunk x.key x.version) (sym (of x.key x.version x.chunk) ∙ noted) in
      stands_once log.chunks 0 x.chunk own.rising parts.0

  pub notes_counted : (k v : ℕ) → chunks_noted log.chunks items k v ≡ chunks_in image log k v
  notes_counted k v = count_alike (λ (c : LogChunk). has_note items k v c.chunk) (λ (c : LogChunk). stands_in image log c.chunk k v) log.chunks
      (λ i d lt. of k v (get_or log.chunks i d).chunk ∙ ap (λ (b : Bool). b && stands_in image log (get_or log.chunks i d).chunk k v) (is_there log.chunks i d lt))
