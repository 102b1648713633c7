-- A chunk is opened between two turns of a cleaning.
use Rattle.std.proofs.Common.{◌≡◌, ◌≢◌, inl, inr, ⊎_elim, ℕ, ◌+◌, ◌==◌, nat_lt, Bool, true, false, cond, List, [], ◌∷◌, Option, Some, None, is_some, unwrap_or, refl, sym, ◌∙◌, ap, subst, arith}
use Rattle.std.specs.List.{count_by}
use Rattle.std.proofs.lemmas.Bool.{cond-false}
use Rattle.std.proofs.lemmas.List.Sums.{sum_by-cons}
use Rattle.pm_region.specs.State.{State, IsTelling}
use Rattle.chunk_map.proofs.Clients.{numbers_of, chunk_words_whole, chunks_apart}
use Rattle.log_entry.specs.declared.entry.Entry.{Entry}
use Rattle.log_entry.specs.Batches.{scan_of}
use Rattle.core_log.specs.declared.types.LogChunk.{LogChunk}
use Rattle.core_log.specs.Chunk.{words_now}
use Rattle.core_log.specs.Log.{LogState, tail_of, with_tail, tail_in, first_of, chunk_with}
use Rattle.core_log.specs.Walking.{IsBetween, words_in, entries_in, behind}
use Rattle.core_log.proofs.Clients.{own_chunk, tail_fits, is_tail, tail_set, tail_other}
use Rattle.log_standing.specs.NameCounts.{StandingState}
use Rattle.log_standing.specs.ChunkCounts.{has_name, IsStandingOf}
use Rattle.log_cleaner.specs.Copying.{left_to_copy, IsSettledIn, IsUpToDate}
use Rattle.log_cleaner.specs.Additions.{with_open, OpensNew}
use Rattle.log_cleaner.proofs.Parts.{entries_still, count_same}

-- a chunk more
pub count_new : (h : ℕ → Bool) (cs : List LogChunk) (j n : ℕ) → tail_of cs j ≡ None → count_by (λ (x : LogChunk). h x.chunk) (with_tail cs j n) ≡ count_by (λ (x : LogChunk). h x.chunk) cs + cond (h j) 1 0
count_new h [] j n none = let a = sum_by-cons (λ (x : LogChunk). cond (h x.chunk) 1 0) (chunk_with j n) [] in omega (arith, a)
count_new h (c ∷ cs) j n none = elim (nat_lt j c.chunk) as (λ b. count_by (λ (x : LogChunk). h x.chunk) (cond b (chunk_with j n ∷ c ∷ cs) (cond (c.chunk == j) (chunk_with j n ∷ cs) (c ∷ with_tail cs j n))) ≡ count_by (λ (x : LogChunk). h x.chunk) (c ∷ cs) + cond (h j) 1 0) [
  | true ↦ let a = sum_by-cons (λ (x : LogChunk). cond (h x.chunk) 1 0) (chunk_with j n) (c ∷ cs) in omega (arith, a)
  | false ↦ elim (c.chunk == j) as (λ b. (c.chunk == j) ≡ b → count_by (λ (x : LogChunk). h x.chunk) (cond b (chunk_with j n ∷ cs) (c ∷ with_tail cs j n)) ≡ count_by (λ (x : LogChunk). h x.chunk) (c ∷ cs) + cond (h j) 1 0) [
    | true ↦ λ here. absurd (cc (sym (ap (λ (b : Bool). cond b (Some c.tail) (tail_of cs j)) here) ∙ none))
    | false ↦ λ other.
        let a = sum_by-cons (λ (x : LogChunk). cond (h x.chunk) 1 0) c (with_tail cs j n) in
        let b = sum_by-cons (λ (x : LogChunk). cond (h x.chunk) 1 0) c cs in
        let rest = count_new h cs j n (sym (cond-false (c.chunk == j) (Some c.tail) (tail_of cs j) other) ∙ none) in
        omega (arith, a, b, rest)
  ] refl
]

module _ (s t : State) (log : LogState) (st : StandingState) (j : ℕ) (opens : OpensNew s t log st j) (telling : IsTelling t) where
  -- the chunk is empty, and each other one has the entries that it had
  pub open_empty : words_in t (with_open log j) j ≡ []
  open_empty = ap (λ (o : Option ℕ). words_now t (first_of log j) (unwrap_or o 0)) (tail_set log.chunks j 0)

  not_new : (i : ℕ) → is_some (tail_of log.chunks i) ≡ true → i ≢ j
  not_new i has at = absurd (cc (sym (ap is_some (ap (tail_of log.chunks) at ∙ opens.new)) ∙ has))

  pub open_else : (i : ℕ) → is_some (tail_of log.chunks i) ≡ true → entries_in t (with_open log j) i ≡ entries_in s log i
  open_else i has =
      let ne = not_new i has in
      let fits = (tail_fits log.layout opens.own.layout (chunk_with i (tail_in log i)) (own_chunk log opens.own i (tail_in log i) (is_tail (tail_of log.chunks i) has))).0 in
      let size = chunk_words_whole log.layout (numbers_of log.layout opens.own.layout).size in
      let big = size.2 in
      entries_still s t log (with_open log j) i (first_of log j) (first_of log j + 8) opens.outside telling refl refl (tail_other log.chunks j 0 i ne)
      (λ w ge lt. ⊎_elim (λ a. inl (omega (arith, a, lt, fits))) (λ b. inr (omega (arith, b, ge, big))) (chunks_apart log.layout log.part i j ne))

  pub open_up : IsUpToDate s log st → IsUpToDate t (with_open log j) st
  open_up up = record { counts = counts; settled = settled }
    where
      counts : IsStandingOf t (with_open log j) st
      counts k v =
          let g : ℕ → Bool = λ i. has_name (entries_in t (with_open log j) i) k v in
          let a = count_new g log.chunks j 0 opens.new in
          let b = count_same g (λ (i : ℕ). has_name (entries_in s log i) k v) log.chunks (λ i has. ap (λ (xs : List (ℕ × Entry)). has_name xs k v) (open_else i has)) in
          let none = ap {B = ℕ} (λ (xs : List ℕ). cond (has_name (scan_of xs).entries k v) 1 0) open_empty in
          let n = up.counts k v in
          omega (arith, a, b, none, n)

      settled : IsSettledIn t (with_open log j) st
      settled h at =
          let was = up.settled h at in
          let there = open_else h.chunk (opens.settled h at) in
          record {
            between = subst (λ (ys : List (ℕ × Entry)). IsBetween h.place ys) (sym there) was.between;
            none = subst (λ (ys : List (ℕ × Entry)). left_to_copy st ys ≡ left_to_copy st (behind h.place ys)) (sym there) was.none;
          }
