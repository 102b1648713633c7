-- A batch of entries is appended to the open chunk: in which chunks each name stands then.
use Rattle.std.proofs.Common.{◌≡◌, ◌≢◌, inl, inr, ⊎_elim, ℕ, ◌+◌, ◌<◌, ◌==◌, ◌||◌, nat_lt, Bool, true, false, cond, List, [], ◌∷◌, ◌++◌, length, Option, Some, is_some, unwrap_or, refl, sym, ◌∙◌, ap, arith}
use Rattle.std.specs.List.{count_by}
use Rattle.std.proofs.lemmas.Bool.{cond-false, eqb-true, ne_eqb, ltb-true}
use Rattle.std.proofs.lemmas.List.Sums.{sum_by-cons}
use Rattle.std.proofs.lemmas.List.Folds.{list_any-append}
use Rattle.pm_region.specs.State.{State, IsTelling, cell_now, During}
use Rattle.pm_region.specs.Words.{KeepsOutside, lasts}
use Rattle.pm_region.proofs.Clients.{may_be_last}
use Rattle.chunk_map.specs.Layouts.{chunk_words}
use Rattle.chunk_map.proofs.Clients.{chunks_apart}
use Rattle.log_entry.specs.declared.entry.Entry.{Entry}
use Rattle.log_entry.specs.Spelling.{words_of}
use Rattle.log_entry.specs.Batches.{IsBatch, batch_words, scan_of}
use Rattle.log_entry.proofs.Clients.{entries_from, scan-append}
use Rattle.core_log.specs.declared.types.LogChunk.{LogChunk}
use Rattle.core_log.specs.Chunk.{words_now}
use Rattle.core_log.specs.Entries.{AppendedBatch}
use Rattle.core_log.specs.Log.{LogState, IsOwn, Spelled, IsRising, tail_of, with_tail, without, tail_in, first_of, chunk_with, open_number, open_first, open_tail}
use Rattle.core_log.specs.Walking.{words_in, entries_in}
use Rattle.core_log.proofs.Clients.{open_has, own_chunk, tail_fits, is_tail, tail_set, tail_other, without_other, without_self}
use Rattle.log_standing.specs.NameCounts.{name_eq}
use Rattle.log_standing.specs.ChunkCounts.{is_named, has_name, chunks_with}
use Rattle.log_cleaner.specs.Additions.{is_among, Lacks}
use Rattle.log_cleaner.proofs.Parts.{entries_still, count_without, count_same}

-- a tail that moves changes no count
count_moved : (h : ℕ → Bool) (cs : List LogChunk) (from j n : ℕ) → IsRising from cs → is_some (tail_of cs j) ≡ true → count_by (λ (x : LogChunk). h x.chunk) (with_tail cs j n) ≡ count_by (λ (x : LogChunk). h x.chunk) cs
count_moved h [] from j n rising has = absurd (cc has)
count_moved h (c ∷ cs) from j n rising has = elim (nat_lt j c.chunk) as (λ b. nat_lt j c.chunk ≡ b → count_by (λ (x : LogChunk). h x.chunk) (cond b (chunk_with j n ∷ c ∷ cs) (cond (c.chunk == j) (chunk_with j n ∷ cs) (c ∷ with_tail cs j n))) ≡ count_by (λ (x : LogChunk). h x.chunk) (c ∷ cs)) [
  | true ↦ λ lt. let below = ltb-true j c.chunk lt in absurd (none_below (c ∷ cs) c.chunk j (omega arith, rising.1) below has)
  | false ↦ λ ge. elim (c.chunk == j) as (λ b. (c.chunk == j) ≡ b → count_by (λ (x : LogChunk). h x.chunk) (cond b (chunk_with j n ∷ cs) (c ∷ with_tail cs j n)) ≡ count_by (λ (x : LogChunk). h x.chunk) (c ∷ cs)) [
    | true ↦ λ here.
        let a = sum_by-cons (λ (x : LogChunk). cond (h x.chunk) 1 0) (chunk_with j n) cs in
        let b = sum_by-cons (λ (x : LogChunk). cond (h x.chunk) 1 0) c cs in
        let same = ap {B = ℕ} (λ (i : ℕ). cond (h i) 1 0) (eqb-true c.chunk j here) in
        omega (arith, a, b, same)
    | false ↦ λ other.
        let a = sum_by-cons (λ (x : LogChunk). cond (h x.chunk) 1 0) c (with_tail cs j n) in
        let b = sum_by-cons (λ (x : LogChunk). cond (h x.chunk) 1 0) c cs in
        let rest = count_moved h cs (c.chunk + 1) j n rising.1 (ap is_some (sym (cond-false (c.chunk == j) (Some c.tail) (tail_of cs j) other)) ∙ has) in
        omega (arith, a, b, rest)
  ] refl
] refl
  where
    none_below : (xs : List LogChunk) (f k : ℕ) → IsRising f xs → k < f → is_some (tail_of xs k) ≡ true → ⊥
    none_below [] f k is lt some = cc some
    none_below (x ∷ xs) f k is lt some = none_below xs (x.chunk + 1) k is.1 (omega (arith, lt, is.0)) (ap is_some (sym (cond-false (x.chunk == k) (Some x.tail) (tail_of xs k) (ne_eqb x.chunk k (λ e. omega (arith, e, lt, is.0))))) ∙ some)

names_from : (p : ℕ) (es : List Entry) (k v : ℕ) → has_name (entries_from p es) k v ≡ is_among es k v
names_from p [] k v = refl
names_from p (e ∷ es) k v = ap (λ (b : Bool). name_eq (e.key, e.version) (k, v) || b) (names_from (p + length (words_of e)) es k v)

or_sum : (p q : Bool) → (q ≡ true → p ≡ false) → cond {A = ℕ} (p || q) 1 0 ≡ cond p 1 0 + cond q 1 0
or_sum true true none = absurd (cc (none refl))
or_sum true false none = refl
or_sum false true none = refl
or_sum false false none = refl

module _ (s t : State) (log log' : LogState) (es : List Entry) (own : IsOwn log) (opened : is_some log.opened ≡ true) (spelled : Spelled (words_in s log (open_number log))) (batch : IsBatch es)
    (appended : AppendedBatch s t log log' (batch_words es)) (outside : During s t (KeepsOutside (cell_now s) (open_first log) (open_first log + chunk_words log.layout))) (telling : IsTelling t) where
  open_some : is_some (tail_of log.chunks (open_number log)) ≡ true
  open_some = ap is_some (open_has log own opened)

  chunks_are : log'.chunks ≡ with_tail log.chunks (open_number log) (open_tail log + length (batch_words es))
  chunks_are = ap (λ (l : LogState). l.chunks) appended.log_is

  same_layout : log'.layout ≡ log.layout
  same_layout = ap (λ (l : LogState). l.layout) appended.log_is

  same_part : log'.part ≡ log.part
  same_part = ap (λ (l : LogState). l.part) appended.log_is

  -- another chunk has the entries that it had
  pub else_has : (i : ℕ) → i ≢ open_number log → is_some (tail_of log.chunks i) ≡ true → entries_in t log' i ≡ entries_in s log i
  else_has i ne has =
      let fits = (tail_fits log.layout own.layout (chunk_with i (tail_in log i)) (own_chunk log own i (tail_in log i) (is_tail (tail_of log.chunks i) has))).0 in
      entries_still s t log log' i (open_first log) (open_first log + chunk_words log.layout) outside telling same_layout same_part
      (ap (λ (l : LogState). tail_of l.chunks i) appended.log_is ∙ tail_other log.chunks (open_number log) (open_tail log + length (batch_words es)) i ne)
      (λ w ge lt. ⊎_elim (λ a. inl (omega (arith, a, lt, fits))) (λ b. inr (omega (arith, b, ge))) (chunks_apart log.layout log.part i (open_number log) ne))

  -- the open chunk has the batch's words too
  open_words : words_in t log' (open_number log) ≡ words_in s log (open_number log) ++ batch_words es
  open_words =
      let tail : tail_in log' (open_number log) ≡ open_tail log + length (batch_words es) = ap (λ (cs : List LogChunk). unwrap_or (tail_of cs (open_number log)) 0) chunks_are ∙ ap (λ (o : Option ℕ). unwrap_or o 0) (tail_set log.chunks (open_number log) (open_tail log + length (batch_words es))) in
      let at : first_of log' (open_number log) ≡ open_first log = ap (λ (l : LogState). first_of l (open_number log)) appended.log_is in
      (λ i. words_now t (at i) (tail i)) ∙ (appended.has telling (lasts t) (λ w a b. may_be_last (cell_now t w) (lasts t w) refl)).2

  open_names : (k v : ℕ) → has_name (entries_in t log' (open_number log)) k v ≡ (has_name (entries_in s log (open_number log)) k v || is_among es k v)
  open_names k v =
      let old = words_in s log (open_number log) in
      let now = ap (λ (ws : List ℕ). (scan_of ws).entries) open_words ∙ ap (λ sc. sc.entries) (scan-append old spelled.batches es spelled.spelled batch) in
      ap (λ (xs : List (ℕ × Entry)). has_name xs k v) now
      ∙ list_any-append (is_named k v) (entries_in s log (open_number log)) (entries_from (length old) es)
      ∙ ap (λ (b : Bool). has_name (entries_in s log (open_number log)) k v || b) (names_from (length old) es k v)

  -- each name stands in one chunk more, where the open chunk lacked it
  pub chunks_more : Lacks (entries_in s log (open_number log)) es → (k v : ℕ) → chunks_with t log' k v ≡ chunks_with s log k v + cond (is_among es k v) 1 0
  chunks_more lacks k v =
      let g : ℕ → Bool = λ i. has_name (entries_in t log' i) k v in
      let h : ℕ → Bool = λ i. has_name (entries_in s log i) k v in
      let a : chunks_with t log' k v ≡ count_by (λ (x : LogChunk). g x.chunk) log.chunks =
      ap (λ (cs : List LogChunk). count_by (λ (x : LogChunk). has_name (entries_in t log' x.chunk) k v) cs) chunks_are ∙ count_moved g log.chunks 0 (open_number log) (open_tail log + length (batch_words es)) own.rising open_some in
      let b = count_without g log.chunks (open_number log) open_some in
      let d = count_without h log.chunks (open_number log) open_some in
      let e = count_same g h (without log.chunks (open_number log)) (λ i some_i.
      let ne : i ≢ open_number log = λ at. absurd (cc (sym (ap is_some (ap (tail_of (without log.chunks (open_number log))) at ∙ without_self log.chunks 0 (open_number log) own.rising)) ∙ some_i)) in
      ap (λ (es : List (ℕ × Entry)). has_name es k v) (else_has i ne (ap is_some (sym (without_other log.chunks (open_number log) i ne)) ∙ some_i))) in
      let names = ap {B = ℕ} (λ (q : Bool). cond q 1 0) (open_names k v) in
      let sum = or_sum (has_name (entries_in s log (open_number log)) k v) (is_among es k v) (lacks k v) in
      omega (arith, a, b, d, e, names, sum)
