-- Once a batch is certain, its names are counted in the log.
use Rattle.std.proofs.Common.{◌≡◌, ◌≢◌, ◌⊎◌, inl, inr, ⊎_elim, ℕ, zero, suc, ◌+◌, ◌<◌, ◌||◌, Bool, true, false, cond, List, [], ◌∷◌, Option, Some, None, is_some, unwrap_or, refl, sym, ◌∙◌, ap, subst, arith}
use Rattle.std.specs.List.{flat_map, AllByRecursion}
use Rattle.std.proofs.lemmas.Bool.{or_cases}
use Rattle.pm_region.specs.State.{State, IsTelling, During, cell_now}
use Rattle.pm_region.specs.Words.{KeepsOutside}
use Rattle.chunk_map.specs.Layouts.{chunk_words}
use Rattle.log_entry.specs.declared.entry.Entry.{Entry}
use Rattle.log_entry.specs.Spelling.{words_of}
use Rattle.log_entry.specs.Batches.{IsBatch, scan_of}
use Rattle.store_image.specs.Facts.{In}
use Rattle.core_log.specs.Chunk.{padded, words_now}
use Rattle.core_log.specs.Entries.{AppendedBatch}
use Rattle.core_log.specs.Log.{LogState, IsOwn, StandsIn, Spelled, tail_of, tail_in, first_of, open_number, open_first}
use Rattle.core_log.specs.Walking.{words_in, entries_in}
use Rattle.core_log.proofs.Clients.{own_open, tail_set, tail_other, open_has, is_tail}
use Rattle.log_standing.specs.NameCounts.{StandingState, name_eq, count_of}
use Rattle.log_standing.specs.ChunkCounts.{has_name, chunks_with, IsStandingOf}
use Rattle.log_standing.proofs.Clients.{same_name}
use Rattle.log_cleaner.specs.Additions.{is_among, Lacks}
use Rattle.log_cleaner.proofs.AppendLaws.{chunks_more, else_has}
use Rattle.log_cleaner.proofs.Added.{new_lacks}
use Rattle.log_cleaner.proofs.Opened.{count_new}
use Rattle.log_cleaner.proofs.Parts.{count_same}
use Rattle.group_board.specs.Assurances.{LacksName}
use Rattle.batch_leader.specs.Leading.{AreNamedApart}
use Rattle.batch_leader.specs.Persisting.{opened_for}
use Rattle.core_worker.specs.StandingTies.{IsNamedIn, named_in, AddsNames}
use Rattle.core_worker.specs.Counted.{MayOpen}
use Rattle.core_worker.proofs.NamesAdded.{one_if, named_more}

-- an entry of a list has the name
among_in : (es : List Entry) (k n : ℕ) → is_among es k n ≡ true → (f : Entry) × In f es × (f.key ≡ k) × (f.version ≡ n)
among_in [] k n e = absurd (cc e)
among_in (x ∷ xs) k n e = ⊎_elim
    (λ here. let same = same_name x.key x.version k n here in (x, inl refl, same.0, same.1))
    (λ more. let rest = among_in xs k n more in (rest.0, inr rest.1, rest.2, rest.3))
    (or_cases (name_eq (x.key, x.version) (k, n)) (is_among xs k n) e)

-- each name is there once
pub once : (es : List Entry) → AreNamedApart es → (k n : ℕ) → named_in es k n ≡ one_if (is_among es k n)
once [] apart k n = refl
once (x ∷ xs) apart k n = by (name_eq (x.key, x.version) (k, n)) refl (is_among xs k n) refl (once xs apart.1 k n) where
  by : (b : Bool) → name_eq (x.key, x.version) (k, n) ≡ b → (c : Bool) → is_among xs k n ≡ c → named_in xs k n ≡ one_if (is_among xs k n) → named_in (x ∷ xs) k n ≡ one_if (is_among (x ∷ xs) k n)
  by true e true f rest = absurd (let y = among_in xs k n f in let same = same_name x.key x.version k n e in apart.0 y.0 y.1 (y.2 ∙ sym same.0) (y.3 ∙ sym same.1))
  by true e false f rest =
      let more = named_more x xs k n in
      let one = ap one_if e in
      let none = ap one_if f in
      let all = ap (λ (b : Bool). one_if (b || is_among xs k n)) e in
      omega (arith, more, one, none, rest, all)
  by false e c f rest =
      let more = named_more x xs k n in
      let one = ap one_if e in
      let all = ap (λ (b : Bool). one_if (b || is_among xs k n)) e in
      omega (arith, more, one, rest, all)

none_kept : (kept es : List Entry) (f : Entry) → AllByRecursion (LacksName kept) es → In f es → LacksName kept f
none_kept kept [] f each i = absurd i
none_kept kept (x ∷ xs) f each (inl e) = subst (LacksName kept) (sym e) each.0
none_kept kept (x ∷ xs) f each (inr i) = none_kept kept xs f each.1 i

zero_or : (a : ℕ) → (0 < a) ⊎ (a ≡ 0)
zero_or zero = inr refl
zero_or (suc a) = inl (omega arith)

module _ (s t : State) (log log' : LogState) (o : Option ℕ) (es kept : List Entry) (old new : StandingState) (stands : StandsIn s log) (may : MayOpen log o) (batch : IsBatch es) (appended : AppendedBatch s t (opened_for log o) log' (padded (flat_map words_of es)))
    (outside : During s t (KeepsOutside (cell_now s) (open_first (opened_for log o)) (open_first (opened_for log o) + chunk_words log.layout))) (standing : IsStandingOf s log old) (named : (k n : ℕ) → 0 < count_of old k n → IsNamedIn kept k n)
    (each : AllByRecursion (LacksName kept) es) (apart : AreNamedApart es) (adds : AddsNames old new es) (telling_s : IsTelling s) (telling : IsTelling t) where
  -- none of the names stood
  pub fresh : (k n : ℕ) → is_among es k n ≡ true → count_of old k n ≡ 0
  fresh k n is = ⊎_elim
      (λ some. absurd (let y = among_in es k n is in let x = named k n some in none_kept kept es y.0 each y.1 x.0 x.1 (x.2 ∙ sym y.2) (x.3 ∙ sym y.3)))
      (λ z. z)
      (zero_or (count_of old k n))

  abbrev log1 : LogState
  log1 = opened_for log o

  counted_with : IsOwn log1 → is_some log1.opened ≡ true → Spelled (words_in s log1 (open_number log1)) → Lacks (entries_in s log1 (open_number log1)) es → ((k n : ℕ) → chunks_with s log1 k n ≡ chunks_with s log k n)
      → log1.layout ≡ log.layout → IsStandingOf t log' new
  counted_with own opened spelled lacks same layout k n =
      let out = subst (λ (l : _). During s t (KeepsOutside (cell_now s) (open_first log1) (open_first log1 + chunk_words l))) (sym layout) outside in
      let more = chunks_more s t log1 log' es own opened spelled batch appended out telling lacks k n in
      let a = adds.counts k n in
      let b = once es apart k n in
      let was = standing k n in
      let st = same k n in
      let bits : one_if (is_among es k n) ≡ cond {A = ℕ} (is_among es k n) 1 0 = by (is_among es k n) in
      omega (arith, more, a, b, was, st, bits)
    where
      by : (b : Bool) → one_if b ≡ cond {A = ℕ} b 1 0
      by true = refl
      by false = refl

-- into the open chunk, or a fresh one
pub counted : (s t : State) (log log' : LogState) (o : Option ℕ) (es kept : List Entry) (old new : StandingState) → StandsIn s log → MayOpen log o → IsBatch es → AppendedBatch s t (opened_for log o) log' (padded (flat_map words_of es))
    → During s t (KeepsOutside (cell_now s) (open_first (opened_for log o)) (open_first (opened_for log o) + chunk_words log.layout)) → IsStandingOf s log old → ((k n : ℕ) → 0 < count_of old k n → IsNamedIn kept k n)
    → AllByRecursion (LacksName kept) es → AreNamedApart es → AddsNames old new es → IsTelling s → IsTelling t → IsStandingOf t log' new
counted s t log log' None es kept old new stands may batch appended outside standing named each apart adds telling_s telling =
    counted_with s t log log' None es kept old new stands may batch appended outside standing named each apart adds telling_s telling stands.own may
    (stands.spelled telling_s (open_number log) (tail_in log (open_number log)) (has ∙ ap (λ (x : ℕ). Some x) (sym (ap (λ (y : Option ℕ). unwrap_or y 0) has))))
    (new_lacks s log old es standing (fresh s t log log' None es kept old new stands may batch appended outside standing named each apart adds telling_s telling) (open_number log) (ap is_some has))
    (λ k n. refl) refl
  where
    has : tail_of log.chunks (open_number log) ≡ Some (unwrap_or (tail_of log.chunks (open_number log)) 0)
    has = open_has log stands.own may
counted s t log log' (Some j) es kept old new stands may batch appended outside standing named each apart adds telling_s telling =
    counted_with s t log log' (Some j) es kept old new stands may batch appended outside standing named each apart adds telling_s telling (own_open log j stands.own may.0) refl
    (subst Spelled (sym empty) (record { batches = []; spelled = record { words = refl; each = tt } }))
    (λ k n is. ap (λ (ws : List ℕ). has_name (scan_of ws).entries k n) empty)
    same refl
  where
    empty : words_in s (opened_for log (Some j)) j ≡ []
    empty = ap (λ (y : Option ℕ). words_now s (first_of log j) (unwrap_or y 0)) (tail_set log.chunks j 0)

    not_new : (i : ℕ) → is_some (tail_of log.chunks i) ≡ true → i ≢ j
    not_new i has at = absurd (cc (sym (ap is_some (ap (tail_of log.chunks) at ∙ may.1)) ∙ has))

    same : (k n : ℕ) → chunks_with s (opened_for log (Some j)) k n ≡ chunks_with s log k n
    same k n =
        let g : ℕ → Bool = λ i. has_name (entries_in s (opened_for log (Some j)) i) k n in
        let a = count_new g log.chunks j 0 may.1 in
        let b = count_same g (λ (i : ℕ). has_name (entries_in s log i) k n) log.chunks (λ i has. ap (λ (y : Option ℕ). has_name (scan_of (words_now s (first_of log i) (unwrap_or y 0))).entries k n) (tail_other log.chunks j 0 i (not_new i has))) in
        let none = ap {B = ℕ} (λ (xs : List ℕ). cond (has_name (scan_of xs).entries k n) 1 0) empty in
        omega (arith, a, b, none)

-- a closed chunk of the log is another one than the open one that the batch goes into
pub other_open : (log : LogState) (o : Option ℕ) → MayOpen log o → (i : ℕ) → is_some (tail_of log.chunks i) ≡ true → log.opened ≢ Some i → i ≢ open_number (opened_for log o)
other_open log None may i has closed same = closed (is_tail log.opened may ∙ ap (λ (n : ℕ). Some n) (sym same))
other_open log (Some j) may i has closed same = absurd (let both : true ≡ false = sym has ∙ ap is_some (ap (tail_of log.chunks) same ∙ may.1) in cc both)

pub still_has : (log : LogState) (o : Option ℕ) (i : ℕ) → i ≢ open_number (opened_for log o) → is_some (tail_of log.chunks i) ≡ true → is_some (tail_of (opened_for log o).chunks i) ≡ true
still_has log None i ne has = has
still_has log (Some j) i ne has = ap is_some (tail_other log.chunks j 0 i ne) ∙ has

pub still_closed : (log : LogState) (o : Option ℕ) (i : ℕ) → i ≢ open_number (opened_for log o) → log.opened ≢ Some i → (opened_for log o).opened ≢ Some i
still_closed log None i ne closed same = closed same
still_closed log (Some j) i ne closed same = ne (sym (ap (λ (x : Option ℕ). unwrap_or x 0) same))

-- and has the entries that it had
pub else_same : (s t : State) (log log' : LogState) (o : Option ℕ) (es : List Entry) → StandsIn s log → MayOpen log o → IsBatch es → AppendedBatch s t (opened_for log o) log' (padded (flat_map words_of es))
    → During s t (KeepsOutside (cell_now s) (open_first (opened_for log o)) (open_first (opened_for log o) + chunk_words log.layout)) → IsTelling s → IsTelling t
    → (i : ℕ) → is_some (tail_of log.chunks i) ≡ true → log.opened ≢ Some i → entries_in t log' i ≡ entries_in s log i
else_same s t log log' None es stands may batch appended outside telling_s telling i has closed =
    else_has s t log log' es stands.own may (stands.spelled telling_s (open_number log) (tail_in log (open_number log)) (is_tail (tail_of log.chunks (open_number log)) (ap is_some (open_has log stands.own may))))
    batch appended outside telling i (other_open log None may i has closed) has
else_same s t log log' (Some j) es stands may batch appended outside telling_s telling i has closed =
    let ne = other_open log (Some j) may i has closed in
    let empty : words_in s (opened_for log (Some j)) j ≡ [] = ap (λ (y : Option ℕ). words_now s (first_of log j) (unwrap_or y 0)) (tail_set log.chunks j 0) in
    else_has s t (opened_for log (Some j)) log' es (own_open log j stands.own may.0) refl (subst Spelled (sym empty) (record { batches = []; spelled = record { words = refl; each = tt } }))
    batch appended outside telling i ne (still_has log (Some j) i ne has)
    ∙ ap (λ (y : Option ℕ). (scan_of (words_now s (first_of log i) (unwrap_or y 0))).entries) (tail_other log.chunks j 0 i ne)
