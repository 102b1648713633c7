-- A batch of copies is appended to the open chunk.
use Rattle.std.proofs.Common.{◌≡◌, ◌≢◌, inl, inr, ⊎_elim, ℕ, zero, suc, ◌+◌, ◌≤◌, ◌<◌, ◌||◌, not, Bool, true, false, cond, List, [], ◌∷◌, ◌++◌, length, map, take, Option, Some, None, is_some, refl, sym, ◌∙◌, ap, subst, arith}
use Rattle.std.specs.List.{filter}
use Rattle.std.proofs.lemmas.Bool.{eqb-true, and_parts, cases_eq}
use Rattle.std.proofs.lemmas.List.{map-append}
use Rattle.pm_region.specs.Cell.{Cell}
use Rattle.pm_region.specs.State.{State, IsTelling, cell_now, During}
use Rattle.pm_region.specs.Words.{KeepsOutside, MayLeaveIn, lasts, lines_for}
use Rattle.pm_region.proofs.Clients.{weaken, both, told_at_entry, started}
use Rattle.chunk_map.specs.Layouts.{chunk_words, part_first}
use Rattle.chunk_map.proofs.Clients.{chunk_in_part}
use Rattle.log_entry.specs.declared.entry.Entry.{Entry}
use Rattle.log_entry.specs.Spelling.{words_of}
use Rattle.log_entry.specs.Batches.{IsBatch, batch_words}
use Rattle.store_image.specs.declared.types.PlacedEntry.{PlacedEntry}
use Rattle.store_image.specs.Parts.{chunk_entries, placed_in_chunk, chunk_reads}
use Rattle.log_entry.proofs.Clients.{spells-append}
use Rattle.core_log.proofs.Clients.{length-padded, tail_other, without_other, open_has, opened_is, open_spelled, open_chunk_of, moved_chunk_of, entries_or_lacks}
use Rattle.store_image.specs.Facts.{In}
use Rattle.store_image.proofs.Clients.{in_front, in_either}
use Rattle.core_log.specs.Chunk.{padded, words_now, HasOrLacks}
use Rattle.core_log.specs.Log.{LogState, StandsIn, Spelled, tail_of, with_tail, without, first_of, open_number, open_first, open_tail, room_of, EachInOpen}
use Rattle.core_log.specs.Entries.{with_places, open_entries, added_entries, HasEntries, HasEntriesOrLacks, AppendedBatch}
use Rattle.core_log.specs.Walking.{entries_in}
use Rattle.log_standing.specs.declared.types.Copies.{Copies}
use Rattle.log_standing.specs.NameCounts.{StandingState, copies_at, count_in, count_of, one_more}
use Rattle.log_standing.specs.ChunkCounts.{is_named, has_name, chunks_with, IsStandingOf}
use Rattle.log_cleaner.specs.Copying.{awaits, left_to_copy}
use Rattle.log_cleaner.specs.CopyBatch.{firsts, next_batch, entries_of, Collected, batch_in, SameElse}
use Rattle.log_cleaner.specs.ImagesBeside.{Stands, EachInPart, HasSame}
use Rattle.log_cleaner.specs.Additions.{is_among, Lacks}
use Rattle.log_cleaner.proofs.AppendLaws.{else_has, chunks_more}
use Rattle.log_cleaner.proofs.Parts.{StandsAt, part_has, part_in, Among, placed_in, placed_has, name_in, in_named, count_has, count_without, chunk_of, chunk_lasts, was, was_may, was_outside, reads_kept, blocks_kept, log_well, same_else, was_chunk}

-- nothing was written
pub same_parts : (s : State) (log : LogState) (j : ℕ) → During s s (EachInPart log (HasSame s log j))
same_parts s log j = started s (EachInPart log (HasSame s log j)) (λ telling image may. record {
  before = image;
  beside = record { may = may; outside = λ w out. refl; reads = λ well. well; blocks = λ q b is. is; only = λ e is. is };
  has = λ e is. is;
})

pub same_log : (log log' : LogState) (n : ℕ) → log' ≡ record log { chunks = with_tail log.chunks (open_number log) n } → SameElse log log' (open_number log)
same_log log log' n is = record {
  layout = ap (λ (l : LogState). l.layout) is;
  part = ap (λ (l : LogState). l.part) is;
  opened = ap (λ (l : LogState). l.opened) is;
  tails = λ i ne. ap (λ (l : LogState). tail_of l.chunks i) is ∙ tail_other log.chunks (open_number log) n i ne;
}

-- the batch's entries are the chunk's, and each awaited its copy
in_filter : {X : Type 0} (p : X → Bool) (xs : List X) (x : X) → In x (filter p xs) → In x xs × (p x ≡ true)
in_filter p [] x is = absurd is
in_filter p (y ∷ ys) x is = elim (p y) as (λ b. p y ≡ b → In x (cond b (y ∷ filter p ys) (filter p ys)) → In x (y ∷ ys) × (p x ≡ true)) [
  | true ↦ λ e at. ⊎_elim (λ here. (inl here, ap p here ∙ e)) (λ later. let r = in_filter p ys x later in (inr r.0, r.1)) at
  | false ↦ λ e at. let r = in_filter p ys x at in (inr r.0, r.1)
] refl is

in_firsts : (xs : List (ℕ × Entry)) (x : ℕ × Entry) → In x (firsts xs) → In x xs
in_firsts [] x is = is
in_firsts (y ∷ ys) x is = ⊎_elim (λ here. inl here) (λ later. inr (in_firsts ys x (in_filter (λ (z : ℕ × Entry). not (is_named y.1.key y.1.version z)) (firsts ys) x later).0)) is

in_take : {X : Type 0} (n : ℕ) (xs : List X) (x : X) → In x (take n xs) → In x xs
in_take zero xs x is = absurd is
in_take (suc n) [] x is = is
in_take (suc n) (y ∷ ys) x is = ⊎_elim (λ here. inl here) (λ later. inr (in_take n ys x later)) is

pub in_batch : (st : StandingState) (es : List (ℕ × Entry)) (x : ℕ × Entry) → In x (next_batch st es) → In x es × (awaits st x ≡ true)
in_batch st es x is = in_filter (awaits st) es x (in_firsts (left_to_copy st es) x (in_take 64 (firsts (left_to_copy st es)) x is))

pub in_entries : (xs : List (ℕ × Entry)) (e : Entry) → In e (entries_of xs) → Among xs e
in_entries [] e is = absurd is
in_entries (x ∷ xs) e is = ⊎_elim (λ here. record { found = x; here = inl refl; is = here }) (λ later. let a = in_entries xs e later in record { found = a.found; here = inr a.here; is = a.is }) is

in_places : (p : ℕ) (es : List Entry) (x : ℕ × Entry) → In x (with_places p es) → In x.1 es
in_places p [] x is = absurd is
in_places p (e ∷ es) x is = ⊎_elim (λ here. inl (ap (λ (y : ℕ × Entry). y.1) here)) (λ later. inr (in_places (p + length (words_of e)) es x later)) is

pub long_entries : (xs : List (ℕ × Entry)) → length (entries_of xs) ≡ length xs
long_entries [] = refl
long_entries (x ∷ xs) = ap (λ (n : ℕ). suc n) (long_entries xs)

names_of : (xs : List (ℕ × Entry)) (k v : ℕ) → is_among (entries_of xs) k v ≡ has_name xs k v
names_of [] k v = refl
names_of (x ∷ xs) k v = ap (λ (b : Bool). is_named k v x || b) (names_of xs k v)

count_adds : (o p : Option Copies) (b : Bool) → p ≡ cond b (Some (one_more o)) o → count_in p ≡ count_in o + cond b 1 0
count_adds None p true is = ap count_in is
count_adds (Some c) p true is = ap count_in is
count_adds o p false is = let e = ap count_in is in omega (arith, e)

module _ (s : State) (log : LogState) (st st' : StandingState) (j taken : ℕ) (ws : List ℕ) (stands : StandsIn s log) (has : is_some (tail_of log.chunks j) ≡ true) (closed : log.opened ≢ Some j)
    (standing : IsTelling s → IsStandingOf s log st) (collected : IsTelling s → Collected st st' (batch_in s log st j) taken ws) (some : 0 < taken) (opens : is_some log.opened ≡ true) (room : lines_for (length ws) ≤ room_of log) where
  open_some : is_some (tail_of log.chunks (open_number log)) ≡ true
  open_some = ap is_some (open_has log stands.own opens)

  pub not_open : j ≢ open_number log
  not_open e = closed (opened_is log stands.own opens ∙ ap Some (sym e))

  pub is_batch : IsTelling s → IsBatch (entries_of (batch_in s log st j))
  is_batch telling = let n = long_entries (batch_in s log st j) in let m = (collected telling).count_is in record { some = omega (arith, n, m, some); each = (collected telling).spelled }

  -- An image of a moment.
  module _ (telling : IsTelling s) (m : ℕ → Cell) (each : EachInOpen log (HasOrLacks (open_first log) (open_tail log) (words_now s (open_first log) (open_tail log)) (padded ws)) m)
      (kept : KeepsOutside (cell_now s) (open_first log) (open_first log + chunk_words log.layout) m) (image : ℕ → ℕ) (may : MayLeaveIn m (part_first log.layout log.part) (part_first log.layout (log.part + 1)) image) where
    low : first_of log (open_number log) ≤ open_first log
    low = omega arith

    high : open_first log + chunk_words log.layout ≤ first_of log (open_number log) + chunk_words log.layout
    high = omega arith

    before : ℕ → ℕ
    before = was s log stands (open_number log) (open_first log) (open_first log + chunk_words log.layout) low high m kept image may

    before_chunk : (k : ℕ) → is_some (tail_of log.chunks k) ≡ true → chunk_entries log.layout before log.part k ≡ placed_in_chunk log.part k (entries_in s log k)
    unfolding before
    before_chunk = was_chunk s log stands (open_number log) (open_first log) (open_first log + chunk_words log.layout) low high m kept image may telling

    else_same : (k : ℕ) → k ≢ open_number log → chunk_entries log.layout image log.part k ≡ chunk_entries log.layout before log.part k
    unfolding before
    else_same = same_else s log stands (open_number log) (open_first log) (open_first log + chunk_words log.layout) low high m kept image may

    abbrev entry_in : Entry → List PlacedEntry → Type 0
    entry_in e es = In e (map (λ (y : PlacedEntry). y.entry) es)

    open_is : HasEntriesOrLacks log (open_entries log (lasts s)) (entries_of (batch_in s log st j)) image
    open_is =
        let inside = chunk_in_part log.layout log.part (open_number log) (chunk_of s log stands (open_number log) open_some).within in
        entries_or_lacks s log stands opens telling ws (entries_of (batch_in s log st j)) (collected telling).words_are (is_batch telling) room image (each image (λ w ge lt. may w (omega (arith, ge, inside)) (omega (arith, lt, inside))))

    old_is : open_entries log (lasts s) ≡ chunk_entries log.layout before log.part (open_number log)
    old_is = chunk_lasts s log stands (open_number log) open_some telling ∙ sym (before_chunk (open_number log) open_some)

    added_stands : (e : Entry) → entry_in e (added_entries log (entries_of (batch_in s log st j))) → Stands log before e
    added_stands e is =
        let a = placed_in log.part (open_number log) (with_places (open_tail log) (entries_of (batch_in s log st j))) e is in
        let b = in_entries (batch_in s log st j) a.found.1 (in_places (open_tail log) (entries_of (batch_in s log st j)) a.found a.here) in
        let there = (in_batch st (entries_in s log j) b.found b.here).0 in
        let at : StandsAt log before j b.found.1 = subst (entry_in b.found.1) (sym (before_chunk j has)) (placed_has log.part j (entries_in s log j) b.found there) in
        subst (Stands log before) (sym (a.is ∙ b.is)) (part_has log before j b.found.1 (chunk_of s log stands j has).within at)

    only : (e : Entry) → Stands log image e → Stands log before e
    only e is =
        let p = part_in log image e is in
        ⊎_elim
        (λ (at : p.chunk ≡ open_number log).
        let there : entry_in e (open_entries log image) = subst (λ (k : ℕ). StandsAt log image k e) at p.at in
        let old_stands : entry_in e (open_entries log (lasts s)) → Stands log before e = λ old. part_has log before (open_number log) e (chunk_of s log stands (open_number log) open_some).within (subst (entry_in e) old_is old) in
        ⊎_elim
        (λ (lacks : open_entries log image ≡ open_entries log (lasts s)). old_stands (subst (entry_in e) lacks there))
        (λ (more : HasEntries log (open_entries log (lasts s)) (entries_of (batch_in s log st j)) image).
        ⊎_elim old_stands (added_stands e)
        (in_either e (map (λ (y : PlacedEntry). y.entry) (open_entries log (lasts s))) (map (λ (y : PlacedEntry). y.entry) (added_entries log (entries_of (batch_in s log st j))))
        (subst (In e) (map-append (λ (y : PlacedEntry). y.entry) (open_entries log (lasts s)) (added_entries log (entries_of (batch_in s log st j)))) (subst (entry_in e) more there))))
        open_is)
        (λ (ne : p.chunk ≢ open_number log). part_has log before p.chunk e p.in_part (subst (entry_in e) (else_same p.chunk ne) p.at))
        (cases_eq p.chunk (open_number log))

    has_still : (e : Entry) → Stands log before e → Stands log image e
    has_still e is =
        let p = part_in log before e is in
        ⊎_elim
        (λ (at : p.chunk ≡ open_number log).
        let there : entry_in e (open_entries log (lasts s)) = subst (entry_in e) (sym old_is) (subst (λ (k : ℕ). StandsAt log before k e) at p.at) in
        part_has log image (open_number log) e (chunk_of s log stands (open_number log) open_some).within
        (⊎_elim
        (λ (lacks : open_entries log image ≡ open_entries log (lasts s)). subst (entry_in e) (sym lacks) there)
        (λ (more : HasEntries log (open_entries log (lasts s)) (entries_of (batch_in s log st j)) image).
        subst (entry_in e) (sym more) (subst (In e) (sym (map-append (λ (y : PlacedEntry). y.entry) (open_entries log (lasts s)) (added_entries log (entries_of (batch_in s log st j)))))
        (in_front e (map (λ (y : PlacedEntry). y.entry) (open_entries log (lasts s))) (map (λ (y : PlacedEntry). y.entry) (added_entries log (entries_of (batch_in s log st j)))) there)))
        open_is))
        (λ (ne : p.chunk ≢ open_number log). part_has log image p.chunk e p.in_part (subst (entry_in e) (sym (else_same p.chunk ne)) p.at))
        (cases_eq p.chunk (open_number log))

    well : chunk_reads log.layout image (first_of log (open_number log)) ≡ true
    well =
        let is = chunk_of s log stands (open_number log) open_some in
        let inside = chunk_in_part log.layout log.part (open_number log) is.within in
        let old = open_spelled s log stands opens telling in
        let es = entries_of (batch_in s log st j) in
        let whole = open_chunk_of log stands.own opens in
        let grown = moved_chunk_of log stands.own opens (length ws) room in
        let long = length-padded ws in
        let whole_tail = grown.whole in
        let fits_tail = grown.fits in
        let same : padded ws ≡ batch_words es = ap padded (collected telling).words_are in
        let more : Spelled (words_now s (open_first log) (open_tail log) ++ padded ws) = subst (λ (l : List ℕ). Spelled (words_now s (open_first log) (open_tail log) ++ l)) (sym same)
        (record { batches = old.batches ++ es ∷ []; spelled = spells-append (words_now s (open_first log) (open_tail log)) old.batches es old.spelled (is_batch telling) }) in
        ⊎_elim (λ lacks. log_well log.layout image (open_first log) (open_tail log) (words_now s (open_first log) (open_tail log)) whole.whole whole.fits lacks old)
        (λ has_it. log_well log.layout image (open_first log) (open_tail log + length (padded ws)) (words_now s (open_first log) (open_tail log) ++ padded ws) (omega (arith, long, whole_tail)) (omega (arith, long, fits_tail)) has_it more)
        (each image (λ w ge lt. may w (omega (arith, ge, inside)) (omega (arith, lt, inside))))

    pub copy_same : HasSame s log (open_number log) image
    unfolding before
    copy_same = record {
      before = before;
      beside = record {
        may = was_may s log stands (open_number log) (open_first log) (open_first log + chunk_words log.layout) low high m kept image may;
        outside = was_outside s log stands (open_number log) (open_first log) (open_first log + chunk_words log.layout) low high m kept image may;
        reads = reads_kept s log stands (open_number log) (open_first log) (open_first log + chunk_words log.layout) low high m kept image may well;
        blocks = blocks_kept s log stands (open_number log) (open_first log) (open_first log + chunk_words log.layout) low high m kept image may telling open_some;
        only = only;
      };
      has = has_still;
    }

  pub copy_parts : (t : State) → During s t (EachInOpen log (HasOrLacks (open_first log) (open_tail log) (words_now s (open_first log) (open_tail log)) (padded ws)))
      → During s t (KeepsOutside (cell_now s) (open_first log) (open_first log + chunk_words log.layout)) → During s t (EachInPart log (HasSame s log (open_number log)))
  copy_parts t each outside =
      weaken s t (λ m. EachInOpen log (HasOrLacks (open_first log) (open_tail log) (words_now s (open_first log) (open_tail log)) (padded ws)) m × KeepsOutside (cell_now s) (open_first log) (open_first log + chunk_words log.layout) m)
      (EachInPart log (HasSame s log (open_number log))) (λ telling m is image may. copy_same telling m is.0 is.1 image may)
      (both s t (EachInOpen log (HasOrLacks (open_first log) (open_tail log) (words_now s (open_first log) (open_tail log)) (padded ws))) (KeepsOutside (cell_now s) (open_first log) (open_first log + chunk_words log.layout)) each outside)

  -- The names afterwards.
  module _ (t : State) (log' : LogState) (appended : AppendedBatch s t log log' (padded ws)) (outside : During s t (KeepsOutside (cell_now s) (open_first log) (open_first log + chunk_words log.layout))) (telling_t : IsTelling t) where
    told : IsTelling s
    told = told_at_entry s t (KeepsOutside (cell_now s) (open_first log) (open_first log + chunk_words log.layout)) outside telling_t

    as_batch : AppendedBatch s t log log' (batch_words (entries_of (batch_in s log st j)))
    as_batch = subst (AppendedBatch s t log log') (ap padded (collected told).words_are) appended

    pub still_has : (i : ℕ) → i ≢ open_number log → is_some (tail_of log.chunks i) ≡ true → entries_in t log' i ≡ entries_in s log i
    still_has = else_has s t log log' (entries_of (batch_in s log st j)) stands.own opens (open_spelled s log stands opens told) (is_batch told) as_batch outside telling_t

    -- a name of the batch didn't stand in the open chunk
    new_there : (k v : ℕ) → has_name (batch_in s log st j) k v ≡ true → has_name (entries_in s log (open_number log)) k v ≡ false
    new_there k v is = elim (has_name (entries_in s log (open_number log)) k v) as (λ b. has_name (entries_in s log (open_number log)) k v ≡ b → b ≡ false) [
      | true ↦ λ there.
          let n = name_in (batch_in s log st j) k v is in
          let inside = in_batch st (entries_in s log j) n.found n.here in
          let one : count_of st n.found.1.key n.found.1.version ≡ 1 = eqb-true _ 1 (and_parts _ _ inside.1).0 in
          let one_kv : count_of st k v ≡ 1 = sym (λ i. count_of st (n.key i) (n.version i)) ∙ one in
          let h : ℕ → Bool = λ i. has_name (entries_in s log i) k v in
          let here : has_name (entries_in s log j) k v ≡ true = sym (λ i. has_name (entries_in s log j) (n.key i) (n.version i)) ∙ in_named (entries_in s log j) n.found inside.0 in
          let total = standing told k v in
          let less = count_without h log.chunks (open_number log) open_some in
          let less_one : cond (h (open_number log)) 1 0 ≡ 1 = ap {B = ℕ} (λ (b : Bool). cond b 1 0) there in
          let rest_has : is_some (tail_of (without log.chunks (open_number log)) j) ≡ true = ap is_some (without_other log.chunks (open_number log) j not_open) ∙ has in
          let rest = count_has h (without log.chunks (open_number log)) j rest_has here in
          absurd (omega (arith, one_kv, total, less, less_one, rest))
      | false ↦ λ isnt. refl
    ] refl

    among : (k v : ℕ) → is_among (entries_of (batch_in s log st j)) k v ≡ has_name (batch_in s log st j) k v
    among k v = names_of (batch_in s log st j) k v

    pub copy_standing : IsStandingOf t log' st'
    copy_standing k v =
        let a = count_adds (copies_at st k v) (copies_at st' k v) (has_name (batch_in s log st j) k v) ((collected told).adds k v) in
        let lacks : Lacks (entries_in s log (open_number log)) (entries_of (batch_in s log st j)) = λ i w is. new_there i w (sym (among i w) ∙ is) in
        let b = chunks_more s t log log' (entries_of (batch_in s log st j)) stands.own opens (open_spelled s log stands opens told) (is_batch told) as_batch outside telling_t lacks k v ∙ ap {B = ℕ} (λ (q : Bool). chunks_with s log k v + cond q 1 0) (among k v) in
        let n = standing told k v in
        omega (arith, a, b, n)
