-- What the part of a log is in images while the log is written: a batch is appended, a chunk is opened, or one is made Free.
use Rattle.std.proofs.Common.{◌≡◌, ◌≢◌, ◌⊎◌, inl, inr, ⊎_elim, ℕ, ◌+◌, ◌≤◌, ◌<◌, true, List, [], ◌∷◌, ◌++◌, length, map, Some, None, Ok, is_some, refl, sym, ◌∙◌, ap, subst, arith}
use Rattle.std.specs.List.{flat_map}
use Rattle.std.proofs.lemmas.Bool.{cases_eq}
use Rattle.std.proofs.lemmas.List.{map-append}
use Rattle.pm_region.specs.Cell.{Cell}
use Rattle.pm_region.specs.State.{State, Frame, IsTelling, cell_now, During}
use Rattle.pm_region.specs.Words.{Kept, KeepsOutside, MayLeaveIn, Surely, lasts, lines_for}
use Rattle.pm_region.proofs.Clients.{weaken, both, told_at_entry, at_exit, may_be_last, surely_last}
use Rattle.log_entry.specs.declared.entry.Entry.{Entry}
use Rattle.log_entry.specs.Spelling.{words_of}
use Rattle.log_entry.specs.Batches.{IsBatch, SpellsBatches}
use Rattle.log_entry.proofs.Clients.{spells-append}
use Rattle.chunk_map.specs.declared.heads.Head.TheVariants.{Data}
use Rattle.chunk_map.specs.Layouts.{chunk_words, head_at, part_first}
use Rattle.chunk_map.proofs.Clients.{chunks_apart, chunk_in_part}
use Rattle.store_image.specs.declared.types.PlacedEntry.{PlacedEntry}
use Rattle.store_image.specs.Parts.{placed_in_chunk, chunk_entries, chunk_reads}
use Rattle.store_image.specs.Facts.{In}
use Rattle.store_image.proofs.Clients.{Numbers, layout_numbers, in_front, in_back, in_either}
use Rattle.core_log.specs.Chunk.{words_now, padded, HasOrLacks, HasLog, FreeOrEmpty, FreeOrLog}
use Rattle.core_log.specs.Log.{LogState, StandsIn, EachInOpen, Spelled, IsChunkOf, chunk_with, tail_of, tail_in, first_of, open_number, open_first, open_tail, room_of}
use Rattle.core_log.specs.Entries.{open_entries, added_entries, AppendedBatch}
use Rattle.core_log.specs.Opening.{EachInChunk}
use Rattle.core_log.specs.Walking.{entries_in}
use Rattle.core_log.specs.PartImages.{MayLeavePart, EachInPart, entries_of, KeepsPart, Gains, Loses, GainsSince, LosesSince}
use Rattle.core_log.proofs.Padded.{length-padded}
use Rattle.core_log.proofs.Append.{log_reads}
use Rattle.core_log.proofs.LogLaws.{own_chunk, tail_fits, log_kept, words_kept}
use Rattle.core_log.proofs.RetireLaws.{is_tail}
use Rattle.core_log.proofs.BatchLaws.{some_opens, holds_some, open_has, open_chunk_of, moved_chunk_of, open_log, open_spelled, has_entries, entries_read}
use Rattle.core_log.proofs.EntryImages.{AtEntry, at_entry}
use Rattle.core_log.proofs.ChunkWords.{log_reads_well, log_not_data, free_not_data, free_or_empty_reads, free_reads_well, free_has_none, placed_entries, placed_all}
use Rattle.core_log.proofs.ChunkImages.{InChunk, part_has, part_of, reads_kept, to_else, from_else, block_stays}

abbrev pub entries_all : List PlacedEntry → List Entry
entries_all xs = map (λ (x : PlacedEntry). x.entry) xs

-- Each image of a chunk of the log shows its entries as they are now.
module _ (s : State) (log : LogState) (stands : StandsIn s log) (j : ℕ) (has : is_some (tail_of log.chunks j) ≡ true) where
  pub chunk_is : IsChunkOf log.layout (chunk_with j (tail_in log j))
  chunk_is = own_chunk log stands.own j (tail_in log j) (is_tail (tail_of log.chunks j) has)

  pub chunk_now : IsTelling s → (image : ℕ → ℕ) → MayLeaveIn (cell_now s) (first_of log j) (first_of log j + chunk_words log.layout) image → chunk_entries log.layout image log.part j ≡ placed_in_chunk log.part j (entries_in s log j)
  chunk_now telling image may =
      let is = chunk_is in
      let fits = (tail_fits log.layout stands.own.layout (chunk_with j (tail_in log j)) is).0 in
      entries_read log.layout image log.part j (tail_in log j) (words_now s (first_of log j) (tail_in log j)) is.whole is.fits
      (log_reads s (first_of log j) (chunk_words log.layout) (tail_in log j) fits (stands.logs telling j (tail_in log j) (is_tail (tail_of log.chunks j) has)) image may)

  pub kind_now : IsTelling s → Surely (cell_now s (first_of log j)) 1
  kind_now telling = (stands.logs telling j (tail_in log j) (is_tail (tail_of log.chunks j) has)).kind

pub in_chunk_of : (log : LogState) (cells : ℕ → Cell) (j : ℕ) (image : ℕ → ℕ) → j < log.layout.chunks → MayLeavePart log cells image → MayLeaveIn cells (first_of log j) (first_of log j + chunk_words log.layout) image
in_chunk_of log cells j image lt may w low high = let lies = chunk_in_part log.layout log.part j lt in may w (omega (arith, lies.0, low)) (omega (arith, lies.1, high))

some_words : (s : State) (log : LogState) → StandsIn s log → 32 ≤ chunk_words log.layout
some_words s log stands = let big = (layout_numbers log.layout stands.own.layout).size in omega (arith, big)

-- One chunk was written: an image, and one from before beside it.
module _ (s : State) (log : LogState) (stands : StandsIn s log) (j : ℕ) (within : j < log.layout.chunks) (image before : ℕ → ℕ)
    (same : (w : ℕ) → (w < first_of log j) ⊎ (first_of log j + chunk_words log.layout ≤ w) → image w ≡ before w)
    (no_data : (class : ℕ) → head_at log.layout before (first_of log j) ≡ Ok (Data class) → ⊥)
    (well : chunk_reads log.layout image (first_of log j) ≡ true) where
  numbers : Numbers log.layout
  numbers = layout_numbers log.layout stands.own.layout

  keeps : KeepsPart log before image
  keeps = record {
    well = reads_kept log.layout numbers log.part stands.own.part j image before same well;
    blocks = block_stays log.layout numbers log.part stands.own.part j image before same no_data;
  }

  -- an entry of another chunk stands in both
  to_image : (e : Entry) (n : ℕ) → n ≢ j → InChunk log.layout before log.part n e → InChunk log.layout image log.part n e
  to_image e n ne i = to_else log.layout numbers log.part stands.own.part j image before same n e ne i

  to_before : (e : Entry) (n : ℕ) → n ≢ j → InChunk log.layout image log.part n e → InChunk log.layout before log.part n e
  to_before e n ne i = from_else log.layout numbers log.part stands.own.part j image before same n e ne i

  gains : (es : List Entry) → ((e : Entry) → InChunk log.layout before log.part j e → InChunk log.layout image log.part j e)
      → ((e : Entry) → InChunk log.layout image log.part j e → InChunk log.layout before log.part j e ⊎ In e es)
      → ((e : Entry) → In e es → InChunk log.layout image log.part j e) → Gains log es before image
  gains es front adds all = record {
    keeps = keeps;
    has = λ e i. let at = part_of log.layout before log.part e i in
        part_has log.layout image log.part at.0 e at.1 (⊎_elim
        (λ here. subst (λ (n : ℕ). InChunk log.layout image log.part n e) (sym here) (front e (subst (λ (n : ℕ). InChunk log.layout before log.part n e) here at.2)))
        (λ ne. to_image e at.0 ne at.2) (cases_eq at.0 j));
    only = λ e i. let at = part_of log.layout image log.part e i in
        ⊎_elim
        (λ here. ⊎_elim (λ was. inl (part_has log.layout before log.part j e within was)) (λ more. inr more) (adds e (subst (λ (n : ℕ). InChunk log.layout image log.part n e) here at.2)))
        (λ ne. inl (part_has log.layout before log.part at.0 e at.1 (to_before e at.0 ne at.2))) (cases_eq at.0 j);
    all = λ e i. part_has log.layout image log.part j e within (all e i);
  }

  -- its entries are as before
  gains_none : chunk_entries log.layout image log.part j ≡ chunk_entries log.layout before log.part j → Gains log [] before image
  gains_none entries = gains []
      (λ e i. subst (λ (xs : List PlacedEntry). In e (entries_all xs)) (sym entries) i)
      (λ e i. inl (subst (λ (xs : List PlacedEntry). In e (entries_all xs)) entries i))
      (λ e none. absurd none)

-- A batch is appended.
module _ (s t : State) (log : LogState) (stands : StandsIn s log) (ws : List ℕ) (es : List Entry) (words : ws ≡ flat_map words_of es) (batch : IsBatch es) (fits : lines_for (length ws) ≤ room_of log)
    (outside : During s t (KeepsOutside (cell_now s) (open_first log) (open_first log + chunk_words log.layout))) where
  some_open : is_some log.opened ≡ true
  some_open = some_opens log ws (holds_some ws (record { entries = es; words = words; batch = batch })) fits

  own : IsChunkOf log.layout (chunk_with (open_number log) (open_tail log))
  own = open_chunk_of log stands.own some_open

  has_tail : is_some (tail_of log.chunks (open_number log)) ≡ true
  has_tail = ap is_some (open_has log stands.own some_open)

  -- the words with the batch spell batches
  spells : Spelled (words_now s (open_first log) (open_tail log)) → (bs : List (List Entry)) × SpellsBatches (words_now s (open_first log) (open_tail log) ++ padded ws) bs
  spells before = (
    before.batches ++ es ∷ [],
    subst (λ ps. SpellsBatches (words_now s (open_first log) (open_tail log) ++ ps) (before.batches ++ es ∷ [])) (sym (ap padded words))
        (spells-append (words_now s (open_first log) (open_tail log)) before.batches es before.spelled batch),
  )

  -- an image of a moment, and one at entry beside it
  module _ (telling : IsTelling s) (cells : ℕ → Cell) (kept : KeepsOutside (cell_now s) (open_first log) (open_first log + chunk_words log.layout) cells) (image : ℕ → ℕ) (may : MayLeavePart log cells image) where
    entry : AtEntry s (open_first log) (open_first log + chunk_words log.layout) (part_first log.layout log.part) (part_first log.layout (log.part + 1)) image
    entry = at_entry s cells (open_first log) (open_first log + chunk_words log.layout) (part_first log.layout log.part) (part_first log.layout (log.part + 1)) image kept may

    same : (w : ℕ) → (w < open_first log) ⊎ (open_first log + chunk_words log.layout ≤ w) → image w ≡ entry.before w
    same w out = sym (entry.outside w out)

    no_data : (class : ℕ) → head_at log.layout entry.before (open_first log) ≡ Ok (Data class) → ⊥
    no_data class e = let size = some_words s log stands in log_not_data log.layout entry.before (open_first log) class
        (entry.inside (open_first log) (omega arith) (omega (arith, size)) ∙ surely_last (cell_now s (open_first log)) 1 (open_log s log stands some_open telling).kind) e

    before_is : chunk_entries log.layout entry.before log.part (open_number log) ≡ placed_in_chunk log.part (open_number log) (entries_in s log (open_number log))
    before_is = chunk_now s log stands (open_number log) has_tail telling entry.before (in_chunk_of log (cell_now s) (open_number log) entry.before own.within entry.may)

    now_is : chunk_entries log.layout (lasts s) log.part (open_number log) ≡ placed_in_chunk log.part (open_number log) (entries_in s log (open_number log))
    now_is = chunk_now s log stands (open_number log) has_tail telling (lasts s) (λ w low high. may_be_last (cell_now s w) (lasts s w) refl)

    lacking : HasLog (open_first log) (open_tail log) (words_now s (open_first log) (open_tail log)) image → Gains log [] entry.before image
    lacking h = let before = open_spelled s log stands some_open telling in
        gains_none s log stands (open_number log) own.within image entry.before same no_data
        (log_reads_well log.layout image (open_first log) (open_tail log) (words_now s (open_first log) (open_tail log)) before.batches own.whole own.fits h before.spelled)
        (entries_read log.layout image log.part (open_number log) (open_tail log) (words_now s (open_first log) (open_tail log)) own.whole own.fits h ∙ sym before_is)

    having : HasLog (open_first log) (open_tail log + length (padded ws)) (words_now s (open_first log) (open_tail log) ++ padded ws) image → Gains log es entry.before image
    having h =
        let after = spells (open_spelled s log stands some_open telling) in
        let to = moved_chunk_of log stands.own some_open (length ws) fits in
        let long = length-padded ws in
        let whole = to.whole in
        let in_payload = to.fits in
        let entries : open_entries log image ≡ chunk_entries log.layout entry.before log.part (open_number log) ++ added_entries log es =
        has_entries s log stands some_open telling ws es words batch fits image h ∙ ap (λ (xs : List PlacedEntry). xs ++ added_entries log es) (now_is ∙ sym before_is) in
        let split : entries_all (open_entries log image) ≡ entries_all (chunk_entries log.layout entry.before log.part (open_number log)) ++ es =
        ap entries_all entries ∙ map-append (λ (x : PlacedEntry). x.entry) (chunk_entries log.layout entry.before log.part (open_number log)) (added_entries log es)
        ∙ ap (λ (xs : List Entry). entries_all (chunk_entries log.layout entry.before log.part (open_number log)) ++ xs) (placed_entries log.part (open_number log) (open_tail log) es) in
        gains s log stands (open_number log) own.within image entry.before same no_data
        (log_reads_well log.layout image (open_first log) (open_tail log + length (padded ws)) (words_now s (open_first log) (open_tail log) ++ padded ws) after.0
        (omega (arith, long, whole)) (omega (arith, long, in_payload)) h after.1)
        es
        (λ e i. subst (In e) (sym split) (in_front e (entries_all (chunk_entries log.layout entry.before log.part (open_number log))) es i))
        (λ e i. in_either e (entries_all (chunk_entries log.layout entry.before log.part (open_number log))) es (subst (In e) split i))
        (λ e i. subst (In e) (sym split) (in_back e (entries_all (chunk_entries log.layout entry.before log.part (open_number log))) es i))

    in_chunk : MayLeaveIn cells (open_first log) (open_first log + chunk_words log.layout) image
    in_chunk = in_chunk_of log cells (open_number log) image own.within may

  -- at each moment all of the batch is there, or none of it
  pub append_gains : During s t (EachInOpen log (HasOrLacks (open_first log) (open_tail log) (words_now s (open_first log) (open_tail log)) (padded ws))) → During s t (EachInPart log (λ image. GainsSince s log [] image ⊎ GainsSince s log es image))
  append_gains run = weaken s t
      (λ cells. EachInOpen log (HasOrLacks (open_first log) (open_tail log) (words_now s (open_first log) (open_tail log)) (padded ws)) cells × KeepsOutside (cell_now s) (open_first log) (open_first log + chunk_words log.layout) cells)
      (EachInPart log (λ image. GainsSince s log [] image ⊎ GainsSince s log es image))
      (λ telling cells h image may. let x = entry telling cells h.1 image may in
      ⊎_elim (λ lacks. inl (x.before, x.may, lacking telling cells h.1 image may lacks)) (λ has. inr (x.before, x.may, having telling cells h.1 image may has)) (h.0 image (in_chunk telling cells h.1 image may)))
      (both s t (EachInOpen log (HasOrLacks (open_first log) (open_tail log) (words_now s (open_first log) (open_tail log)) (padded ws))) (KeepsOutside (cell_now s) (open_first log) (open_first log + chunk_words log.layout)) run outside)

  -- and in the end all of it
  pub appended_gains : (log' : LogState) → AppendedBatch s t log log' (padded ws) → IsTelling t → EachInPart log (GainsSince s log es) (cell_now t)
  appended_gains log' after telling image may =
      let before = told_at_entry s t (KeepsOutside (cell_now s) (open_first log) (open_first log + chunk_words log.layout)) outside telling in
      let kept = at_exit s t (KeepsOutside (cell_now s) (open_first log) (open_first log + chunk_words log.layout)) outside telling in
      let x = entry before (cell_now t) kept image may in
      (x.before, x.may, having before (cell_now t) kept image may (after.has telling image (in_chunk before (cell_now t) kept image may)))

-- A chunk of the part is opened.
module _ (s t : State) (log : LogState) (stands : StandsIn s log) (j : ℕ) (within : j < log.layout.chunks) (free : IsTelling s → Surely (cell_now s (first_of log j)) 0)
    (outside : During s t (KeepsOutside (cell_now s) (first_of log j) (first_of log j + 8))) where
  module _ (telling : IsTelling s) (cells : ℕ → Cell) (kept : KeepsOutside (cell_now s) (first_of log j) (first_of log j + 8) cells) (image : ℕ → ℕ) (may : MayLeavePart log cells image) where
    opening : AtEntry s (first_of log j) (first_of log j + 8) (part_first log.layout log.part) (part_first log.layout (log.part + 1)) image
    opening = at_entry s cells (first_of log j) (first_of log j + 8) (part_first log.layout log.part) (part_first log.layout (log.part + 1)) image kept may

    kind : opening.before (first_of log j) ≡ 0
    kind = opening.inside (first_of log j) (omega arith) (omega arith) ∙ surely_last (cell_now s (first_of log j)) 0 (free telling)

    shows_none : FreeOrEmpty (first_of log j) image → chunk_entries log.layout image log.part j ≡ []
    shows_none (inl zero) = free_has_none log.layout image log.part j zero
    shows_none (inr empty) = entries_read log.layout image log.part j 0 [] (omega arith) (omega arith) (empty.0, empty.1, refl)

    opens : FreeOrEmpty (first_of log j) image → Gains log [] opening.before image
    opens h = let size = some_words s log stands in
        gains_none s log stands j within image opening.before
        (λ w out. sym (opening.outside w (⊎_elim (λ lt. inl lt) (λ ge. inr (omega (arith, ge, size))) out)))
        (λ class e. free_not_data log.layout opening.before (first_of log j) class kind e)
        (free_or_empty_reads log.layout image (first_of log j) h)
        (shows_none h ∙ sym (free_has_none log.layout opening.before log.part j kind))

  pub open_gains : During s t (EachInChunk log j (FreeOrEmpty (first_of log j))) → During s t (EachInPart log (GainsSince s log []))
  open_gains run = weaken s t (λ cells. EachInChunk log j (FreeOrEmpty (first_of log j)) cells × KeepsOutside (cell_now s) (first_of log j) (first_of log j + 8) cells) (EachInPart log (GainsSince s log []))
      (λ telling cells h image may. let x = opening telling cells h.1 image may in (x.before, x.may, opens telling cells h.1 image may (h.0 image (in_chunk_of log cells j image within may))))
      (both s t (EachInChunk log j (FreeOrEmpty (first_of log j))) (KeepsOutside (cell_now s) (first_of log j) (first_of log j + 8)) run outside)

-- A chunk of the log is made Free.
module _ (s t : State) (log : LogState) (stands : StandsIn s log) (j : ℕ) (has : is_some (tail_of log.chunks j) ≡ true)
    (outside : During s t (KeepsOutside (cell_now s) (first_of log j) (first_of log j + 8))) where
  module _ (telling : IsTelling s) (cells : ℕ → Cell) (kept : KeepsOutside (cell_now s) (first_of log j) (first_of log j + 8) cells) (image : ℕ → ℕ) (may : MayLeavePart log cells image) where
    closing : AtEntry s (first_of log j) (first_of log j + 8) (part_first log.layout log.part) (part_first log.layout (log.part + 1)) image
    closing = at_entry s cells (first_of log j) (first_of log j + 8) (part_first log.layout log.part) (part_first log.layout (log.part + 1)) image kept may

    of_log : IsChunkOf log.layout (chunk_with j (tail_in log j))
    of_log = chunk_is s log stands j has

    was : chunk_entries log.layout closing.before log.part j ≡ placed_in_chunk log.part j (entries_in s log j)
    was = chunk_now s log stands j has telling closing.before (in_chunk_of log (cell_now s) j closing.before of_log.within closing.may)

    unwritten : (w : ℕ) → (w < first_of log j) ⊎ (first_of log j + chunk_words log.layout ≤ w) → image w ≡ closing.before w
    unwritten w out = let size = some_words s log stands in sym (closing.outside w (⊎_elim (λ lt. inl lt) (λ ge. inr (omega (arith, ge, size))) out))

    was_no_data : (class : ℕ) → head_at log.layout closing.before (first_of log j) ≡ Ok (Data class) → ⊥
    was_no_data class e = log_not_data log.layout closing.before (first_of log j) class
        (closing.inside (first_of log j) (omega arith) (omega arith) ∙ surely_last (cell_now s (first_of log j)) 1 (kind_now s log stands j has telling)) e

    stays : HasLog (first_of log j) (tail_in log j) (words_now s (first_of log j) (tail_in log j)) image → Gains log [] closing.before image
    stays h =
        let before = stands.spelled telling j (tail_in log j) (is_tail (tail_of log.chunks j) has) in
        gains_none s log stands j of_log.within image closing.before unwritten was_no_data
        (log_reads_well log.layout image (first_of log j) (tail_in log j) (words_now s (first_of log j) (tail_in log j)) before.batches of_log.whole of_log.fits h before.spelled)
        (entries_read log.layout image log.part j (tail_in log j) (words_now s (first_of log j) (tail_in log j)) of_log.whole of_log.fits h ∙ sym was)

    -- an entry of another chunk of the log stands there
    beside : (k : ℕ) (e : Entry) → k ≢ j → is_some (tail_of log.chunks k) ≡ true → In e (entries_of s log k) → InChunk log.layout image log.part k e
    beside k e ne there i =
        let is = chunk_is s log stands k there in
        let entries : chunk_entries log.layout closing.before log.part k ≡ placed_in_chunk log.part k (entries_in s log k) = chunk_now s log stands k there telling closing.before (in_chunk_of log (cell_now s) k closing.before is.within closing.may) in
        to_else log.layout (layout_numbers log.layout stands.own.layout) log.part stands.own.part j image closing.before unwritten k e ne
        (subst (In e) (sym (ap entries_all entries ∙ placed_all log.part k (entries_in s log k))) i)

    loses : image (first_of log j) ≡ 0 → Loses s log j closing.before image
    loses zero = record {
      keeps = keeps s log stands j of_log.within image closing.before unwritten was_no_data (free_reads_well log.layout image (first_of log j) zero);
      has = λ e i. let at = part_of log.layout closing.before log.part e i in
          ⊎_elim
          (λ here. inr (subst (In e) (ap entries_all was ∙ placed_all log.part j (entries_in s log j)) (subst (λ (n : ℕ). InChunk log.layout closing.before log.part n e) here at.2)))
          (λ ne. inl (part_has log.layout image log.part at.0 e at.1 (to_else log.layout (layout_numbers log.layout stands.own.layout) log.part stands.own.part j image closing.before unwritten at.0 e ne at.2)))
          (cases_eq at.0 j);
      others = λ k e ne there i. part_has log.layout image log.part k e (chunk_is s log stands k there).within (beside k e ne there i);
      only = λ e i. let at = part_of log.layout image log.part e i in
          ⊎_elim
          (λ here. absurd (subst (λ (xs : List PlacedEntry). In e (entries_all xs)) (free_has_none log.layout image log.part j zero) (subst (λ (n : ℕ). InChunk log.layout image log.part n e) here at.2)))
          (λ ne. part_has log.layout closing.before log.part at.0 e at.1 (from_else log.layout (layout_numbers log.layout stands.own.layout) log.part stands.own.part j image closing.before unwritten at.0 e ne at.2))
          (cases_eq at.0 j);
    }

    retires : FreeOrLog (first_of log j) (tail_in log j) (words_now s (first_of log j) (tail_in log j)) image → GainsSince s log [] image ⊎ LosesSince s log j image
    retires (inl zero) = inr (closing.before, closing.may, loses zero)
    retires (inr log_stays) = inl (closing.before, closing.may, stays log_stays)

  pub retire_loses : During s t (EachInChunk log j (FreeOrLog (first_of log j) (tail_in log j) (words_now s (first_of log j) (tail_in log j)))) → During s t (EachInPart log (λ image. GainsSince s log [] image ⊎ LosesSince s log j image))
  retire_loses run = weaken s t
      (λ cells. EachInChunk log j (FreeOrLog (first_of log j) (tail_in log j) (words_now s (first_of log j) (tail_in log j))) cells × KeepsOutside (cell_now s) (first_of log j) (first_of log j + 8) cells)
      (EachInPart log (λ image. GainsSince s log [] image ⊎ LosesSince s log j image))
      (λ telling cells h image may. retires telling cells h.1 image may (h.0 image (in_chunk_of log cells j image (chunk_is s log stands j has).within may)))
      (both s t (EachInChunk log j (FreeOrLog (first_of log j) (tail_in log j) (words_now s (first_of log j) (tail_in log j)))) (KeepsOutside (cell_now s) (first_of log j) (first_of log j + 8)) run outside)

-- A log stands while a chunk is written that it doesn't have.
pub log_beside : (s t : State) (log : LogState) (j : ℕ) → (IsTelling s → tail_of log.chunks j ≡ None) → During s t (KeepsOutside (cell_now s) (first_of log j) (first_of log j + chunk_words log.layout)) → StandsIn s log → StandsIn t log
log_beside s t log j none outside stands = record {
  own = stands.own;
  low = subst (λ (f : Frame). f.first ≤ part_first log.layout log.part) (sym outside.frame) stands.low;
  high = subst (λ (f : Frame). part_first log.layout (log.part + 1) ≤ f.first + f.words) (sym outside.frame) stands.high;
  logs = λ telling k u is. log_kept (cell_now s) (cell_now t) (first_of log k) u (stands.logs (before telling) k u is) (kept_else telling k u is);
  spelled = λ telling k u is. subst Spelled (sym (words_kept s t (first_of log k) u (kept_else telling k u is))) (stands.spelled (before telling) k u is);
}
  where
    before : IsTelling t → IsTelling s
    before telling = told_at_entry s t (KeepsOutside (cell_now s) (first_of log j) (first_of log j + chunk_words log.layout)) outside telling

    kept_else : IsTelling t → (k u : ℕ) → tail_of log.chunks k ≡ Some u → (w : ℕ) → first_of log k ≤ w → w < first_of log k + 32 + u → Kept (cell_now s w) (cell_now t w)
    kept_else telling k u is w low high =
        let fits = (tail_fits log.layout stands.own.layout (chunk_with k u) (own_chunk log stands.own k u is)).0 in
        let ne : k ≢ j = λ same. (let both : Some u ≡ None = sym is ∙ ap (tail_of log.chunks) same ∙ none (before telling) in cc both) in
        at_exit s t (KeepsOutside (cell_now s) (first_of log j) (first_of log j + chunk_words log.layout)) outside telling w
        (⊎_elim (λ lo. inl (omega (arith, lo, fits, high))) (λ hi. inr (omega (arith, hi, low))) (chunks_apart log.layout log.part k j ne))
