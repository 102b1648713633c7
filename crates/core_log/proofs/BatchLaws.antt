-- A batch in the open chunk: its room, its words and its entries.
use Rattle.std.proofs.Common.{◌≡◌, inl, inr, ⊎_elim, ℕ, ◌+◌, ◌-◌, ◌*◌, ◌/◌, ◌%◌, ◌≤◌, ◌<◌, ◌==◌, ◌&&◌, nat_le, true, List, [], ◌∷◌, ◌++◌, length, Option, Some, None, is_some, unwrap_or, Ok, Err, refl, sym, ◌∙◌, ap, subst, arith, length-append}
use Rattle.std.specs.List.{flat_map}
use Rattle.std.proofs.lemmas.Bool.{cond-true, and_from, eq-eqb, le-leb}
use Rattle.std.proofs.lemmas.List.{map-append}
use Rattle.pm_region.specs.State.{State, IsTelling, cell_now, During}
use Rattle.pm_region.specs.Words.{KeepsOutside, lasts, lines_for}
use Rattle.pm_region.proofs.Clients.{weaken, told_at_entry, may_be_last}
use Rattle.chunk_map.specs.declared.layouts.Geometry.{Geometry}
use Rattle.chunk_map.specs.declared.heads.Head.TheVariants.{Log}
use Rattle.chunk_map.specs.Layouts.{chunk_words, payload_words, payload_lines, chunk_first, head_by, head_at}
use Rattle.chunk_map.proofs.Clients.{numbers_of, payload_of}
use Rattle.log_entry.specs.declared.entry.Entry.{Entry}
use Rattle.log_entry.specs.declared.entry.Body.{Body}
use Rattle.log_entry.specs.declared.entry.Body.TheVariants.{Pointer, Embedded, Tombstone}
use Rattle.log_entry.specs.Spelling.{words_of, body_words}
use Rattle.log_entry.specs.Batches.{batch_words, IsBatch, Scan, scan_of}
use Rattle.log_entry.proofs.Clients.{entries_from, scan-append, spells-append, length-words}
use Rattle.store_image.specs.declared.types.PlacedEntry.{PlacedEntry}
use Rattle.store_image.specs.Parts.{scan_at, scan_behind, placed_in_chunk, chunk_entries}
use Rattle.core_log.specs.Chunk.{padded, words_now, HasLog, HasOrLacks, ChunkLies, IsLog, Appended}
use Rattle.core_log.specs.Log.{LogState, tail_of, with_tail, chunk_with, IsChunkOf, IsOwn, open_number, open_first, open_tail, room_of, lines_left, EachInOpen, Spelled, HoldsEntries, StandsIn}
use Rattle.core_log.specs.Entries.{with_places, open_entries, added_entries, HasEntries, HasEntriesOrLacks, AppendedBatch}
use Rattle.core_log.proofs.Padded.{length-padded}
use Rattle.core_log.proofs.Append.{log_reads}
use Rattle.core_log.proofs.LogLaws.{own_chunk, own_set, chunk_lies, stands_set}

-- an entry has words
some_words : (k v : ℕ) (b : Body) → 0 < length (body_words k v b)
some_words k v (Pointer p) = omega arith
some_words k v (Embedded bytes) = omega arith
some_words k v Tombstone = omega arith

some_spelled : (es : List Entry) → 0 < length es → 0 < length (flat_map words_of es)
some_spelled [] some = absurd (omega (arith, some))
some_spelled (e ∷ es) some = let a = some_words e.key e.version e.body in let b = length-append (words_of e) (flat_map words_of es) in omega (arith, a, b)

-- where there is room for entries a chunk is open
pub some_opens : (log : LogState) (ws : List ℕ) → 0 < length ws → lines_for (length ws) ≤ room_of log → is_some log.opened ≡ true
some_opens log ws some room = by_opened log.opened room
  where
    by_opened : (o : Option ℕ) → lines_for (length ws) ≤ lines_left log o → is_some o ≡ true
    by_opened None le = absurd (omega (arith, le, some))
    by_opened (Some j) le = refl

-- entries have words
pub holds_some : (ws : List ℕ) → HoldsEntries ws → 0 < length ws
holds_some ws holds = let some = some_spelled holds.entries holds.batch.some in let long = ap length holds.words in omega (arith, some, long)

pub room_opens : (log : LogState) (ws : List ℕ) → HoldsEntries ws → lines_for (length ws) ≤ room_of log → is_some log.opened ≡ true
room_opens log ws holds room = some_opens log ws (holds_some ws holds) room

is_number : (o : Option ℕ) → is_some o ≡ true → o ≡ Some (unwrap_or o 0)
is_number None some = absurd (cc some)
is_number (Some j) some = refl

-- the open chunk
module _ (log : LogState) (own : IsOwn log) (some : is_some log.opened ≡ true) where
  pub opened_is : log.opened ≡ Some (open_number log)
  opened_is = is_number log.opened some

  pub open_has : tail_of log.chunks (open_number log) ≡ Some (open_tail log)
  open_has = is_number (tail_of log.chunks (open_number log)) (own.opened (open_number log) opened_is)

  pub open_chunk_of : IsChunkOf log.layout (chunk_with (open_number log) (open_tail log))
  open_chunk_of = own_chunk log own (open_number log) (open_tail log) open_has

  pub room_is : room_of log ≡ payload_lines log.layout - open_tail log / 8
  room_is = ap (lines_left log) opened_is

  pub moved_chunk_of : (n : ℕ) → lines_for n ≤ room_of log → IsChunkOf log.layout (chunk_with (open_number log) (open_tail log + 8 * lines_for n))
  moved_chunk_of n room =
      let is = open_chunk_of in
      let whole = is.whole in
      let fits = is.fits in
      let size = (numbers_of log.layout own.layout).size in
      let payload = payload_of log.layout size in
      let left = room_is in
      record { within = is.within; whole = omega arith; fits = omega (arith, payload, left, room, fits, whole) }

  pub room_words : (n : ℕ) → lines_for n ≤ room_of log → open_tail log + 8 * lines_for n + 32 ≤ chunk_words log.layout
  room_words n room =
      let fits = (moved_chunk_of n room).fits in
      let payload = payload_of log.layout (numbers_of log.layout own.layout).size in
      omega (arith, fits, payload)

module _ (s : State) (log : LogState) (stands : StandsIn s log) (some : is_some log.opened ≡ true) where
  pub open_lies : ChunkLies s.frame (open_first log) (chunk_words log.layout) (open_tail log)
  open_lies = chunk_lies s log (open_number log) (open_tail log) stands (open_chunk_of log stands.own some)

  pub open_log : IsTelling s → IsLog (cell_now s) (open_first log) (open_tail log)
  open_log telling = stands.logs telling (open_number log) (open_tail log) (open_has log stands.own some)

  pub open_spelled : IsTelling s → Spelled (words_now s (open_first log) (open_tail log))
  open_spelled telling = stands.spelled telling (open_number log) (open_tail log) (open_has log stands.own some)

-- the head of a log
pub head_of : (l : Geometry) (tail : ℕ) → tail % 8 ≡ 0 → tail ≤ payload_words l → head_by l 1 tail ≡ Ok (Log tail)
head_of l tail whole fits = cond-true (tail % 8 == 0 && nat_le tail (payload_words l)) (Ok (Log tail)) (Err 5) (and_from _ _ (eq-eqb (tail % 8) 0 whole) (le-leb tail (payload_words l) fits))

-- an image's chunk with these words has the entries that they spell
pub entries_read : (l : Geometry) (image : ℕ → ℕ) (c j tail : ℕ) (ws : List ℕ) → tail % 8 ≡ 0 → tail ≤ payload_words l → HasLog (chunk_first l c j) tail ws image
    → chunk_entries l image c j ≡ placed_in_chunk c j (scan_of ws).entries
entries_read l image c j tail ws whole fits has =
    let at = chunk_first l c j in
    let head : head_at l image at ≡ Ok (Log tail) = (λ i. head_by l (has.0 i) (has.1 i)) ∙ head_of l tail whole fits in
    let scan : scan_at l image at ≡ scan_of ws = ap (scan_behind image at) head ∙ ap scan_of has.2 in
    ap (λ (s : Scan). placed_in_chunk c j s.entries) scan

same_places : (p : ℕ) (es : List Entry) → with_places p es ≡ entries_from p es
same_places p [] = refl
same_places p (e ∷ es) = ap (λ (xs : List (ℕ × Entry)). (p, e) ∷ xs) (same_places (p + length (words_of e)) es)

-- The open chunk's words and entries in images.
module _ (s : State) (log : LogState) (stands : StandsIn s log) (some : is_some log.opened ≡ true) (telling : IsTelling s) where
  before_is : open_entries log (lasts s) ≡ placed_in_chunk log.part (open_number log) (scan_of (words_now s (open_first log) (open_tail log))).entries
  before_is =
      let is = open_chunk_of log stands.own some in
      entries_read log.layout (lasts s) log.part (open_number log) (open_tail log) (words_now s (open_first log) (open_tail log)) is.whole is.fits
      (log_reads s (open_first log) (chunk_words log.layout) (open_tail log) (open_lies s log stands some).tail_in (open_log s log stands some telling) (lasts s) (λ w low high. may_be_last (cell_now s w) (lasts s w) refl))

  lacks_entries : (image : ℕ → ℕ) → HasLog (open_first log) (open_tail log) (words_now s (open_first log) (open_tail log)) image → open_entries log image ≡ open_entries log (lasts s)
  lacks_entries image has =
      let is = open_chunk_of log stands.own some in
      entries_read log.layout image log.part (open_number log) (open_tail log) (words_now s (open_first log) (open_tail log)) is.whole is.fits has ∙ sym before_is

  module _ (ws : List ℕ) (es : List Entry) (words : ws ≡ flat_map words_of es) (batch : IsBatch es) (room : lines_for (length ws) ≤ room_of log) where
    pub has_entries : (image : ℕ → ℕ) → HasLog (open_first log) (open_tail log + length (padded ws)) (words_now s (open_first log) (open_tail log) ++ padded ws) image
        → HasEntries log (open_entries log (lasts s)) es image
    has_entries image has =
        let is = moved_chunk_of log stands.own some (length ws) room in
        let long = length-padded ws in
        let whole = is.whole in
        let fits = is.fits in
        let old = words_now s (open_first log) (open_tail log) in
        let spelled = open_spelled s log stands some telling in
        let read = entries_read log.layout image log.part (open_number log) (open_tail log + length (padded ws)) (old ++ padded ws) (omega (arith, long, whole)) (omega (arith, long, fits)) has in
        let same : padded ws ≡ batch_words es = ap padded words in
        let more : (scan_of (old ++ padded ws)).entries ≡ (scan_of old).entries ++ with_places (open_tail log) es =
        ap (λ (xs : List ℕ). (scan_of (old ++ xs)).entries) same
        ∙ ap (λ (sc : Scan). sc.entries) (scan-append old spelled.batches es spelled.spelled batch)
        ∙ ap (λ (n : ℕ). (scan_of old).entries ++ entries_from n es) (length-words (lasts s) (open_first log + 32) (open_tail log))
        ∙ ap (λ (xs : List (ℕ × Entry)). (scan_of old).entries ++ xs) (sym (same_places (open_tail log) es)) in
        read ∙ ap (placed_in_chunk log.part (open_number log)) more ∙ map-append _ (scan_of old).entries (with_places (open_tail log) es)
        ∙ ap (λ (xs : List PlacedEntry). xs ++ added_entries log es) (sym before_is)

    pub entries_or_lacks : (image : ℕ → ℕ) → HasOrLacks (open_first log) (open_tail log) (words_now s (open_first log) (open_tail log)) (padded ws) image
        → HasEntriesOrLacks log (open_entries log (lasts s)) es image
    entries_or_lacks image has = ⊎_elim (λ lacks. inl (lacks_entries image lacks)) (λ more. inr (has_entries image more)) has

-- at each moment
pub entries_run : (s t : State) (log : LogState) (ws : List ℕ) → StandsIn s log → is_some log.opened ≡ true → lines_for (length ws) ≤ room_of log
    → During s t (EachInOpen log (HasOrLacks (open_first log) (open_tail log) (words_now s (open_first log) (open_tail log)) (padded ws)))
    → (es : List Entry) → ws ≡ flat_map words_of es → IsBatch es → During s t (EachInOpen log (HasEntriesOrLacks log (open_entries log (lasts s)) es))
entries_run s t log ws stands some room run es words batch =
    weaken s t (EachInOpen log (HasOrLacks (open_first log) (open_tail log) (words_now s (open_first log) (open_tail log)) (padded ws))) (EachInOpen log (HasEntriesOrLacks log (open_entries log (lasts s)) es))
    (λ telling m each image may. entries_or_lacks s log stands some telling ws es words batch room image (each image may)) run

-- the log after the batch
module _ (s t : State) (log log' : LogState) (ws : List ℕ) (stands : StandsIn s log) (some : is_some log.opened ≡ true) (holds_told : IsTelling s → HoldsEntries ws) (room : lines_for (length ws) ≤ room_of log)
    (outside : During s t (KeepsOutside (cell_now s) (open_first log) (open_first log + chunk_words log.layout)))
    (app : IsTelling t → Appended s t (open_first log) (open_tail log) (padded ws))
    (log_is : log' ≡ record log { chunks = with_tail log.chunks (open_number log) (open_tail log + 8 * lines_for (length ws)) }) where
  told_before : IsTelling t → IsTelling s
  told_before telling = told_at_entry s t (KeepsOutside (cell_now s) (open_first log) (open_first log + chunk_words log.layout)) outside telling

  long : open_tail log + 8 * lines_for (length ws) ≡ open_tail log + length (padded ws)
  long = let e = length-padded ws in omega (arith, e)

  log_to : log' ≡ record log { chunks = with_tail log.chunks (open_number log) (open_tail log + length (padded ws)) }
  log_to = log_is ∙ ap (λ (n : ℕ). record log { chunks = with_tail log.chunks (open_number log) n }) long

  spells : IsTelling t → Spelled (words_now t (open_first log) (open_tail log + length (padded ws)))
  spells telling =
      let was = open_spelled s log stands some (told_before telling) in
      let holds = holds_told (told_before telling) in
      let same : padded ws ≡ batch_words holds.entries = ap padded holds.words in
      let words : words_now t (open_first log) (open_tail log + length (padded ws)) ≡ words_now s (open_first log) (open_tail log) ++ batch_words holds.entries =
      (app telling).words_are ∙ ap (λ (xs : List ℕ). words_now s (open_first log) (open_tail log) ++ xs) same in
      subst Spelled (sym words) (record { batches = was.batches ++ holds.entries ∷ []; spelled = spells-append (words_now s (open_first log) (open_tail log)) was.batches holds.entries was.spelled holds.batch })

  own_after : IsOwn (record log { chunks = with_tail log.chunks (open_number log) (open_tail log + length (padded ws)) })
  own_after = own_set log (open_number log) (open_tail log + length (padded ws)) stands.own
      (subst (λ (n : ℕ). IsChunkOf log.layout (chunk_with (open_number log) n)) long (moved_chunk_of log stands.own some (length ws) room))

  pub after_batch : AppendedBatch s t log log' (padded ws)
  after_batch = record {
    stands = subst (StandsIn t) (sym log_to)
        (stands_set s t log (open_number log) (open_tail log + length (padded ws)) stands outside (λ telling. (app telling).is_log) spells log.opened own_after);
    log_is = log_to;
    has = λ telling image may.
        let words = room_words log stands.own some (length ws) room in
        let e = long in
        let read = log_reads t (open_first log) (chunk_words log.layout) (open_tail log + length (padded ws)) (omega (arith, words, e)) (app telling).is_log image may in
        (read.0, read.1, read.2 ∙ (app telling).words_are);
  }
