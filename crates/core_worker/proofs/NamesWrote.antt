-- Once a batch is certain, what stands in the own log by its region is what the view has there.
use Rattle.std.proofs.Common.{◌≡◌, ℕ, ◌+◌, ◌<◌, ◌&&◌, nat_le, not, eqb, Bool, true, false, cond, List, [], ◌∷◌, ◌++◌, length, Option, Some, None, is_some, inr, refl, sym, ◌∙◌, ap, subst, arith}
use Rattle.std.specs.List.{flat_map, AllByRecursion}
use Rattle.pm_region.specs.State.{State, IsTelling, During, cell_now}
use Rattle.pm_region.specs.Words.{KeepsOutside}
use Rattle.pm_region.proofs.Clients.{told_at_entry}
use Rattle.chunk_map.specs.declared.layouts.Geometry.{Geometry}
use Rattle.chunk_map.specs.Layouts.{chunk_words}
use Rattle.log_entry.specs.declared.entry.Entry.{Entry}
use Rattle.log_entry.specs.Spelling.{words_of}
use Rattle.log_entry.specs.Batches.{IsBatch}
use Rattle.store_image.specs.Facts.{In}
use Rattle.core_log.specs.Chunk.{padded}
use Rattle.core_log.specs.Entries.{AppendedBatch}
use Rattle.core_log.specs.Log.{LogState, StandsIn, tail_of, open_number, open_first, open_tail}
use Rattle.core_log.specs.Walking.{IsBetween, entries_in, behind}
use Rattle.core_log.proofs.Clients.{tail_other}
use Rattle.lazy_alloc.specs.Sets.{Sets}
use Rattle.log_standing.specs.declared.types.Amount.{Amount}
use Rattle.log_standing.specs.NameCounts.{StandingState, count_of, floor_at, floor_in, wants}
use Rattle.log_standing.specs.ChunkCounts.{has_name}
use Rattle.log_cleaner.specs.Additions.{is_among, Lacks}
use Rattle.log_cleaner.specs.Copying.{awaits, left_to_copy}
use Rattle.log_cleaner.specs.Floors.{IsCounted}
use Rattle.log_cleaner.proofs.FloorLaws.{SameSpot, all_in, floor_kept, seen_kept}
use Rattle.log_cleaner.proofs.Added.{new_lacks}
use Rattle.log_cleaner.proofs.LessLaws.{filter_same_in}
use Rattle.log_cleaner.proofs.Parts.{in_named}
use Rattle.group_laws.specs.Places.{Place}
use Rattle.group_laws.specs.MemberViews.{View}
use Rattle.group_board.specs.Assurances.{LacksName}
use Rattle.batch_leader.specs.Leading.{AreNamedApart}
use Rattle.batch_leader.specs.Persisting.{opened_for}
use Rattle.core_worker.specs.declared.worker.Worker.{Worker}
use Rattle.core_worker.specs.StandingTies.{named_in, AddsNames}
use Rattle.core_worker.specs.Counted.{MayOpen}
use Rattle.log_cleaner.specs.Clearing.{ClearingState}
use Rattle.core_worker.specs.declared.types.Cleaning.{Cleaning}
use Rattle.core_worker.specs.declared.types.Cleaning.TheVariants.{Nothing}
use Rattle.core_worker.specs.Supplies.{under_way}
use Rattle.core_worker.specs.LogNames.{NamesStand, IsCleanedBy, IsClosed}
use Rattle.core_worker.specs.Ties.{Holds, Stands}
use Rattle.core_worker.specs.Turns.{TakesChunkIf}
use Rattle.core_worker.specs.Supplies.{left_in}
use Rattle.core_worker.proofs.UnderWay.{nothing_raw}
use Rattle.core_worker.proofs.CleaningKept.{runs_way}
use Rattle.core_worker.proofs.NamesAdded.{one_if}
use Rattle.core_worker.proofs.NamesKnown.{knows_added}
use Rattle.core_worker.proofs.Counted.{counted, once, fresh, other_open, still_has, still_closed, else_same}
use Rattle.core_worker.proofs.Writing.{taken_free}

in_behind : (place : ℕ) (xs : List (ℕ × Entry)) (y : ℕ × Entry) → In y (behind place xs) → In y xs
in_behind place [] y i = i
in_behind place (x ∷ xs) y i = by (nat_le place x.0) (λ j. in_behind place xs y j) i where
  by : (b : Bool) → (In y (behind place xs) → In y xs) → In y (cond b (x ∷ xs) (behind place xs)) → In y (x ∷ xs)
  by true more i = i
  by false more i = inr (more i)

-- of a chunk that lacks the names just as much is left to be copied
module _ (es : List Entry) (old new : StandingState) (apart : AreNamedApart es) (adds : AddsNames old new es) (xs : List (ℕ × Entry)) (lacks : Lacks xs es) where
  wants_same : (k n : ℕ) → has_name xs k n ≡ true → wants new k n ≡ wants old k n
  wants_same k n has = by (is_among es k n) refl where
    by : (b : Bool) → is_among es k n ≡ b → wants new k n ≡ wants old k n
    by true is = absurd (let both : true ≡ false = sym has ∙ lacks k n is in cc both)
    by false isnt =
        let none : named_in es k n ≡ 0 = once es apart k n ∙ ap one_if isnt in
        let c = adds.counts k n in
        let count : count_of new k n ≡ count_of old k n = omega (arith, c, none) in
        (λ i. eqb (count i) 1 && not (adds.told k n i))

  left_same : (ys : List (ℕ × Entry)) → ((y : ℕ × Entry) → In y ys → In y xs) → left_to_copy new ys ≡ left_to_copy old ys
  left_same ys among = filter_same_in (awaits new) (awaits old) ys (λ y is. wants_same y.1.key y.1.version (in_named xs y (among y is)))

-- what a search has counted of a chunk that lacks the names
counted_added : (es : List Entry) (old new : StandingState) → AreNamedApart es → AddsNames old new es → (xs : List (ℕ × Entry)) → Lacks xs es → (j : ℕ) (a : Amount) → IsCounted old j a xs → IsCounted new j a xs
counted_added es old new apart adds xs lacks j a was = record {
  seen = seen_kept old new j xs (λ k n untold. sym (adds.told k n) ∙ untold) (all_in (SameSpot old new) xs (λ y is. adds.spots y.1.key y.1.version (none_of y.1.key y.1.version (in_named xs y is)))) was.seen;
  floor = floor_kept a old new xs (left_same es old new apart adds xs lacks xs (λ y is. is)) was.floor;
} where
  none_of : (k n : ℕ) → has_name xs k n ≡ true → named_in es k n ≡ 0
  none_of k n has = by (is_among es k n) refl where
    by : (b : Bool) → is_among es k n ≡ b → named_in es k n ≡ 0
    by true is = absurd (let both : true ≡ false = sym has ∙ lacks k n is in cc both)
    by false isnt = once es apart k n ∙ ap one_if isnt

module _ (m : ℕ) (present : ℕ → ℕ → Option ℕ) (told dead : ℕ → ℕ → Bool) (s t : State) (log log' : LogState) (o : Option ℕ) (es kept : List Entry) (old new : StandingState) (stands : StandsIn s log) (may : MayOpen log o) (batch : IsBatch es)
    (appended : AppendedBatch s t (opened_for log o) log' (padded (flat_map words_of es))) (outside : During s t (KeepsOutside (cell_now s) (open_first (opened_for log o)) (open_first (opened_for log o) + chunk_words log.layout)))
    (o' : Option ClearingState) (c : Cleaning) (N : NamesStand s m kept present told dead log old o' c) (none : c ≡ Nothing) (each : AllByRecursion (LacksName kept) es) (apart : AreNamedApart es) (adds : AddsNames old new es) (telling_s : IsTelling s) (telling : IsTelling t) where
  lacking : (i : ℕ) → is_some (tail_of log.chunks i) ≡ true → Lacks (entries_in s log i) es
  lacking = new_lacks s log old es N.counted.counts (fresh s t log log' o es kept old new stands may batch appended outside N.counted.counts N.knows.stands each apart adds telling_s telling)

  stays_closed : (j : ℕ) → IsClosed log j → IsClosed log' j
  stays_closed j was = let ne = other_open log o may j was.has was.closed in record {
    has = ap (λ (l : LogState). is_some (tail_of l.chunks j)) appended.log_is ∙ ap is_some (tail_other (opened_for log o).chunks (open_number (opened_for log o)) (open_tail (opened_for log o) + length (padded (flat_map words_of es))) j ne) ∙ still_has log o j ne was.has;
    closed = λ same. still_closed log o j ne was.closed (sym (ap (λ (l : LogState). l.opened) appended.log_is) ∙ same);
  }

  floor_was : (j : ℕ) → is_some (floor_at new j) ≡ true → is_some (floor_at old j) ≡ true
  floor_was j some = ap (λ (fs : List (Option Amount)). is_some (floor_in fs j)) (sym adds.floors) ∙ some

  pub names_wrote : NamesStand t m (kept ++ es) present told dead log' new o' c
  names_wrote = record {
    counted = record {
      counts = counted s t log log' o es kept old new stands may batch appended outside N.counted.counts N.knows.stands each apart adds telling_s telling;
      settled = λ h at.
          let was = N.counted.settled h (sym adds.settled ∙ at) in
          let closed = N.read h (sym adds.settled ∙ at) in
          let xs = entries_in s log h.chunk in
          let there : entries_in t log' h.chunk ≡ entries_in s log h.chunk = else_same s t log log' o es stands may batch appended outside telling_s telling h.chunk closed.has closed.closed in
          let less = lacking h.chunk closed.has in
          record {
            between = subst (λ (ys : List (ℕ × Entry)). IsBetween h.place ys) (sym there) was.between;
            none = subst (λ (ys : List (ℕ × Entry)). left_to_copy new ys ≡ left_to_copy new (behind h.place ys)) (sym there)
                (left_same es old new apart adds xs less xs (λ y i. i) ∙ was.none ∙ sym (left_same es old new apart adds xs less (behind h.place xs) (in_behind h.place xs)));
          };
    };
    read = λ h at. stays_closed h.chunk (N.read h (sym adds.settled ∙ at));
    floors = record {
      closed = λ j some. stays_closed j (N.floors.closed j (floor_was j some));
      counted = λ j a is.
          let at : floor_at old j ≡ Some a = ap (λ (fs : List (Option Amount)). floor_in fs j) (sym adds.floors) ∙ is in
          let closed = N.floors.closed j (ap is_some at) in
          subst (IsCounted new j a) (sym (else_same s t log log' o es stands may batch appended outside telling_s telling j closed.has closed.closed))
          (counted_added es old new apart adds (entries_in s log j) (lacking j closed.has) j a (N.floors.counted j a at));
    };
    knows = knows_added m kept es present told dead old new adds N.knows;
    cleaned = subst (λ (d : Cleaning). IsCleanedBy t log' new o' d) (sym none) tt;
  }

-- the same by a worker's ties
module _ (s t : State) (p : Place) (m : ℕ) (v : View) (w : Worker) (a : Sets) (log' : LogState) (f : Bool) (o : Option ℕ) (es : List Entry) (H : Holds p m v w) (S : Stands s p m v w) (runs : w.stopped ≡ false) (takes : TakesChunkIf f w.allocator a o)
    (chunk : During s t (KeepsOutside (cell_now s) (open_first (opened_for w.log o)) (open_first (opened_for w.log o) + chunk_words w.log.layout)))
    (wrote : AppendedBatch s t (opened_for w.log o) log' (padded (flat_map words_of es))) (opened : o ≡ None → is_some w.log.opened ≡ true) (st : StandingState) (batch : IsBatch es) (flying : v.flying ≡ es) (each : AllByRecursion (LacksName v.kept) es) (apart : AreNamedApart es) (clean : under_way w ≡ Nothing) where
  may_open : IsTelling s → MayOpen w.log o
  may_open telling = by o takes opened where
    by : (o : Option ℕ) → TakesChunkIf f w.allocator a o → (o ≡ None → is_some w.log.opened ≡ true) → MayOpen w.log o
    by None t some = some refl
    by (Some j) t some =
        let free = taken_free f w.allocator a j t in
        (subst (λ (l : Geometry). j < l.chunks) (H.allocator_layout ∙ sym H.log_layout) (H.sets.free_in j free).0, (S.free runs j free telling).0)

  pub batch_stood : (w.winds_down ≡ false → AddsNames w.standing st es) → w.winds_down ≡ false → IsTelling t → NamesStand t m (v.kept ++ v.flying) v.present v.told v.dead log' st w.clearing w.cleaning
  batch_stood adds on telling =
      let before = told_at_entry s t (KeepsOutside (cell_now s) (open_first (opened_for w.log o)) (open_first (opened_for w.log o) + chunk_words w.log.layout)) chunk telling in
      subst (λ (xs : List Entry). NamesStand t m (v.kept ++ xs) v.present v.told v.dead log' st w.clearing w.cleaning) (sym flying)
      (names_wrote m v.present v.told v.dead s t w.log log' o es v.kept w.standing st (S.log runs) (may_open before) batch wrote chunk w.clearing w.cleaning (S.names runs on before) (nothing_raw (left_in w.standing) w.cleaning (sym (runs_way w runs on) ∙ clean)) each apart (adds on) before telling)
