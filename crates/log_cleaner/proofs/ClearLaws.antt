-- A chunk with nothing left to copy is made Free.
use Rattle.std.proofs.Common.{◌≡◌, ◌≢◌, inl, inr, ⊎_elim, ℕ, ◌+◌, ◌≤◌, ◌<◌, ◌==◌, ◌&&◌, not, Bool, true, false, cond, List, [], ◌∷◌, map, length, take, Option, Some, None, is_some, refl, sym, ◌∙◌, ap, subst, arith}
use Rattle.std.specs.List.{AllByRecursion, filter, count_by}
use Rattle.std.proofs.lemmas.Bool.{cond-true, cond-false, eqb-true, eq-eqb, ne_eqb, and_parts, cases_eq}
use Rattle.pm_region.specs.Cell.{Cell}
use Rattle.pm_region.specs.State.{State, IsTelling, cell_now, During}
use Rattle.pm_region.specs.Words.{KeepsOutside, MayLeaveIn, lasts}
use Rattle.pm_region.proofs.Clients.{weaken, both, told_at_entry}
use Rattle.chunk_map.specs.Layouts.{chunk_words, part_first}
use Rattle.chunk_map.proofs.Clients.{numbers_of, chunk_words_whole, chunks_apart, chunk_in_part}
use Rattle.log_entry.specs.declared.entry.Entry.{Entry}
use Rattle.store_image.specs.declared.types.PlacedEntry.{PlacedEntry}
use Rattle.store_image.specs.Parts.{chunk_entries, placed_in_chunk, chunk_reads}
use Rattle.core_log.specs.Chunk.{words_now, FreeOrLog}
use Rattle.core_log.proofs.Clients.{is_tail, tail_fits, without_other, without_self}
use Rattle.store_image.specs.Facts.{In}
use Rattle.core_log.specs.declared.types.LogChunk.{LogChunk}
use Rattle.core_log.specs.Log.{LogState, StandsIn, tail_of, without, tail_in, first_of, chunk_with}
use Rattle.core_log.specs.Walking.{entries_in}
use Rattle.core_log.specs.Opening.{EachInChunk}
use Rattle.core_log.specs.Retiring.{HasSameOrNone, RetiredChunk}
use Rattle.log_entry.specs.Spelling.{words_of}
use Rattle.log_standing.specs.declared.types.Amount.{Amount}
use Rattle.log_standing.specs.declared.types.Copies.{Copies}
use Rattle.log_standing.proofs.Clients.{same_name}
use Rattle.log_standing.specs.NameCounts.{StandingState, copies_at, count_in, count_of, floor_at, is_told, one_fewer, spot_in, spot_of, times_in, told_in, bit}
use Rattle.log_cleaner.specs.Dropping.{lowered, Drops}
use Rattle.log_standing.specs.ChunkCounts.{has_name, is_named, chunks_with, IsStandingOf}
use Rattle.log_cleaner.specs.Copying.{awaits, left_to_copy}
use Rattle.log_cleaner.specs.Clearing.{ClearingState, is_doomed, IsGathered}
use Rattle.log_cleaner.specs.ImagesBeside.{Stands, EachInPart, LosesOnly, AgreesIn, Vanish}
use Rattle.log_cleaner.specs.Floors.{AreSeen, HasFloors, IsCounted, IsFoundIn}
use Rattle.log_cleaner.proofs.FloorLaws.{all_in, both_so, each_so, in_taken, more_sums, none_named, sum_ones}
use Rattle.log_cleaner.proofs.Parts.{StandsAt, part_has, part_in, placed_in, placed_has, name_in, in_named, count_has, Another, another, count_without, count_same, chunk_of, chunk_lasts, was, was_may, was_outside, reads_kept, blocks_kept, free_well, log_well, same_else, was_chunk, image_chunk, entries_still}

pub filter_has : {X : Type 0} (p : X → Bool) (xs : List X) (x : X) → In x xs → p x ≡ true → filter p xs ≡ [] → ⊥
filter_has p [] x is passes none = is
filter_has p (y ∷ ys) x is passes none = ⊎_elim
    (λ here. absurd (cc (sym (cond-true (p y) (y ∷ filter p ys) (filter p ys) (ap p (sym here) ∙ passes)) ∙ none)))
    (λ later. elim (p y) as (λ b. cond b (y ∷ filter p ys) (filter p ys) ≡ [] → ⊥) [
      | true ↦ λ e. absurd (cc e)
      | false ↦ λ e. filter_has p ys x later passes e
    ] none) is

-- one copy less
less_by_one : (o : Option Copies) → 0 < count_in o → count_in (lowered o) + 1 ≡ count_in o
less_by_one None some = absurd (omega (arith, some))
less_by_one (Some c) some = elim (c.count == 1) as (λ b. (c.count == 1) ≡ b → count_in (cond b None (Some (one_fewer c))) + 1 ≡ c.count) [
  | true ↦ λ is. let e = eqb-true c.count 1 is in omega (arith, e)
  | false ↦ λ isnt. omega (arith, some)
] refl

module _ (s : State) (log : LogState) (st : StandingState) (c : ClearingState) (stands : StandsIn s log) (has : is_some (tail_of log.chunks c.chunk) ≡ true)
    (gathered : IsTelling s → IsGathered st (entries_in s log c.chunk) c) (copied : IsTelling s → left_to_copy st (entries_in s log c.chunk) ≡ [])
    (standing : IsTelling s → IsStandingOf s log st) (agrees : IsTelling s → AgreesIn s log) where
  -- whether a chunk has a name
  abbrev has_at : ℕ → ℕ → ℕ → Bool
  has_at k v i = has_name (entries_in s log i) k v

  -- An entry of the chunk that doesn't vanish stands in another chunk too.
  module _ (telling : IsTelling s) (x : ℕ × Entry) (here : In x (entries_in s log c.chunk)) (stays : times_in c.doomed x.1.key x.1.version ≡ 0) where
    some : 0 < count_of st x.1.key x.1.version
    some = let e = standing telling x.1.key x.1.version in let n = count_has (has_at x.1.key x.1.version) log.chunks c.chunk has (in_named (entries_in s log c.chunk) x here) in omega (arith, e, n)

    not_one : count_of st x.1.key x.1.version ≢ 1
    not_one one = elim (is_told st x.1.key x.1.version) as (λ b. is_told st x.1.key x.1.version ≡ b → ⊥) [
      | true ↦ λ told.
          let e : times_in c.doomed x.1.key x.1.version ≡ 1 = (gathered telling).doomed x.1.key x.1.version
          ∙ (λ i. bit (in_named (entries_in s log c.chunk) x here i && (told i && eq-eqb (count_of st x.1.key x.1.version) 1 one i))) in
          omega (arith, e, stays)
      | false ↦ λ untold. filter_has (awaits st) (entries_in s log c.chunk) x here (λ i. eq-eqb (count_of st x.1.key x.1.version) 1 one i && not (untold i)) (copied telling)
    ] refl

    pub two : 1 < count_of st x.1.key x.1.version
    two = let a = some in let b = not_one in ⊎_elim (λ (one : count_of st x.1.key x.1.version ≡ 1). absurd (b one)) (λ (ne : count_of st x.1.key x.1.version ≢ 1). omega (arith, a, ne)) (cases_eq (count_of st x.1.key x.1.version) 1)

    other : Another (has_at x.1.key x.1.version) log.chunks c.chunk
    other = let n = two in let e = standing telling x.1.key x.1.version in another (has_at x.1.key x.1.version) log.chunks 0 c.chunk stands.own.rising (omega (arith, n, e))

    -- in an image that has the other chunks' entries
    pub still_stands : (image : ℕ → ℕ) → ((k : ℕ) → k ≢ c.chunk → is_some (tail_of log.chunks k) ≡ true → chunk_entries log.layout image log.part k ≡ placed_in_chunk log.part k (entries_in s log k)) → Stands log image x.1
    still_stands image else_ =
        let a = other in
        let n = name_in (entries_in s log a.chunk) x.1.key x.1.version a.passes in
        let same : n.found.1 ≡ x.1 = agrees telling a.chunk c.chunk n.found x a.has has n.here here n.key n.version in
        let at : StandsAt log image a.chunk n.found.1 = subst (λ (es : List PlacedEntry). In n.found.1 (map (λ (y : PlacedEntry). y.entry) es)) (sym (else_ a.chunk a.other a.has)) (placed_has log.part a.chunk (entries_in s log a.chunk) n.found n.here) in
        subst (Stands log image) same (part_has log image a.chunk n.found.1 (chunk_of s log stands a.chunk a.has).within at)

  low : first_of log c.chunk ≤ first_of log c.chunk
  low = omega arith

  high : first_of log c.chunk + 8 ≤ first_of log c.chunk + chunk_words log.layout
  high = let size = chunk_words_whole log.layout (numbers_of log.layout stands.own.layout).size in let big = size.2 in omega (arith, big)

  module _ (telling : IsTelling s) (m : ℕ → Cell) (each : EachInChunk log c.chunk (HasSameOrNone s log c.chunk) m)
      (free : EachInChunk log c.chunk (FreeOrLog (first_of log c.chunk) (tail_in log c.chunk) (words_now s (first_of log c.chunk) (tail_in log c.chunk))) m) (kept : KeepsOutside (cell_now s) (first_of log c.chunk) (first_of log c.chunk + 8) m)
      (image : ℕ → ℕ) (may : MayLeaveIn m (part_first log.layout log.part) (part_first log.layout (log.part + 1)) image) where
    before : ℕ → ℕ
    before = was s log stands c.chunk (first_of log c.chunk) (first_of log c.chunk + 8) low high m kept image may

    here_is : HasSameOrNone s log c.chunk image
    here_is = let inside = chunk_in_part log.layout log.part c.chunk (chunk_of s log stands c.chunk has).within in each image (λ w ge lt. may w (omega (arith, ge, inside)) (omega (arith, lt, inside)))

    before_chunk : chunk_entries log.layout before log.part c.chunk ≡ placed_in_chunk log.part c.chunk (entries_in s log c.chunk)
    unfolding before
    before_chunk = was_chunk s log stands c.chunk (first_of log c.chunk) (first_of log c.chunk + 8) low high m kept image may telling c.chunk has

    else_same : (k : ℕ) → k ≢ c.chunk → chunk_entries log.layout image log.part k ≡ chunk_entries log.layout before log.part k
    unfolding before
    else_same = same_else s log stands c.chunk (first_of log c.chunk) (first_of log c.chunk + 8) low high m kept image may

    abbrev entry_in : Entry → List PlacedEntry → Type 0
    entry_in e es = In e (map (λ (y : PlacedEntry). y.entry) es)

    only : (e : Entry) → Stands log image e → Stands log before e
    only e is =
        let p = part_in log image e is in
        ⊎_elim
        (λ (at : p.chunk ≡ c.chunk).
        let there : StandsAt log image c.chunk e = subst (λ (k : ℕ). StandsAt log image k e) at p.at in
        ⊎_elim
        (λ (same : chunk_entries log.layout image log.part c.chunk ≡ chunk_entries log.layout (lasts s) log.part c.chunk).
        part_has log before c.chunk e (chunk_of s log stands c.chunk has).within (subst (entry_in e) (same ∙ chunk_lasts s log stands c.chunk has telling ∙ sym before_chunk) there))
        (λ (none : chunk_entries log.layout image log.part c.chunk ≡ []). absurd (subst (entry_in e) none there))
        here_is)
        (λ (ne : p.chunk ≢ c.chunk). part_has log before p.chunk e p.in_part (subst (entry_in e) (else_same p.chunk ne) p.at))
        (cases_eq p.chunk c.chunk)

    has_still : (e : Entry) → Stands log before e → times_in c.doomed e.key e.version ≡ 0 → Stands log image e
    unfolding before
    has_still e is stays =
        let p = part_in log before e is in
        ⊎_elim
        (λ (at : p.chunk ≡ c.chunk).
        let there : StandsAt log before c.chunk e = subst (λ (k : ℕ). StandsAt log before k e) at p.at in
        let a = placed_in log.part c.chunk (entries_in s log c.chunk) e (subst (entry_in e) before_chunk there) in
        subst (Stands log image) (sym a.is) (still_stands telling a.found a.here (sym (ap (λ (f : Entry). times_in c.doomed f.key f.version) a.is) ∙ stays) image (image_chunk s log stands c.chunk (first_of log c.chunk) (first_of log c.chunk + 8) low high m kept image may telling)))
        (λ (ne : p.chunk ≢ c.chunk). part_has log image p.chunk e p.in_part (subst (entry_in e) (sym (else_same p.chunk ne)) p.at))
        (cases_eq p.chunk c.chunk)

    well : chunk_reads log.layout image (first_of log c.chunk) ≡ true
    well =
        let is = chunk_of s log stands c.chunk has in
        let inside = chunk_in_part log.layout log.part c.chunk is.within in
        ⊎_elim (λ none. free_well log.layout image (first_of log c.chunk) none)
        (λ same. log_well log.layout image (first_of log c.chunk) (tail_in log c.chunk) (words_now s (first_of log c.chunk) (tail_in log c.chunk)) is.whole is.fits same (stands.spelled telling c.chunk (tail_in log c.chunk) (is_tail (tail_of log.chunks c.chunk) has)))
        (free image (λ w ge lt. may w (omega (arith, ge, inside)) (omega (arith, lt, inside))))

    pub loses : LosesOnly s log c.chunk c.doomed image
    unfolding before
    loses = record {
      before = before;
      beside = record {
        may = was_may s log stands c.chunk (first_of log c.chunk) (first_of log c.chunk + 8) low high m kept image may;
        outside = was_outside s log stands c.chunk (first_of log c.chunk) (first_of log c.chunk + 8) low high m kept image may;
        reads = reads_kept s log stands c.chunk (first_of log c.chunk) (first_of log c.chunk + 8) low high m kept image may well;
        blocks = blocks_kept s log stands c.chunk (first_of log c.chunk) (first_of log c.chunk + 8) low high m kept image may telling has;
        only = only;
      };
      has = has_still;
    }

  pub clear_parts : (t : State) → During s t (EachInChunk log c.chunk (HasSameOrNone s log c.chunk)) → During s t (EachInChunk log c.chunk (FreeOrLog (first_of log c.chunk) (tail_in log c.chunk) (words_now s (first_of log c.chunk) (tail_in log c.chunk))))
      → During s t (KeepsOutside (cell_now s) (first_of log c.chunk) (first_of log c.chunk + 8)) → During s t (EachInPart log (LosesOnly s log c.chunk c.doomed))
  clear_parts t each free outside =
      let E : (ℕ → Cell) → Type 0 = EachInChunk log c.chunk (HasSameOrNone s log c.chunk) in
      let F : (ℕ → Cell) → Type 0 = EachInChunk log c.chunk (FreeOrLog (first_of log c.chunk) (tail_in log c.chunk) (words_now s (first_of log c.chunk) (tail_in log c.chunk))) in
      let K : (ℕ → Cell) → Type 0 = KeepsOutside (cell_now s) (first_of log c.chunk) (first_of log c.chunk + 8) in
      weaken s t (λ m. (E m × F m) × K m) (EachInPart log (LosesOnly s log c.chunk c.doomed))
      (λ telling m is image may. loses telling m is.0.0 is.0.1 is.1 image may)
      (both s t (λ m. E m × F m) K (both s t E F each free) outside)

  -- The names afterwards.
  module _ (t : State) (log' : LogState) (new : StandingState) (retired : RetiredChunk t log log' c.chunk) (outside : During s t (KeepsOutside (cell_now s) (first_of log c.chunk) (first_of log c.chunk + 8)))
      (drops : Drops st new c.names) (telling_t : IsTelling t) where
    telling : IsTelling s
    telling = told_at_entry s t (KeepsOutside (cell_now s) (first_of log c.chunk) (first_of log c.chunk + 8)) outside telling_t

    chunks_are : log'.chunks ≡ without log.chunks c.chunk
    chunks_are = ap (λ (l : LogState). l.chunks) retired.log_is

    left_in : (i : ℕ) → is_some (tail_of (without log.chunks c.chunk) i) ≡ true → i ≢ c.chunk
    left_in i some at = let none : tail_of (without log.chunks c.chunk) i ≡ None = ap (tail_of (without log.chunks c.chunk)) at ∙ without_self log.chunks 0 c.chunk stands.own.rising in absurd (cc (sym (ap is_some none) ∙ some))

    still_has : (i : ℕ) → is_some (tail_of (without log.chunks c.chunk) i) ≡ true → entries_in t log' i ≡ entries_in s log i
    still_has i some =
        let ne = left_in i some in
        let same = without_other log.chunks c.chunk i ne in
        let was_some : is_some (tail_of log.chunks i) ≡ true = ap is_some (sym same) ∙ some in
        let fits = (tail_fits log.layout stands.own.layout (chunk_with i (tail_in log i)) (chunk_of s log stands i was_some)).0 in
        let up = high in
        entries_still s t log log' i (first_of log c.chunk) (first_of log c.chunk + 8) outside telling_t (ap (λ (l : LogState). l.layout) retired.log_is) (ap (λ (l : LogState). l.part) retired.log_is)
        (ap (λ (cs : List LogChunk). tail_of cs i) chunks_are ∙ same)
        (λ w ge lt. ⊎_elim (λ a. inl (omega (arith, a, lt, fits))) (λ b. inr (omega (arith, b, ge, up))) (chunks_apart log.layout log.part i c.chunk ne))

    fewer : (k v : ℕ) → chunks_with t log' k v + cond (has_at k v c.chunk) 1 0 ≡ chunks_with s log k v
    fewer k v =
        let a = ap (λ (cs : List LogChunk). count_by (λ (x : LogChunk). has_name (entries_in t log' x.chunk) k v) cs) chunks_are in
        let b = count_same (λ (i : ℕ). has_name (entries_in t log' i) k v) (has_at k v) (without log.chunks c.chunk) (λ i some. ap (λ (es : List (ℕ × Entry)). has_name es k v) (still_has i some)) in
        let d = count_without (has_at k v) log.chunks c.chunk has in
        omega (arith, a, b, d)

    count_less : (k v : ℕ) → count_of new k v + cond (has_at k v c.chunk) 1 0 ≡ count_of st k v
    count_less k v = elim (has_at k v c.chunk) as (λ b. has_at k v c.chunk ≡ b → count_of new k v + cond b 1 0 ≡ count_of st k v) [
      | true ↦ λ is.
          let one = (gathered telling).names k v ∙ ap bit is in
          let n = standing telling k v in
          let some = count_has (has_at k v) log.chunks c.chunk has is in
          let dropped = drops k v ∙ cond-false (times_in c.names k v == 0) (copies_at st k v) (lowered (copies_at st k v)) (ne_eqb (times_in c.names k v) 0 (λ zero_is. omega (arith, one, zero_is))) in
          let less = less_by_one (copies_at st k v) (omega (arith, n, some)) in
          let e = ap count_in dropped in
          omega (arith, e, less)
      | false ↦ λ isnt.
          let none = (gathered telling).names k v ∙ ap bit isnt in
          let e = ap count_in (drops k v ∙ cond-true (times_in c.names k v == 0) (copies_at st k v) (lowered (copies_at st k v)) (eq-eqb (times_in c.names k v) 0 none)) in
          omega (arith, e)
    ] refl

    pub clear_standing : IsStandingOf t log' new
    clear_standing k v = let a = count_less k v in let b = fewer k v in let n = standing telling k v in omega (arith, a, b, n)

    gone_one : (b d : Bool) → 0 < bit (b && d) → (b ≡ true) × (d ≡ true)
    gone_one true true lt = (refl, refl)
    gone_one true false lt = absurd (omega (arith, lt))
    gone_one false d lt = absurd (omega (arith, lt))

    pub clear_vanish : Vanish s t log log' c.doomed
    clear_vanish = record {
      gone = λ k v lt.
          let d = (gathered telling).doomed k v in
          let parts = gone_one (has_at k v c.chunk) (is_doomed st k v) (omega (arith, d, lt)) in
          let one = eqb-true (count_of st k v) 1 (and_parts (is_told st k v) (count_of st k v == 1) parts.1).1 in
          let b = fewer k v ∙ sym (standing telling k v) in
          let e = ap {B = ℕ} (λ (q : Bool). cond q 1 0) parts.0 in
          omega (arith, b, one, e);
      stays = λ k v none some.
          elim (has_at k v c.chunk) as (λ b. has_at k v c.chunk ≡ b → 0 < chunks_with t log' k v) [
            | true ↦ λ is.
                let n = name_in (entries_in s log c.chunk) k v is in
                let more = two telling n.found n.here ((λ i. times_in c.doomed (n.key i) (n.version i)) ∙ none) in
                let same : count_of st n.found.1.key n.found.1.version ≡ count_of st k v = λ i. count_of st (n.key i) (n.version i) in
                let b = fewer k v ∙ sym (standing telling k v) in
                let e = ap {B = ℕ} (λ (q : Bool). cond q 1 0) is in
                let m : count_of st n.found.1.key n.found.1.version ≡ count_of st k v = same in
                omega (arith, b, more, e, m)
            | false ↦ λ isnt. let b = fewer k v in let e = ap {B = ℕ} (λ (q : Bool). cond q 1 0) isnt in omega (arith, b, e, some)
          ] refl;
    }

    -- What a search has counted of the other chunks.
    module _ (forgot : (i : ℕ) → floor_at new i ≡ cond (c.chunk == i) None (floor_at st i)) (floors : HasFloors s log st) where
      other_chunk : (i : ℕ) (a : Amount) → floor_at new i ≡ Some a → (i ≢ c.chunk) × (floor_at st i ≡ Some a)
      other_chunk i a is = by (c.chunk == i) refl where
        by : (b : Bool) → (c.chunk == i) ≡ b → (i ≢ c.chunk) × (floor_at st i ≡ Some a)
        by true here = absurd (let e : Some a ≡ None = sym is ∙ forgot i ∙ cond-true (c.chunk == i) None (floor_at st i) here in cc e)
        by false isnt = (
          λ e. absurd (let both : true ≡ false = sym (eq-eqb c.chunk i (sym e)) ∙ isnt in cc both),
          sym (forgot i ∙ cond-false (c.chunk == i) None (floor_at st i) isnt) ∙ is,
        )

      -- the chunk stays, and has the entries that it had
      module _ (i : ℕ) (ne : i ≢ c.chunk) (there : is_some (tail_of log.chunks i) ≡ true) where
        abbrev es : List (ℕ × Entry)
        es = entries_in s log i

        stays_there : is_some (tail_of (without log.chunks c.chunk) i) ≡ true
        stays_there = ap is_some (without_other log.chunks c.chunk i ne) ∙ there

        -- a name of it that stands in the chunk that was given up has another copy
        two_copies : (k v : ℕ) → has_name es k v ≡ true → has_at k v c.chunk ≡ true → 1 < count_of st k v
        unfolding stays_there
        two_copies k v here also =
            let n = standing telling k v in
            let d = count_without (has_at k v) log.chunks c.chunk has in
            let e = ap {B = ℕ} (λ (b : Bool). cond b 1 0) also in
            let m = count_has (has_at k v) (without log.chunks c.chunk) i stays_there here in
            omega (arith, n, d, e, m)

        record Alike (k v : ℕ) : Type 0 where
          pub told : is_told new k v ≡ is_told st k v
          pub spot : spot_of new k v ≡ spot_of st k v
          pub count : count_of st k v ≡ 1 → count_of new k v ≡ 1

        lowered_alike : (o : Option Copies) → 1 < count_in o → (told_in (lowered o) ≡ told_in o) × (spot_in (lowered o) ≡ spot_in o)
        lowered_alike None two = absurd (omega (arith, two))
        lowered_alike (Some x) two =
            let e = cond-false (x.count == 1) None (Some (one_fewer x)) (ne_eqb x.count 1 (λ one. omega (arith, two, one))) in
            (ap told_in e, ap spot_in e)

        alike : (k v : ℕ) → has_name es k v ≡ true → Alike k v
        unfolding two_copies
        alike k v here = by (has_at k v c.chunk) refl where
          by : (b : Bool) → has_at k v c.chunk ≡ b → Alike k v
          by true also =
              let two = two_copies k v here also in
              let one = (gathered telling).names k v ∙ ap bit also in
              let now = drops k v ∙ cond-false (times_in c.names k v == 0) (copies_at st k v) (lowered (copies_at st k v)) (ne_eqb (times_in c.names k v) 0 (λ zero_is. omega (arith, one, zero_is))) in
              let same = lowered_alike (copies_at st k v) two in
              record { told = ap told_in now ∙ same.0; spot = ap spot_in now ∙ same.1; count = λ one. absurd (omega (arith, one, two)) }
          by false isnt =
              let none = (gathered telling).names k v ∙ ap bit isnt in
              let now = drops k v ∙ cond-true (times_in c.names k v == 0) (copies_at st k v) (lowered (copies_at st k v)) (eq-eqb (times_in c.names k v) 0 none) in
              record { told = ap told_in now; spot = ap spot_in now; count = λ one. ap count_in now ∙ one }

        each_alike : (xs : List (ℕ × Entry)) → ((y : ℕ × Entry) → In y xs → In y es) → AllByRecursion (λ (y : ℕ × Entry). Alike y.1.key y.1.version) xs
        unfolding alike
        each_alike xs within = all_in (λ (y : ℕ × Entry). Alike y.1.key y.1.version) xs (λ y is. alike y.1.key y.1.version (in_named es y (within y is)))

        still_awaits : (y : ℕ × Entry) → Alike y.1.key y.1.version → awaits st y ≡ true → awaits new y ≡ true
        still_awaits y same is =
            let both = and_parts (count_of st y.1.key y.1.version == 1) (not (is_told st y.1.key y.1.version)) is in
            let one = same.count (eqb-true (count_of st y.1.key y.1.version) 1 both.0) in
            (λ t. eq-eqb (count_of new y.1.key y.1.version) 1 one t && not (same.told t)) ∙ both.1

        named_once : (xs : List (ℕ × Entry)) → ((y : ℕ × Entry) → In y xs → In y es) → AreSeen st i xs → (k v : ℕ) → is_told new k v ≡ false → count_by (is_named k v) xs ≤ 1
        unfolding each_alike
        named_once xs within seen k v untold = by (is_told st k v) refl where
          by : (b : Bool) → is_told st k v ≡ b → count_by (is_named k v) xs ≤ 1
          by false was = seen.once k v was
          by true was =
              let none = none_named k v xs (each_so (λ (y : ℕ × Entry). Alike y.1.key y.1.version) (λ (y : ℕ × Entry). is_named k v y ≡ true → ⊥) (λ y same is. (let e = same_name y.1.key y.1.version k v is in
              let both : false ≡ true = sym untold ∙ sym (λ t. is_told new (e.0 t) (e.1 t)) ∙ same.told ∙ (λ t. is_told st (e.0 t) (e.1 t)) ∙ was in cc both)) xs (each_alike xs within)) in
              let n = none.0 in
              omega (arith, n)

        pub clear_counted : (a : Amount) → IsCounted st i a es → IsCounted new i a es
        unfolding each_alike named_once
        clear_counted a was =
            let front = take was.seen.many es in
            let within = in_taken was.seen.many es in
            let all = each_alike front within in
            let more = more_sums (awaits st) (awaits new) front (each_so (λ (y : ℕ × Entry). Alike y.1.key y.1.version) (λ (y : ℕ × Entry). awaits st y ≡ true → awaits new y ≡ true) (λ y same. still_awaits y same) front all) in
            let ones = more (λ (y : ℕ × Entry). 1) in
            let words = more (λ (y : ℕ × Entry). length (words_of y.1)) in
            let x = sum_ones (left_to_copy st front) in
            let y = sum_ones (left_to_copy new front) in
            let e = was.floor.entries in
            let w = was.floor.words in
            record {
              seen = record {
                many = was.seen.many;
                seen = record {
                  found = both_so (λ (y : ℕ × Entry). Alike y.1.key y.1.version) (IsFoundIn st i) (IsFoundIn new i) (λ y same found untold. same.spot ∙ found (sym same.told ∙ untold)) front all was.seen.seen.found;
                  once = named_once front within was.seen.seen;
                };
              };
              floor = record { entries = omega (arith, ones, x, y, e); words = omega (arith, words, w) };
            }

      is_some_of : (o : Option Amount) → is_some o ≡ true → (a : Amount) × (o ≡ Some a)
      is_some_of None none = absurd (cc none)
      is_some_of (Some a) is = (a, refl)

      pub clear_floors : HasFloors t log' new
      unfolding clear_counted is_some_of
      clear_floors = record {
        closed = λ i some.
            let at = is_some_of (floor_at new i) some in
            let other = other_chunk i at.0 at.1 in
            let was = floors.closed i (ap is_some other.1) in
            record {
              has = ap (λ (cs : List LogChunk). is_some (tail_of cs i)) chunks_are ∙ ap is_some (without_other log.chunks c.chunk i other.0) ∙ was.has;
              closed = λ at_it. was.closed (sym (ap (λ (l : LogState). l.opened) retired.log_is) ∙ at_it);
            };
        counted = λ i a is.
            let other = other_chunk i a is in
            let was = floors.closed i (ap is_some other.1) in
            let same = still_has i (ap is_some (without_other log.chunks c.chunk i other.0) ∙ was.has) in
            subst (IsCounted new i a) (sym same) (clear_counted i other.0 was.has a (floors.counted i a other.1));
      }
