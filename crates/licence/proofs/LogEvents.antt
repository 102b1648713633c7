-- Writes of the log keep the licence: a batch, a copy, a chunk that is opened, and one that is made Free.
use Rattle.std.proofs.Common.{◌≡◌, ◌⊎◌, inl, inr, ⊎_elim, ℕ, ◌+◌, ◌≤◌, ◌<◌, true, false, cond, List, [], ◌∷◌, Option, Some, None, is_some, refl, sym, ◌∙◌, ap, subst, arith}
use Rattle.pm_region.specs.State.{State, IsTelling, cell_now, During}
use Rattle.pm_region.specs.Words.{KeepsOutside}
use Rattle.pm_region.proofs.Clients.{weaken, told_at_entry, wider}
use Rattle.chunk_map.specs.Layouts.{chunk_words, part_first}
use Rattle.chunk_map.proofs.Clients.{chunk_in_part}
use Rattle.log_entry.specs.declared.entry.Entry.{Entry}
use Rattle.log_entry.specs.declared.entry.EntryName.{EntryName}
use Rattle.store_image.specs.declared.types.PlacedEntry.{PlacedEntry}
use Rattle.store_image.specs.Parts.{chunk_entries, placed_in_chunk}
use Rattle.store_image.specs.Facts.{In}
use Rattle.store_image.proofs.Clients.{layout_numbers}
use Rattle.core_log.specs.Chunk.{padded}
use Rattle.core_log.specs.Log.{LogState, tail_of, first_of, open_number, open_first}
use Rattle.core_log.specs.Walking.{entries_in}
use Rattle.core_log.specs.Entries.{AppendedBatch}
use Rattle.core_log.specs.PartImages.{MayLeavePart, EachInPart, GainsSince, LosesSince}
use Rattle.core_log.proofs.Clients.{some_opens, holds_some, open_chunk_of, placed_all, InChunk, InPart, part_of, entries_all, append_gains, appended_gains, open_gains, retire_loses, chunk_is, chunk_now, in_chunk_of}
use Rattle.group_laws.specs.Places.{Place, core_of}
use Rattle.group_laws.specs.Updates.{has, without}
use Rattle.group_laws.specs.MemberViews.{View}
use Rattle.group_laws.specs.Images.{IsLicensedBy}
use Rattle.licence.specs.Licence.{Licensed, IsLogOf, part_at, part_end}
use Rattle.licence.specs.ViewChanges.{Commits, Forgets, HaveVanished}
use Rattle.licence.specs.Writes.{Begins, IsSpelled, Appends, Opens, Frees, MaySpare}
use Rattle.licence.proofs.Gained.{not_true, to_place, to_log, part_each, log_each, gained_kept, gained_flying, gained_committed, lost}

none_kept : (v : View) (e : Entry) → In e [] → In e v.kept
none_kept v e none = absurd none

-- from what the log's part gains to the licence
module _ (s t : State) (p : Place) (m : ℕ) (v : View) (log : LogState) (b : Begins s p m v log) where
  before_is : IsTelling s → (before : ℕ → ℕ) → EachInPart log (IsLicensedBy p m v) (cell_now s)
  before_is telling before = log_each p m log b.own (IsLicensedBy p m v) (cell_now s) (b.licensed telling)

  of_gains : IsTelling s → (es : List Entry) → ((e : Entry) → In e es → In e v.kept) → (image : ℕ → ℕ) → GainsSince s log es image → IsLicensedBy p m v image
  of_gains telling es certain image g = gained_kept p m log b.own v g.0 image (before_is telling g.0 g.0 g.1) es g.2 certain

  of_flying : IsTelling s → (image : ℕ → ℕ) → GainsSince s log v.flying image → IsLicensedBy p m v image
  of_flying telling image g = gained_flying p m log b.own v g.0 image (before_is telling g.0 g.0 g.1) g.2

  each_image : (Q : (ℕ → ℕ) → Type 0) → (IsTelling s → (image : ℕ → ℕ) → Q image → IsLicensedBy p m v image) → During s t (EachInPart log Q) → During s t (Licensed p m v)
  each_image Q implies run = weaken s t (EachInPart log Q) (Licensed p m v) (λ telling cells each. part_each p m log b.own (IsLicensedBy p m v) cells (λ image may. implies telling image (each image may))) run

  -- no word outside the part is written
  in_part : (j from end : ℕ) → j < log.layout.chunks → first_of log j ≤ from → end ≤ first_of log j + chunk_words log.layout → During s t (KeepsOutside (cell_now s) from end) → During s t (KeepsOutside (cell_now s) (part_at p m) (part_end p m))
  in_part j from end lt low high run =
      let lies = chunk_in_part log.layout log.part j lt in
      to_place p m log b.own (λ l c. During s t (KeepsOutside (cell_now s) (part_first l c) (part_first l (c + 1))))
      (wider s t from end (part_first log.layout log.part) (part_first log.layout (log.part + 1)) (omega (arith, lies.0, low)) (omega (arith, lies.1, high)) run)

  short_in_part : (j : ℕ) → j < log.layout.chunks → During s t (KeepsOutside (cell_now s) (first_of log j) (first_of log j + 8)) → During s t (KeepsOutside (cell_now s) (part_at p m) (part_end p m))
  short_in_part j lt run = let big = (layout_numbers log.layout b.stands.own.layout).size in in_part j (first_of log j) (first_of log j + 8) lt (omega arith) (omega (arith, big)) run

  module _ (ws : List ℕ) (es : List Entry) (spelled : IsSpelled log es ws) (appends : Appends s t log ws) where
    appends_run : During s t (EachInPart log (λ image. GainsSince s log [] image ⊎ GainsSince s log es image))
    appends_run = append_gains s t log b.stands ws es spelled.words spelled.batch spelled.room appends.outside appends.moments

    pub copy_licensed : ((e : Entry) → In e es → In e v.kept) → During s t (Licensed p m v)
    copy_licensed certain = each_image (λ image. GainsSince s log [] image ⊎ GainsSince s log es image)
        (λ telling image g. ⊎_elim (λ none. of_gains telling [] (none_kept v) image none) (λ all. of_gains telling es certain image all) g) appends_run

    pub append_outside : During s t (KeepsOutside (cell_now s) (part_at p m) (part_end p m))
    append_outside =
        let some = some_opens log ws (holds_some ws (record { entries = es; words = spelled.words; batch = spelled.batch })) spelled.room in
        in_part (open_number log) (open_first log) (open_first log + chunk_words log.layout) (open_chunk_of log b.stands.own some).within (omega arith) (omega arith) appends.outside

  module _ (ws : List ℕ) (spelled : IsSpelled log v.flying ws) (appends : Appends s t log ws) where
    pub batch_licensed : During s t (Licensed p m v)
    batch_licensed = each_image (λ image. GainsSince s log [] image ⊎ GainsSince s log v.flying image)
        (λ telling image g. ⊎_elim (λ none. of_gains telling [] (none_kept v) image none) (λ all. of_flying telling image all) g) (appends_run ws v.flying spelled appends)

    pub batch_committed : (after : LogState) → AppendedBatch s t log after (padded ws) → (u : View) → Commits v u → IsTelling t → Licensed p m u (cell_now t)
    batch_committed after appended u commits telling =
        let was = told_at_entry s t (EachInPart log (λ image. GainsSince s log [] image ⊎ GainsSince s log v.flying image)) (appends_run ws v.flying spelled appends) telling in
        part_each p m log b.own (IsLicensedBy p m u) (cell_now t) (λ image may.
        let g = appended_gains s t log b.stands ws v.flying spelled.words spelled.batch spelled.room appends.outside after appended telling image may in
        gained_committed p m log b.own v g.0 image (before_is was g.0 g.0 g.1) g.2 u commits)

  module _ (j : ℕ) (opens : Opens s t log j) where
    pub open_licensed : During s t (Licensed p m v)
    open_licensed = each_image (GainsSince s log []) (λ telling image g. of_gains telling [] (none_kept v) image g)
        (open_gains s t log b.stands j opens.part opens.free opens.outside opens.moments)

    pub open_outside : During s t (KeepsOutside (cell_now s) (part_at p m) (part_end p m))
    open_outside = short_in_part j opens.part opens.outside

  module _ (j : ℕ) (frees : Frees s t log j) where
    pub free_outside : During s t (KeepsOutside (cell_now s) (part_at p m) (part_end p m))
    free_outside = short_in_part j (chunk_is s log b.stands j frees.has).within frees.outside

    pub free_licensed : MaySpare s v log j → During s t (Licensed p m v)
    free_licensed spares = each_image (λ image. GainsSince s log [] image ⊎ LosesSince s log j image)
        (λ telling image g. ⊎_elim (λ stays. of_gains telling [] (none_kept v) image stays)
        (λ loses. lost p m log b.own v loses.0 image (before_is telling loses.0 loses.0 loses.1) s j loses.2 spares.idle (spares.each telling)) g)
        (retire_loses s t log b.stands j frees.has frees.outside frees.moments)

-- the entries of other names than these
in_without : (ns : List EntryName) (e : Entry) (es : List Entry) → has ns e.key e.version ≡ false → In e es → In e (without ns es)
in_without ns e [] other i = absurd i
in_without ns e (x ∷ xs) other i = elim (has ns x.key x.version) as (λ b. has ns x.key x.version ≡ b → In e (cond b (without ns xs) (x ∷ without ns xs))) [
  | true ↦ λ q. ⊎_elim (λ (same : e ≡ x). absurd (let both : true ≡ false = sym q ∙ ap (λ (y : Entry). has ns y.key y.version) (sym same) ∙ other in cc both)) (λ later. in_without ns e xs other later) i
  | false ↦ λ q. ⊎_elim (λ (same : e ≡ x). inl same) (λ later. inr (in_without ns e xs other later)) i
] refl

of_without : (ns : List EntryName) (e : Entry) (es : List Entry) → In e (without ns es) → In e es × (has ns e.key e.version ≡ false)
of_without ns e [] i = absurd i
of_without ns e (x ∷ xs) i = elim (has ns x.key x.version) as (λ b. has ns x.key x.version ≡ b → In e (cond b (without ns xs) (x ∷ without ns xs)) → In e (x ∷ xs) × (has ns e.key e.version ≡ false)) [
  | true ↦ λ q rest. let r = of_without ns e xs rest in (inr r.0, r.1)
  | false ↦ λ q rest. ⊎_elim (λ (same : e ≡ x). (inl same, ap (λ (y : Entry). has ns y.key y.version) same ∙ q)) (λ later. let r = of_without ns e xs later in (inr r.0, r.1)) rest
] refl i

-- Names that stand nowhere may be forgotten.
module _ (s : State) (p : Place) (m : ℕ) (v u : View) (log : LogState) (ns : List EntryName) (own : IsLogOf p m log) (vanished : HaveVanished s log ns) (forgets : Forgets ns v u) (telling : IsTelling s) where
  nowhere : (image : ℕ → ℕ) → MayLeavePart log (cell_now s) image → (e : Entry) → InPart log.layout image log.part e → has ns e.key e.version ≡ false
  nowhere image may e i =
      let at = part_of log.layout image log.part e i in
      by_tail at.0 at.1 at.2 (tail_of log.chunks at.0) refl
    where
      by_tail : (j : ℕ) → j < log.layout.chunks → InChunk log.layout image log.part j e → (o : Option ℕ) → tail_of log.chunks j ≡ o → has ns e.key e.version ≡ false
      by_tail j lt here None is = absurd (subst (λ (xs : List PlacedEntry). In e (entries_all xs)) (vanished.others telling j lt is image (in_chunk_of log (cell_now s) j image lt may)) here)
      by_tail j lt here (Some tail) is =
          let there : is_some (tail_of log.chunks j) ≡ true = ap is_some is in
          let entries : chunk_entries log.layout image log.part j ≡ placed_in_chunk log.part j (entries_in s log j) = chunk_now s log vanished.stands j there telling image (in_chunk_of log (cell_now s) j image lt may) in
          vanished.gone telling j e there (subst (In e) (ap entries_all entries ∙ placed_all log.part j (entries_in s log j)) here)

  pub forgotten : Licensed p m v (cell_now s) → Licensed p m u (cell_now s)
  forgotten licensed = part_each p m log own (IsLicensedBy p m u) (cell_now s) (λ image may.
      let was = log_each p m log own (IsLicensedBy p m v) (cell_now s) licensed image may in
      let away : (e : Entry) → InPart p.layout image (core_of p m) e → has ns e.key e.version ≡ false = λ e i. nowhere image may e (to_log p m log own (λ l c. InPart l image c e) i) in
      record {
        well = was.well;
        has = λ e k live. let old = of_without ns e v.kept (subst (In e) forgets.kept k) in was.has e old.0 (not_true (v.doomed e.key e.version) (u.doomed e.key e.version) (forgets.doomed e.key e.version old.1) live);
        only = λ e i. ⊎_elim (λ k. inl (subst (In e) (sym forgets.kept) (in_without ns e v.kept (away e i) k))) (λ f. inr (subst (In e) (sym forgets.flying) f)) (was.only e i);
        whole = ⊎_elim (λ all. inl (λ e f. all e (subst (In e) forgets.flying f)))
            (λ none. inr (λ e f i. subst (In e) (sym forgets.kept) (in_without ns e v.kept (away e i) (none e (subst (In e) forgets.flying f) i)))) was.whole;
        blocks = λ q b h. was.blocks q b (forgets.blocks q b h);
      })
