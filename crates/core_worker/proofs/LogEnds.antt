-- What a worker's ties say of the chunks that are not its log's, and of equal names in its log: as the end of a cleaning asks for it.
use Rattle.std.proofs.Common.{◌≡◌, ◌≢◌, ⊎_elim, ℕ, ◌+◌, ◌*◌, ◌/◌, ◌%◌, ◌<◌, ◌==◌, ◌&&◌, nat_le, Bool, true, false, cond, List, [], map, Option, Some, None, is_some, refl, sym, ◌∙◌, ap, subst, arith}
use Rattle.std.specs.Prelude.{Ok, Err}
use Rattle.std.proofs.lemmas.Bool.{ne_eqb}
use Rattle.pm_region.specs.State.{State, IsTelling, cell_now}
use Rattle.pm_region.specs.Cell.{MayBe}
use Rattle.pm_region.specs.Words.{lasts, Surely}
use Rattle.pm_region.proofs.Clients.{may_be_last}
use Rattle.log_entry.specs.declared.entry.Entry.{Entry}
use Rattle.chunk_map.specs.declared.layouts.Geometry.{Geometry}
use Rattle.chunk_map.specs.declared.heads.Head.TheVariants as heads
use Rattle.chunk_map.specs.Layouts.{head_by, is_class, payload_words, chunk_first}
use Rattle.chunk_map.proofs.Clients.{numbers_of, chunk_words_whole}
use Rattle.store_image.specs.Facts.{In}
use Rattle.store_image.specs.declared.types.PlacedEntry.{PlacedEntry}
use Rattle.store_image.specs.Parts.{scan_behind, placed_in_chunk, chunk_entries, part_entries}
use Rattle.core_log.specs.Log.{tail_of, first_of}
use Rattle.core_log.specs.Walking.{entries_in}
use Rattle.core_log.proofs.Clients.{free_has_none}
use Rattle.lazy_alloc.specs.Sets.{chunk_is_due, chunk_class}
use Rattle.log_cleaner.specs.ImagesBeside.{AgreesIn}
use Rattle.log_cleaner.specs.Vanishing.{NoneElse}
use Rattle.log_cleaner.proofs.Parts.{part_has, placed_has, chunk_lasts}
use Rattle.group_laws.specs.Places.{Place}
use Rattle.group_laws.specs.MemberViews.{View}
use Rattle.core_worker.specs.declared.worker.Worker.{Worker}
use Rattle.core_worker.specs.Ties.{Holds, Stands}
use Rattle.core_worker.proofs.Flight.{runs_unlost}
use Rattle.core_worker.proofs.ChunkGivenUp.{chunk_within}

-- behind a head that is that of no log nothing is read
data_ended : (image : ℕ → ℕ) (at kind tail : ℕ) (l : Geometry) → kind ≢ 0 → kind ≢ 1 → (scan_behind image at (head_by l kind tail)).entries ≡ []
data_ended image at kind tail l free log =
    ap (λ (b : Bool). (scan_behind image at (cond b (Ok heads.Free) (cond (kind == 1) (cond (tail % 8 == 0 && nat_le tail (payload_words l)) (Ok (heads.Log tail)) (Err 5)) (cond (kind % 256 == 2 && is_class l (kind / 256)) (Ok (heads.Data (kind / 256))) (Err 4))))).entries) (ne_eqb kind 0 free)
    ∙ ap (λ (b : Bool). (scan_behind image at (cond b (cond (tail % 8 == 0 && nat_le tail (payload_words l)) (Ok (heads.Log tail)) (Err 5)) (cond (kind % 256 == 2 && is_class l (kind / 256)) (Ok (heads.Data (kind / 256))) (Err 4)))).entries) (ne_eqb kind 1 log)
    ∙ by (kind % 256 == 2 && is_class l (kind / 256))
  where
    by : (b : Bool) → (scan_behind image at (cond b (Ok (heads.Data (kind / 256))) (Err 4))).entries ≡ []
    by true = refl
    by false = refl

data_has_none : (l : Geometry) (image : ℕ → ℕ) (c j class : ℕ) → image (chunk_first l c j) ≡ 2 + 256 * class → chunk_entries l image c j ≡ []
data_has_none l image c j class is = ap (placed_in_chunk c j) (data_ended image (chunk_first l c j) (image (chunk_first l c j)) (image (chunk_first l c j + 1)) l (λ z. omega (arith, is, z)) (λ z. omega (arith, is, z)))

module _ (s : State) (p : Place) (m : ℕ) (v : View) (w : Worker) (H : Holds p m v w) (S : Stands s p m v w) (runs : w.stopped ≡ false) where
  -- no chunk of the part besides the log's has an entry
  pub others_none : NoneElse s w.log
  others_none telling j low none image may = ⊎_elim
      (λ own. ⊎_elim (λ free. is_free ((S.free runs j free telling).1)) (λ cut. is_cut (chunk_class w.allocator j) refl cut) own.0)
      (λ has. absurd (let both : true ≡ false = sym has.1 ∙ ap is_some none in cc both))
      (H.chunks runs j (subst (λ (l : Geometry). j < l.chunks) H.log_layout low))
    where
      here : MayBe (cell_now s (first_of w.log j)) (image (first_of w.log j))
      here = may (first_of w.log j) (omega arith) (let size = chunk_words_whole w.log.layout (numbers_of w.log.layout (S.log runs).own.layout).size in let big = size.2 in omega (arith, big))

      is_free : Surely (cell_now s (first_of w.log j)) 0 → chunk_entries w.log.layout image w.log.part j ≡ []
      is_free sure = free_has_none w.log.layout image w.log.part j (sure (image (first_of w.log j)) here)

      is_cut : (o : Option ℕ) → chunk_class w.allocator j ≡ o → is_some (chunk_class w.allocator j) ≡ true → chunk_entries w.log.layout image w.log.part j ≡ []
      is_cut None e some = absurd (let both : false ≡ true = sym (ap is_some e) ∙ some in cc both)
      is_cut (Some c) e some = by (chunk_is_due w.allocator j) refl where
        by : (b : Bool) → chunk_is_due w.allocator j ≡ b → chunk_entries w.log.layout image w.log.part j ≡ []
        by true due = is_free ((S.due runs j due telling).1)
        by false off = data_has_none w.log.layout image w.log.part j c ((S.cut runs j c e off telling).1 (image (first_of w.log j)) here)

  unlost : w.lost_batch ≡ false
  unlost = runs_unlost v.flying v.broken w.leading w.lost_batch w.stopped H.flight runs

  -- an entry of the log is certain
  pub logged_kept : IsTelling s → (i : ℕ) (x : ℕ × Entry) → is_some (tail_of w.log.chunks i) ≡ true → In x (entries_in s w.log i) → In x.1 v.kept
  logged_kept telling i x has there =
      let at = placed_has w.log.part i (entries_in s w.log i) x there in
      let stands = part_has w.log (lasts s) i x.1 (chunk_within w.log (S.log runs).own i has) (subst (λ (ys : List PlacedEntry). In x.1 (map (λ (y : PlacedEntry). y.entry) ys)) (sym (chunk_lasts s w.log (S.log runs) i has telling)) at) in
      let licence = S.landed unlost telling (lasts s) (λ n low high. may_be_last (cell_now s n) (lasts s n) refl) in
      ⊎_elim (λ k. k) (λ none. absurd none)
      (licence.only x.1 (subst (λ (c : ℕ). In x.1 (map (λ (y : PlacedEntry). y.entry) (part_entries p.layout (lasts s) c))) H.log_part (subst (λ (l : Geometry). In x.1 (map (λ (y : PlacedEntry). y.entry) (part_entries l (lasts s) w.log.part))) H.log_layout stands)))

  pub names_agree : ((e f : Entry) → In e v.kept → In f v.kept → e.key ≡ f.key → e.version ≡ f.version → e ≡ f) → IsTelling s → AgreesIn s w.log
  names_agree one telling i j x y has_i has_j in_i in_j key version = one x.1 y.1 (logged_kept telling i x has_i in_i) (logged_kept telling j y has_j in_j) key version
