-- The images of a region that is created and given its superblock.
use Rattle.std.proofs.Common.{◌≡◌, inl, inr, ⊎_elim, ℕ, zero, suc, ◌+◌, ◌*◌, ◌/◌, ◌<◌, ◌≤◌, List, [], ◌++◌, refl, sym, ◌∙◌, ap, subst, arith, true, cond, Some, None, Result, Ok}
use Rattle.std.proofs.lemmas.Bool.{le-leb}
use Rattle.std.specs.List.{flat_map}
use Rattle.std.specs.Option.{option_and_then}
use Rattle.pm_region.specs.Cell.{MayBe}
use Rattle.pm_region.specs.State.{State, Frame, During, InRange, IsTold, IsTelling, MayLeave, cell_now, Rose}
use Rattle.pm_region.specs.Words.{EachIn, Surely}
use Rattle.pm_region.specs.Split.{Attached, Refuses, IsOpenedOnceMore, words_in}
use Rattle.pm_region.specs.declared.split.AttachError.{AttachError}
use Rattle.flatstore_commands.proofs.Opened.{creates_once}
use Rattle.pm_region.proofs.Clients.{certain_may_be, surely_certain, over_weaken}
use Rattle.chunk_map.specs.declared.layouts.Geometry.{Geometry}
use Rattle.chunk_map.specs.Layouts.{numbers, IsLayout, head_by, total_bytes, chunk_first, owner, superblock_rule}
use Rattle.chunk_map.specs.Superblock.{IsSuperblock, IsRefusedOrWhole, NarrowsOutside}
use Rattle.chunk_map.proofs.Clients.{numbers_of, chunk_words_whole, chunk_in_part, part_within, parts_end, keeps_rules}
use Rattle.store_image.specs.declared.types.PlacedEntry.{PlacedEntry}
use Rattle.store_image.specs.declared.types.Fault.TheVariants.{NotARegion}
use Rattle.store_image.specs.Facts.{In, KeepsRules}
use Rattle.store_image.specs.Parts.{all_entries, part_entries, chunk_entries, chunk_reads, scan_behind, head_reads, placed_in_chunk, value_in_block}
use Rattle.store_image.specs.Winners.{winner_in, cell_by}
use Rattle.store_image.specs.Soundness.{first_fault, fault_by}
use Rattle.store_image.proofs.Clients.{store_sound}
use Rattle.flatstore_commands.specs.declared.report.Status.TheVariants as statuses
use Rattle.flatstore_commands.specs.declared.report.CommandReport.{CommandReport}
use Rattle.flatstore_commands.specs.Attaching.{Runs, Creates}
use Rattle.flatstore_commands.specs.Formats.{Formats, EachImage, IsEmptyStore, IsRefusedOrEmpty}

-- a Free chunk reads, and has no entries
free_reads : (l : Geometry) (image : ℕ → ℕ) (at : ℕ) → image at ≡ 0 → chunk_reads l image at ≡ true
free_reads l image at is = (λ i. head_reads (head_by l (is i) (image (at + 1))) (scan_behind image at (head_by l (is i) (image (at + 1)))))

free_entries : (l : Geometry) (image : ℕ → ℕ) (c j : ℕ) → image (chunk_first l c j) ≡ 0 → chunk_entries l image c j ≡ []
free_entries l image c j is = (λ i. placed_in_chunk c j (scan_behind image (chunk_first l c j) (head_by l (is i) (image (chunk_first l c j + 1)))).entries)

none_in_all : {X : Type 0} (f : ℕ → List X) (from n : ℕ) → ((k : ℕ) → from ≤ k → k < from + n → f k ≡ []) → flat_map f (numbers from n) ≡ []
none_in_all f from zero h = refl
none_in_all f from (suc n) h = (λ i. h from (omega arith) (omega arith) i ++ none_in_all f (suc from) n (λ k low high. h k (omega (arith, low)) (omega (arith, high))) i)

refused_by : (bytes : ℕ) (image : ℕ → ℕ) (rule : ℕ) → superblock_rule bytes image ≡ Some rule → first_fault bytes image ≡ Some (NotARegion rule)
unfolding first_fault
refused_by bytes image rule is = ap (fault_by image) is

module _ (l : Geometry) (is : IsLayout l) (image : ℕ → ℕ) (super : IsSuperblock l image) (zeros : (w : ℕ) → 6 ≤ w → w < total_bytes l / 8 → image w ≡ 0) where
  no_kind : (c j : ℕ) → c < l.cores → j < l.chunks → image (chunk_first l c j) ≡ 0
  no_kind c j core chunk =
      let inside = chunk_in_part l c j chunk in
      let end = part_within l c is core in
      let low = (chunk_words_whole l (numbers_of l is).size).2 in
      zeros (chunk_first l c j) (omega arith) (omega (arith, inside.1, end, low))

  no_entries_in : (c j : ℕ) → c < l.cores → j < l.chunks → chunk_entries l image c j ≡ []
  no_entries_in c j core chunk = free_entries l image c j (no_kind c j core chunk)

  no_entries : all_entries l image ≡ []
  no_entries = none_in_all (part_entries l image) 0 l.cores (λ c low high. none_in_all (chunk_entries l image c) 0 l.chunks (λ j a b. no_entries_in c j (omega (arith, high)) (omega (arith, b))))

  no_winner : (k : ℕ) → winner_in k (all_entries l image) ≡ None
  no_winner k = ap (winner_in k) no_entries

  rules : KeepsRules l image
  rules = record {
    reads = λ c j core chunk. free_reads l image (chunk_first l c j) (no_kind c j core chunk);
    grouped = λ c j x core chunk h. absurd (subst (In x) (no_entries_in c j core chunk) h);
    agree = λ x y a b k v. absurd (subst (In x) no_entries a);
    holds = λ k p x wins body. absurd (none_some (sym (no_winner k) ∙ wins));
    own = λ j k p x y wins other a b. absurd (none_some (sym (no_winner j) ∙ wins));
  } where
    none_some : {x : PlacedEntry} → None ≡ Some x → ⊥
    none_some e = cc e

  pub empty_store : IsEmptyStore l image
  empty_store = record {
    superblock = super;
    zeros = zeros;
    free = λ c j core chunk. ap (λ kind. head_by l kind (image (chunk_first l c j + 1))) (no_kind c j core chunk);
    sound = store_sound (total_bytes l) image (record {
      superblock = keeps_rules l is image super;
      rules = subst (λ (g : Geometry). KeepsRules g image) (sym super.layout) rules;
    });
    cells = λ k. subst (λ (g : Geometry). option_and_then (λ (x : PlacedEntry). cell_by (value_in_block g image (owner g k)) x.entry.body) (winner_in k (all_entries g image)) ≡ None) (sym super.layout)
        (ap (option_and_then (λ (x : PlacedEntry). cell_by (value_in_block l image (owner l k)) x.entry.body)) (no_winner k));
  }

-- A region that was created, and what came of it while the superblock was written.
module _ (old mid new : State) (l : Geometry) (is : IsLayout l) (A : Attached old mid (8 * (total_bytes l / 8)) (λ w. 0))
    (written : (IsTelling mid → Surely (cell_now mid 0) 0) → During mid new (EachIn 0 6 (IsRefusedOrWhole l (total_bytes l))))
    (others : During mid new (NarrowsOutside (cell_now mid) 0 6)) where
  whole : 8 * (total_bytes l / 8) ≡ total_bytes l
  whole = let e = parts_end l (numbers_of l is).size in omega (arith, e)

  words_are : mid.frame.words ≡ total_bytes l / 8
  words_are =
      let most = (numbers_of l is).total in
      A.words ∙ ap words_in whole ∙ (λ i. cond (le-leb (total_bytes l) 268439552 (omega (arith, most)) i) (total_bytes l / 8) 0)

  created : Attached old mid (total_bytes l) (λ w. 0)
  created = subst (λ n. Attached old mid n (λ w. 0)) whole A

  runs : Runs mid new
  runs = over_weaken mid new _ _ (λ n telling told le each. tt) others

  pub made_once : {T : Type 0} (result : Result T AttachError) (x : T) → result ≡ Ok x → Refuses old mid result → IsOpenedOnceMore old mid → (r : CommandReport) → r.attached ≡ true → Creates old new l r
  made_once result x is R once r attached = creates_once old mid new l result x is R created once runs r attached

  pub size_is : new.frame.bytes ≡ total_bytes l
  size_is = ap (λ (f : Frame). f.bytes) others.frame ∙ A.bytes_are ∙ whole

  in_frame : (w : ℕ) → w < total_bytes l / 8 → InRange mid.frame w
  in_frame w lt = let first = A.first in let words = words_are in record { low = omega (arith, first); high = omega (arith, first, words, lt) }

  some_words : 6 < total_bytes l / 8
  some_words = omega arith

  run : During mid new (EachIn 0 6 (IsRefusedOrWhole l (total_bytes l)))
  run = written (λ telling. surely_certain (cell_now mid 0) 0 (A.certainly 0 (in_frame 0 (let some = some_words in omega (arith, some))) telling))

  module _ (t : ℕ) (told : IsTold new t) (image : ℕ → ℕ) (may : MayLeave new.frame (new.cells t) image) where
    since : mid.stamp ≤ t
    since = let stamp = A.stamp in omega (arith, stamp)

    may_be : (w : ℕ) → w < total_bytes l / 8 → MayBe (new.cells t w) (image w)
    may_be w lt = may w (subst (λ (f : Frame). InRange f w) (sym others.frame) (in_frame w lt))

    zeros_behind : (w : ℕ) → 6 ≤ w → w < total_bytes l / 8 → image w ≡ 0
    zeros_behind w low lt = certain_may_be (cell_now mid w) 0 (image w) (A.certainly w (in_frame w lt) (others.was t told since)) (others.each t told since w (inr low) (image w) (may_be w lt))

    in_front : (w : ℕ) → 0 ≤ w → w < 6 → MayBe (new.cells t w) (image w)
    in_front w low lt = let some = some_words in may_be w (omega (arith, lt, some))

    pub refused_or_empty : IsRefusedOrEmpty l image
    refused_or_empty = ⊎_elim (λ refused. inl (refused_by (total_bytes l) image 2 refused)) (λ has. inr (empty_store l is image has.0 zeros_behind)) (run.each t told since image in_front)

    empty_if_whole : IsSuperblock l image → IsEmptyStore l image
    empty_if_whole super = empty_store l is image super zeros_behind

  refused_throughout : (t : ℕ) → IsTold new t → EachImage new.frame (IsRefusedOrEmpty l) (new.cells t)
  refused_throughout t told image may = refused_or_empty t told image may

  -- the fences of the superblock failed
  pub made_stops : old.faults ≤ mid.faults → Rose mid.faults new.faults → (r : CommandReport) → r.status ≡ statuses.RegionFault → Creates old new l r → Formats old new l r
  made_stops later rose r status creates = record {
    ends = inr (inr (status, omega (arith, later, rose)));
    creates = creates;
    size = λ made. size_is;
    crash = λ made. refused_throughout;
    done = λ done. absurd (no_end (sym status ∙ done));
  } where
    no_end : statuses.RegionFault ≡ statuses.Done → ⊥
    no_end e = cc e

  -- the superblock was written
  pub made_ends : (IsTelling new → EachIn 0 6 (IsSuperblock l) (cell_now new)) → (r : CommandReport) → r.status ≡ statuses.Done → Creates old new l r → Formats old new l r
  made_ends super r status creates = record {
    ends = inl status;
    creates = creates;
    size = λ made. size_is;
    crash = λ made. refused_throughout;
    done = λ done telling image may. empty_if_whole new.stamp telling image may (super telling image (in_front new.stamp telling image may));
  }
