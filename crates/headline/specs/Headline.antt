-- What a run promises: its replies, and what each crash recovers.
use Rattle.std.specs.Prelude.{◌≡◌, ℕ, ◌^◌, ◌<◌, ◌++◌, List, map, true, Option, Some}
use Rattle.std.specs.List.{AllByRecursion}
use Rattle.fs_model.specs.declared.model.Request.{Request}
use Rattle.fs_model.specs.declared.model.Reply.{Reply}
use Rattle.fs_model.specs.Lawful.{IsLawful, Fits, is_stopped}
use Rattle.fs_model.specs.Changes.{changes_of, cell_after_all, finished_by, IsPrefixCell}
use Rattle.log_entry.specs.declared.entry.Body.TheVariants.{Pointer}
use Rattle.store_image.specs.declared.types.PlacedEntry.{PlacedEntry}
use Rattle.chunk_map.specs.Layouts.{layout_of}
use Rattle.store_image.specs.Winners.{winner, recovered}
use Rattle.store_image.specs.Soundness.{IsSound}
use Rattle.fs_text.specs.Output.{replies_text}
use Rattle.headline.specs.Kinds.{AreReplies}
use Rattle.pm_region.specs.State.{State, IsTold, IsTelling, MayLeave, cell_now}

-- what an image recovers, by the layout that it has
abbrev pub cells_of : (ℕ → ℕ) → ℕ → Option (List ℕ)
cells_of image k = recovered (layout_of image) image k

-- A report's finishes are pairs of a request's number and a stamp, and its refusals pairs of a number and the reply that the cause stands for.
pub record Told : Type 0 where
  pub finishes : List (ℕ × ℕ)
  pub refusals : List (ℕ × Reply)

abbrev pub finished_in : Told → List ℕ
finished_in r = map (λ f. f.0) r.finishes

abbrev pub refused_in : Told → List ℕ
refused_in r = map (λ x. x.0) r.refusals

-- the changes of a key in a run from these cells
abbrev pub changes_in : (ℕ → Option (List ℕ)) → List Request → Told → ℕ → List Request
changes_in start trace r k = changes_of (start k) k trace (finished_in r) (refused_in r)

-- Replies that a run may give, which are lawful where the cells are known: where the region tells. One is `Stopped` only for a cause.
pub record Answers (Known : Type 0) (start : ℕ → Option (List ℕ)) (trace : List Request) (r : Told)
    (MayStop : Type 0) (replies : List Reply) : Type 0 where
  pub each : AreReplies trace replies
  pub lawful : Known → IsLawful start trace replies
  pub fits : Fits (finished_in r) r.refusals replies
  pub stops : AllByRecursion (λ x. is_stopped x ≡ true → MayStop) replies

-- bytes that are the text of such replies, or begin it
abbrev pub WritesReplies : Type 0 → (ℕ → Option (List ℕ)) → List Request → Told → Type 0 → List ℕ
    → Type 0
WritesReplies Known start trace r MayStop bytes = (replies : List Reply)
    × Answers Known start trace r MayStop replies × (bytes ≡ replies_text replies)

abbrev pub BeginsReplies : Type 0 → (ℕ → Option (List ℕ)) → List Request → Told → Type 0 → List ℕ
    → Type 0
BeginsReplies Known start trace r MayStop bytes = (more : List ℕ)
    × WritesReplies Known start trace r MayStop (bytes ++ more)

-- One image: it is sound, and recovers for each key the cell after its first f changes, or after one more
pub record Recovers (bytes : ℕ) (start : ℕ → Option (List ℕ)) (trace : List Request) (r : Told)
    (f : ℕ → ℕ) (image : ℕ → ℕ) : Type 0 where
  pub sound : IsSound bytes image
  pub cells : (k : ℕ) → k < 2 ^ 64 → IsPrefixCell (start k) (changes_in start trace r k) (f k)
      (cells_of image k)

-- At each stamp that the region tells, with the finishes by that stamp
abbrev pub RecoversThroughout : State → (ℕ → Option (List ℕ)) → List Request → Told → Type 0
RecoversThroughout s start trace r =
    (t : ℕ) → IsTold s t → (image : ℕ → ℕ) → MayLeave s.frame (s.cells t) image
    → Recovers s.frame.bytes start trace r (λ k. finished_by k trace r.finishes t) image

-- At exit, each image recovers all changes
abbrev pub RecoversAll : State → (ℕ → Option (List ℕ)) → List Request → Told → Type 0
RecoversAll s start trace r =
    IsTelling s → (image : ℕ → ℕ) → MayLeave s.frame (cell_now s) image → (k : ℕ) → k < 2 ^ 64
    → cells_of image k ≡ cell_after_all (changes_in start trace r k) (start k)

-- No two winners share a block: it follows from the image being sound
abbrev pub HasOwnBlocks : (ℕ → ℕ) → Type 0
HasOwnBlocks image =
    (j k p : ℕ) (x y : PlacedEntry) → winner (layout_of image) image j ≡ Some x
    → winner (layout_of image) image k ≡ Some y
    → x.entry.body ≡ Pointer p → y.entry.body ≡ Pointer p → j ≡ k
