-- What the heads of a part say of its log and of its allocator.
use Rattle.std.proofs.Common.{◌≡◌, ℕ, ◌<◌, ◌≤◌, ltb, true, false, cond, List, length, get_or, Option, Some, None, refl, sym, ◌∙◌, ap, subst, arith}
use Rattle.std.specs.Prelude.{IfSome, slice_get, Ok, Err}
use Rattle.std.proofs.lemmas.Bool.{ltb-true, ltb-false}
use Rattle.std.proofs.lemmas.Option.{slice_get-get_or, slice_get_past}
use Rattle.chunk_map.specs.declared.layouts.Geometry.{Geometry}
use Rattle.chunk_map.specs.declared.heads.Head.{Head}
use Rattle.chunk_map.specs.declared.heads.Head.TheVariants.{Free, Log, Data}
use Rattle.chunk_map.specs.Checked.{FitsHead}
use Rattle.chunk_map.specs.Layouts.{chunk_first, head_at}
use Rattle.core_log.specs.declared.types.LogChunk.{LogChunk}
use Rattle.core_log.specs.Log.{tail_of, chunk_with, IsChunkOf}
use Rattle.store_image.specs.Parts.{head_reads, scan_at}
use Rattle.store_image.specs.Facts.{KeepsRules}
use Rattle.recover.specs.declared.types.RecoverError.{RecoverError}
use Rattle.recover.specs.declared.types.RecoverError.TheVariants as errors
use Rattle.recover.specs.Logs.{tail_behind, log_tail}
use Rattle.recover.specs.Heads.{AreHeads, HasHeads, tail_there}
use Rattle.recover.proofs.LogLaws.{HasBelow, EndsBefore}

-- the tail of a chunk whose head is in the list
pub tail_at : (heads : List Head) (n : ℕ) (d : Head) (t : Option ℕ) → n < length heads → t ≡ tail_behind (Ok (get_or heads n d)) → t ≡ tail_there (slice_get heads n)
tail_at heads n d t lt is = is ∙ sym (ap tail_there (slice_get-get_or heads n d lt))

pub fits_chunk : (l : Geometry) (n : ℕ) (h : Head) (t : Option ℕ) → n < l.chunks → FitsHead l h → t ≡ tail_behind (Ok h) → IfSome t (λ tail. IsChunkOf l (chunk_with n tail))
fits_chunk l n h t lt fits is = subst (λ (o : Option ℕ). IfSome o (λ tail. IsChunkOf l (chunk_with n tail))) (sym is) (by h fits) where
  by : (h : Head) → FitsHead l h → IfSome (tail_behind (Ok h)) (λ tail. IsChunkOf l (chunk_with n tail))
  by Free fits = tt
  by (Log tail) fits = record { within = lt; whole = fits.0; fits = fits.1 }
  by (Data class) fits = tt

-- all chunks
pub all_tails : (heads : List Head) (n : ℕ) (cs : List LogChunk) → length heads ≤ n → HasBelow (λ j. tail_there (slice_get heads j)) n cs → EndsBefore n cs → (j : ℕ) → tail_of cs j ≡ tail_there (slice_get heads j)
all_tails heads n cs le has ends j = elim (ltb j n) as (λ b. ltb j n ≡ b → tail_of cs j ≡ tail_there (slice_get heads j)) [
  | true ↦ λ e. has j (ltb-true j n e)
  | false ↦ λ e. (let past = ltb-false j n e in ends j past ∙ sym (ap tail_there (slice_get_past heads j (omega (arith, le, past)))))
] refl

-- by an image with these heads
module _ (l : Geometry) (image : ℕ → ℕ) (c : ℕ) (heads : List Head) (count : length heads ≡ l.chunks) (are : AreHeads l image c heads) where
  pub has_head : (j : ℕ) → j < l.chunks → (h : Head) × (slice_get heads j ≡ Some h) × (head_at l image (chunk_first l c j) ≡ Ok h)
  has_head j lt = (get_or heads j Free, slice_get-get_or heads j Free (omega (arith, lt, count)), are j Free lt)

  pub logs_of : (cs : List LogChunk) → ((j : ℕ) → tail_of cs j ≡ tail_there (slice_get heads j)) → (j : ℕ) → tail_of cs j ≡ log_tail l image c j
  logs_of cs tails j = tails j ∙ (elim (ltb j l.chunks) as (λ b. ltb j l.chunks ≡ b → tail_there (slice_get heads j) ≡ cond b (tail_behind (head_at l image (chunk_first l c j))) None) [
    | true ↦ λ e. (let h = has_head j (ltb-true j l.chunks e) in ap tail_there h.1 ∙ ap tail_behind (sym h.2))
    | false ↦ λ e. (let past = ltb-false j l.chunks e in ap tail_there (slice_get_past heads j (omega (arith, count, past))))
  ] refl)

-- no head is broken where no rule is
pub heads_kept : (l : Geometry) (image : ℕ → ℕ) (c : ℕ) → KeepsRules l image → c < l.cores → (e : RecoverError) → HasHeads l image c (Err e) → e ≡ errors.Memory
heads_kept l image c kept lt (errors.Fault fault) bad =
    let at = chunk_first l c bad.chunk in
    absurd (cc (sym (ap (λ head. head_reads head (scan_at l image at)) bad.broken) ∙ kept.reads c bad.chunk lt bad.within))
heads_kept l image c kept lt errors.Memory bad = refl
