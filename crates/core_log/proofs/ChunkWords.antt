-- What the words of one chunk of a log say, to a reader of images.
use Rattle.std.proofs.Common.{◌≡◌, inl, inr, ℕ, ◌+◌, ◌%◌, ◌≤◌, List, [], ◌∷◌, length, map, refl, ◌∙◌, sym, ap, arith, ◌==◌, ◌&&◌, nat_le, true, false, Bool, cond, Result, Ok, Err}
use Rattle.log_entry.specs.declared.entry.Entry.{Entry}
use Rattle.log_entry.specs.Spelling.{words_of}
use Rattle.log_entry.specs.Batches.{Scan, scan_of, SpellsBatches}
use Rattle.log_entry.proofs.Clients.{scan_spelled}
use Rattle.chunk_map.specs.declared.layouts.Geometry.{Geometry}
use Rattle.chunk_map.specs.declared.heads.Head.{Head}
use Rattle.chunk_map.specs.declared.heads.Head.TheVariants.{Free, Log, Data}
use Rattle.chunk_map.specs.Layouts.{chunk_first, payload_words, head_at, head_by}
use Rattle.store_image.specs.declared.types.PlacedEntry.{PlacedEntry}
use Rattle.store_image.specs.Parts.{chunk_entries, chunk_reads, scan_behind, scan_at, head_reads, placed_in_chunk}
use Rattle.core_log.specs.Chunk.{HasLog, FreeOrEmpty}
use Rattle.core_log.specs.Entries.{with_places}
use Rattle.core_log.proofs.BatchLaws.{head_of}

-- a chunk with a log's words reads well
pub log_reads_well : (l : Geometry) (image : ℕ → ℕ) (at tail : ℕ) (ws : List ℕ) (bs : List (List Entry)) → tail % 8 ≡ 0 → tail ≤ payload_words l → HasLog at tail ws image → SpellsBatches ws bs → chunk_reads l image at ≡ true
log_reads_well l image at tail ws bs whole fits has spelled =
    let head : head_at l image at ≡ Ok (Log tail) = (λ i. head_by l (has.0 i) (has.1 i)) ∙ head_of l tail whole fits in
    let scan : scan_at l image at ≡ scan_of ws = ap (scan_behind image at) head ∙ ap scan_of has.2 in
    (λ i. head_reads (head i) (scan i)) ∙ ap (λ (s : Scan). s.whole) (scan_spelled ws bs spelled)

-- no log is a data chunk, nor is a free chunk
pub log_not_data : (l : Geometry) (image : ℕ → ℕ) (at class : ℕ) → image at ≡ 1 → head_at l image at ≡ Ok (Data class) → ⊥
log_not_data l image at class is e = by_tail (image (at + 1) % 8 == 0 && nat_le (image (at + 1)) (payload_words l)) (ap (λ k. head_by l k (image (at + 1))) (sym is) ∙ e) where
  by_tail : (b : Bool) → cond {A = Result Head ℕ} b (Ok (Log (image (at + 1)))) (Err 5) ≡ Ok (Data class) → ⊥
  by_tail true q = cc q
  by_tail false q = cc q

pub free_not_data : (l : Geometry) (image : ℕ → ℕ) (at class : ℕ) → image at ≡ 0 → head_at l image at ≡ Ok (Data class) → ⊥
free_not_data l image at class is e = not_free (head_at l image at) (ap (λ k. head_by l k (image (at + 1))) is) e where
  not_free : (r : Result Head ℕ) → r ≡ Ok Free → r ≡ Ok (Data class) → ⊥
  not_free r f d = cc (sym f ∙ d)

-- a free chunk reads well, and has no entries
pub free_reads_well : (l : Geometry) (image : ℕ → ℕ) (at : ℕ) → image at ≡ 0 → chunk_reads l image at ≡ true
free_reads_well l image at is = (λ i. head_reads (head_by l (is i) (image (at + 1))) (scan_behind image at (head_by l (is i) (image (at + 1)))))

pub free_has_none : (l : Geometry) (image : ℕ → ℕ) (c j : ℕ) → image (chunk_first l c j) ≡ 0 → chunk_entries l image c j ≡ []
free_has_none l image c j is = (λ i. placed_in_chunk c j (scan_behind image (chunk_first l c j) (head_by l (is i) (image (chunk_first l c j + 1)))).entries)

empty_reads_well : (l : Geometry) (image : ℕ → ℕ) (at : ℕ) → image at ≡ 1 → image (at + 1) ≡ 0 → chunk_reads l image at ≡ true
empty_reads_well l image at kind tail = log_reads_well l image at 0 [] [] (omega arith) (omega arith) (kind, tail, refl) (record { words = refl; each = tt })

pub free_or_empty_reads : (l : Geometry) (image : ℕ → ℕ) (at : ℕ) → FreeOrEmpty at image → chunk_reads l image at ≡ true
free_or_empty_reads l image at (inl is) = free_reads_well l image at is
free_or_empty_reads l image at (inr is) = empty_reads_well l image at is.0 is.1

-- the entries of a batch in their places
pub placed_entries : (c j place : ℕ) (es : List Entry) → map (λ (x : PlacedEntry). x.entry) (placed_in_chunk c j (with_places place es)) ≡ es
placed_entries c j place [] = refl
placed_entries c j place (e ∷ es) = ap (λ (xs : List Entry). e ∷ xs) (placed_entries c j (place + length (words_of e)) es)

-- the same of any entries with places
pub placed_all : (c j : ℕ) (xs : List (ℕ × Entry)) → map (λ (x : PlacedEntry). x.entry) (placed_in_chunk c j xs) ≡ map (λ (x : ℕ × Entry). x.1) xs
placed_all c j [] = refl
placed_all c j (x ∷ xs) = ap (λ (es : List Entry). x.1 ∷ es) (placed_all c j xs)
