-- What a chunk says depends on its own words alone.
use Rattle.std.proofs.Common.{◌≡◌, ◌⊎◌, inl, inr, ℕ, zero, suc, ◌+◌, ◌/◌, ◌%◌, ◌<◌, ◌≤◌, List, ◌++◌, length, refl, sym, ◌∙◌, ap, arith, ◌==◌, ◌&&◌, true, false, Bool, cond, Result, Ok, Err, leb, []}
use Rattle.std.proofs.lemmas.Bool.{and_parts, eqb-true, leb-true}
use Rattle.std.specs.List.{flat_map}
use Rattle.log_entry.specs.declared.entry.Entry.{Entry}
use Rattle.log_entry.specs.Words.{words_from}
use Rattle.log_entry.specs.Batches.{Scan, scan_of, SpellsBatches, IsBatch, batch_words}
use Rattle.log_entry.proofs.Clients.{words_same, words_append, scan-append, entries_from}
use Rattle.chunk_map.specs.declared.layouts.Geometry.{Geometry}
use Rattle.chunk_map.specs.declared.heads.Head.{Head}
use Rattle.chunk_map.specs.declared.heads.Head.TheVariants.{Free, Log, Data}
use Rattle.chunk_map.specs.Layouts.{numbers, chunk_words, chunk_first, payload_words, head_by, head_at, is_class}
use Rattle.store_image.specs.Parts.{payload, scan_behind, scan_at, placed_in_chunk, chunk_entries, part_entries, chunk_reads, head_reads}

-- which way a choice went
pub chosen : {X : Type 0} (b : Bool) (x y z : X) → cond b x y ≡ z → ((b ≡ true) × (x ≡ z)) ⊎ ((b ≡ false) × (y ≡ z))
chosen true x y z e = inl (refl, e)
chosen false x y z e = inr (refl, e)

-- a log's tail lies in the payload
pub tail_within : (l : Geometry) (kind tail t : ℕ) → head_by l kind tail ≡ Ok (Log t) → (kind ≡ 1) × (tail ≡ t) × (t % 8 ≡ 0) × (t ≤ payload_words l)
tail_within l kind tail t e = elim (chosen (kind == 0) _ _ _ e) [
  | inl p ↦ cc (p.1)
  | inr p ↦ elim (chosen (kind == 1) _ _ _ p.1) [
    | inl q ↦ elim (chosen (tail % 8 == 0 && leb tail (payload_words l)) _ _ _ q.1) [
      | inl r ↦
          let same : tail ≡ t = cc (r.1) in
          let both = and_parts (tail % 8 == 0) (leb tail (payload_words l)) r.0 in
          let whole : tail % 8 ≡ 0 = eqb-true (tail % 8) 0 both.0 in
          let within : tail ≤ payload_words l = leb-true tail (payload_words l) both.1 in
          (eqb-true kind 1 q.0, same, ap (λ n. n % 8) (sym same) ∙ whole, omega (arith, same, within))
      | inr r ↦ cc (r.1)
    ]
    | inr q ↦ elim (chosen (kind % 256 == 2 && is_class l (kind / 256)) _ _ _ q.1) [
      | inl r ↦ cc (r.1)
      | inr r ↦ cc (r.1)
    ]
  ]
]

module _ (l : Geometry) (i j : ℕ → ℕ) (at : ℕ) (room : 32 ≤ chunk_words l) (same : (k : ℕ) → k < chunk_words l → i (at + k) ≡ j (at + k)) where
  pub head_same : head_at l i at ≡ head_at l j at
  head_same =
      let z : at + 0 ≡ at = omega arith in
      let first : i at ≡ j at = ap i (sym z) ∙ same 0 (omega (arith, room)) ∙ ap j z in
      let second : i (at + 1) ≡ j (at + 1) = same 1 (omega (arith, room)) in
      (λ t. head_by l (first t) (second t))

  behind_same : (h : Result Head ℕ) → head_at l j at ≡ h → scan_behind i at h ≡ scan_behind j at h
  behind_same (Ok Free) e = refl
  behind_same (Ok (Log t)) e =
      let within = tail_within l (j at) (j (at + 1)) t e in
      ap scan_of (words_same i j (at + 32) t (λ k lt.
      let q : at + 32 + k ≡ at + (32 + k) = omega arith in
      let less : 32 + k < chunk_words l = let w = within.3 in omega (arith, w, lt) in
      ap i q ∙ same (32 + k) less ∙ ap j (sym q)))
  behind_same (Ok (Data c)) e = refl
  behind_same (Err r) e = refl

  -- two images with the same words in a chunk say the same there
  pub scan_same : scan_at l i at ≡ scan_at l j at
  scan_same = ap (scan_behind i at) head_same ∙ behind_same (head_at l j at) refl

  pub reads_same : chunk_reads l i at ≡ chunk_reads l j at
  reads_same = let h = head_same in let s = scan_same in (λ t. head_reads (h t) (s t))

pub chunk_same : (l : Geometry) (i j : ℕ → ℕ) (c n : ℕ) → 32 ≤ chunk_words l → ((k : ℕ) → k < chunk_words l → i (chunk_first l c n + k) ≡ j (chunk_first l c n + k)) → chunk_entries l i c n ≡ chunk_entries l j c n
chunk_same l i j c n room same = ap (λ (s : Scan). placed_in_chunk c n s.entries) (scan_same l i j (chunk_first l c n) room same)

-- a list over numbers that agrees at each
pub over_numbers : {X : Type 0} (f g : ℕ → List X) (from n : ℕ) → ((k : ℕ) → from ≤ k → k < from + n → f k ≡ g k) → flat_map f (numbers from n) ≡ flat_map g (numbers from n)
over_numbers f g from zero same = refl
over_numbers f g from (suc n) same =
    let first : f from ≡ g from = same from (omega arith) (omega arith) in
    let rest : flat_map f (numbers (suc from) n) ≡ flat_map g (numbers (suc from) n) = over_numbers f g (suc from) n (λ k low high. same k (omega (arith, low)) (omega (arith, high))) in
    (λ t. first t ++ rest t)

-- The same words in a part, the same entries. So a write outside a part changes none of them.
pub part_same : (l : Geometry) (i j : ℕ → ℕ) (c : ℕ) → 32 ≤ chunk_words l → ((n k : ℕ) → n < l.chunks → k < chunk_words l → i (chunk_first l c n + k) ≡ j (chunk_first l c n + k)) → part_entries l i c ≡ part_entries l j c
part_same l i j c room same = over_numbers (λ n. chunk_entries l i c n) (λ n. chunk_entries l j c n) 0 l.chunks (λ n low high. chunk_same l i j c n room (λ k. same n k (omega (arith, high))))

-- A chunk whose tail goes past one more batch has exactly its entries more.
pub appended : (l : Geometry) (i j : ℕ → ℕ) (at t : ℕ) (bs : List (List Entry)) (es : List Entry)
    → head_at l i at ≡ Ok (Log t) → head_at l j at ≡ Ok (Log (t + length (batch_words es)))
    → SpellsBatches (payload i at t) bs → IsBatch es
    → ((k : ℕ) → k < t → j (at + 32 + k) ≡ i (at + 32 + k))
    → words_from j (at + 32 + t) (length (batch_words es)) ≡ batch_words es
    → scan_at l j at ≡ record { entries = (scan_at l i at).entries ++ entries_from (length (payload i at t)) es; whole = true }
appended l i j at t bs es old new spelled is same added =
    let words : payload j at (t + length (batch_words es)) ≡ payload i at t ++ batch_words es =
    words_append j (at + 32) t (length (batch_words es)) ∙ (let front = words_same j i (at + 32) t same in (λ x. front x ++ added x)) in
    ap (scan_behind j at) new ∙ ap scan_of words ∙ scan-append (payload i at t) bs es spelled is
    ∙ ap (λ h. record { entries = (scan_behind i at h).entries ++ entries_from (length (payload i at t)) es; whole = true }) (sym old)

-- A free chunk has no entries, nor has a data chunk, nor a log without a tail.
pub free_entries : (l : Geometry) (image : ℕ → ℕ) (c n : ℕ) → head_at l image (chunk_first l c n) ≡ Ok Free → chunk_entries l image c n ≡ []
free_entries l image c n e = ap (λ h. placed_in_chunk c n (scan_behind image (chunk_first l c n) h).entries) e

pub data_entries : (l : Geometry) (image : ℕ → ℕ) (c n class : ℕ) → head_at l image (chunk_first l c n) ≡ Ok (Data class) → chunk_entries l image c n ≡ []
data_entries l image c n class e = ap (λ h. placed_in_chunk c n (scan_behind image (chunk_first l c n) h).entries) e

pub empty_entries : (l : Geometry) (image : ℕ → ℕ) (c n : ℕ) → head_at l image (chunk_first l c n) ≡ Ok (Log 0) → chunk_entries l image c n ≡ []
empty_entries l image c n e = ap (λ h. placed_in_chunk c n (scan_behind image (chunk_first l c n) h).entries) e
