-- Two images with the same words say the same of what an input may ask.
use Rattle.std.proofs.Common.{◌≡◌, ℕ, zero, suc, ◌+◌, ◌*◌, ◌/◌, ◌<◌, ◌≤◌, refl, sym, ◌∙◌, ap, arith, subst, Bool, cond, List, None}
use Rattle.std.specs.List.{count_by}
use Rattle.std.proofs.lemmas.List.Sums.{sum_by-cons}
use Rattle.fs_model.specs.declared.model.Request.{Request}
use Rattle.chunk_map.specs.declared.layouts.Geometry.{Geometry}
use Rattle.chunk_map.specs.Layouts.{numbers, layout_of, superblock_rule, total_bytes, chunk_first, head_at}
use Rattle.chunk_map.specs.Chunks.{is_free}
use Rattle.store_image.specs.Winners.{winner, winner_in}
use Rattle.store_image.proofs.Clients.{entries_agree, head_same, Numbers, layout_numbers, superblock_facts, in_region, chunk_number}
use Rattle.headline.specs.Ample.{IsAmpleFor, free_chunks}
use Rattle.headline.specs.Limits.{version_in, version_of}

abbrev once : Bool → ℕ
once b = cond b 1 0

-- over numbers on which two tests agree
counted_same : (f g : ℕ → Bool) (from n : ℕ) → ((k : ℕ) → from ≤ k → k < from + n → f k ≡ g k) → count_by f (numbers from n) ≡ count_by g (numbers from n)
counted_same f g from zero same = refl
counted_same f g from (suc n) same =
    let first = ap once (same from (omega arith) (omega arith)) in
    let rest = counted_same f g (suc from) n (λ k low high. same k (omega (arith, low)) (omega (arith, high))) in
    let a = sum_by-cons (λ k. once (f k)) from (numbers (suc from) n) in
    let b = sum_by-cons (λ k. once (g k)) from (numbers (suc from) n) in
    omega (arith, first, rest, a, b)

module _ (bytes : ℕ) (i j : ℕ → ℕ) (same : (w : ℕ) → w < bytes / 8 → i w ≡ j w) (sound : superblock_rule bytes j ≡ None) where
  abbrev l : Geometry
  l = layout_of j

  pub is : Numbers l
  is = layout_numbers l (superblock_facts bytes j sound).1

  pub layout_agrees : layout_of i ≡ l
  layout_agrees =
      let low = (superblock_facts bytes j sound).0 in
      let a = same 2 (omega (arith, low)) in
      let b = same 3 (omega (arith, low)) in
      let c = same 4 (omega (arith, low)) in
      let d = same 5 (omega (arith, low)) in
      (λ t. record { cores = a t; group = b t; chunks = c t; chunk_bytes = d t })

  same_words : (w : ℕ) → w < total_bytes l / 8 → i w ≡ j w
  same_words w lt = let total = (superblock_facts bytes j sound).2 in same w (omega (arith, total, lt))

  head_agrees : (c k : ℕ) → c < l.cores → k < l.chunks → head_at l i (chunk_first l c k) ≡ head_at l j (chunk_first l c k)
  head_agrees c k core lt = head_same l i j (chunk_first l c k) (let s = is.size in omega (arith, s))
      (λ m less. same_words (chunk_first l c k + m) (in_region l is (c * l.chunks + k) m (chunk_number l is c k core lt) less))

  winner_agrees : (k : ℕ) → winner l i k ≡ winner l j k
  winner_agrees k = ap (winner_in k) (entries_agree l is i j same_words)

  -- a key's last version,
  pub version_agrees : (k : ℕ) → version_of i k ≡ version_of j k
  version_agrees k = ap (λ m. version_in (winner m i k)) layout_agrees ∙ ap version_in (winner_agrees k)

  -- and the room that a part has
  free_agrees : (c : ℕ) → c < l.cores → free_chunks l i c ≡ free_chunks l j c
  free_agrees c core = counted_same (λ k. is_free (head_at l i (chunk_first l c k))) (λ k. is_free (head_at l j (chunk_first l c k))) 0 l.chunks
      (λ k low high. ap is_free (head_agrees c k core (omega (arith, high))))

  pub ample_agrees : (trace : List Request) (c : ℕ) → c < l.cores → IsAmpleFor (layout_of j) j trace c → IsAmpleFor (layout_of i) i trace c
  ample_agrees trace c core ample = subst (λ m. IsAmpleFor m i trace c) (sym layout_agrees) (let f = free_agrees c core in omega (arith, f, ample))
