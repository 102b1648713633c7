-- The words of a block, and what they hold.
use Rattle.std.proofs.Common.{◌≡◌, ℕ, zero, suc, ◌+◌, ◌-◌, ◌*◌, ◌≤◌, ◌<◌, List, length, take, drop, get_or, replicate, refl, sym, ◌∙◌, ap, arith}
use Rattle.std.specs.Int.{w64, from_le_bytes}
use Rattle.std.proofs.lemmas.List.{drop-drop, take_at}
use Rattle.log_entry.specs.Words.{words_for, packed_in, packed, unpacked, words_from}
use Rattle.log_entry.proofs.Clients.{AreBytes, unpacked-packed, length-packed_in, words_list}
use Rattle.lazy_alloc.specs.Written.{block_words, HoldsValue}

packed_at : (n k : ℕ) (xs : List ℕ) → k < n → get_or (packed_in n xs) k 0 ≡ from_le_bytes w64 (take 8 (drop (8 * k) xs))
packed_at zero k xs lt = absurd (omega arith)
packed_at (suc n) zero xs lt = let e : 0 ≡ 8 * 0 = omega arith in ap (λ (m : ℕ). from_le_bytes w64 (take 8 (drop m xs))) e
packed_at (suc n) (suc k) xs lt = let e : 8 * k + 8 ≡ 8 * suc k = omega arith in let f : 8 + 8 * k ≡ 8 * suc k = omega arith in packed_at n k (drop 8 xs) (omega arith) ∙ ap (λ (ys : List ℕ). from_le_bytes w64 (take 8 ys)) (drop-drop (8 * k) 8 xs ∙ ap (λ (m : ℕ). drop m xs) f)

-- a word behind the length
pub word_behind : (value : List ℕ) (at : ℕ) → 1 ≤ at → at ≤ words_for (length value) → get_or (block_words value) at 0 ≡ from_le_bytes w64 (take 8 (drop (8 * (at - 1)) value))
word_behind value zero some le = absurd (omega arith)
word_behind value (suc k) some le = let e : k ≡ suc k - 1 = omega arith in packed_at (words_for (length value)) k value (omega arith) ∙ ap (λ (m : ℕ). from_le_bytes w64 (take 8 (drop (8 * m) value))) e

-- an image with these words holds the value
pub holds_value : (image : ℕ → ℕ) (p : ℕ) (value : List ℕ) → AreBytes value → ((j : ℕ) → j < 1 + words_for (length value) → image (32 * p + j) ≡ get_or (block_words value) j 0) → HoldsValue p value image
holds_value image p value are words =
    let n = length value in
    let z : 32 * p ≡ 32 * p + 0 = omega arith in
    let size : image (32 * p) ≡ n = ap image z ∙ words 0 (omega arith) in
    let long = length-packed_in (words_for n) value in
    let read : words_from image (32 * p + 1) (words_for n) ≡ packed value = ap (λ (m : ℕ). words_from image (32 * p + 1) m) (sym long) ∙ words_list image (32 * p + 1) (packed value) (λ k lt. let e : 32 * p + 1 + k ≡ 32 * p + suc k = omega arith in ap image e ∙ words (suc k) (omega (arith, lt, long))) in
    let zeros = replicate {A = ℕ} (8 * words_for n - n) 0 in (
      size,
      ap (λ (m : ℕ). take m (unpacked (words_from image (32 * p + 1) (words_for m)))) size ∙ ap (λ (ws : List ℕ). take n (unpacked ws)) read ∙ ap (take n) (unpacked-packed value are) ∙ take_at value zeros n refl,
    )
