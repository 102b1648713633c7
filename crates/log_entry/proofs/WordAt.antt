-- The word that stands at a place of some bytes.
use Rattle.std.proofs.Common.{◌≡◌, ℕ, suc, ◌+◌, ◌-◌, ◌*◌, ◌<◌, List, [], ◌∷◌, ◌++◌, take, drop, get_or, get_or-take, get_or-drop, sym, ◌∙◌, ap, arith, append_assoc}
use Rattle.std.proofs.lemmas.List.{drop-drop}
use Rattle.std.specs.Int.{w64, from_le_bytes}
use Rattle.log_entry.specs.Words.{packed_in}

-- a byte of the word's eight
pub byte_there : (xs : List ℕ) (at i : ℕ) → i < 8 → get_or (take 8 (drop at xs)) i 0 ≡ get_or xs (at + i) 0
byte_there xs at i lt = get_or-take 8 (drop at xs) i 0 lt ∙ get_or-drop at xs i 0

-- the words of the bytes from the i-th word on: that word, and those from the next on
packed_next : (n i : ℕ) (xs : List ℕ) → i < n → packed_in (n - i) (drop (8 * i) xs) ≡ from_le_bytes w64 (take 8 (drop (8 * i) xs)) ∷ packed_in (n - (i + 1)) (drop (8 * (i + 1)) xs)
packed_next n i xs lt =
    let e : n - i ≡ suc (n - (i + 1)) = omega (arith, lt) in
    let k : 8 * i + 8 ≡ 8 * (i + 1) = omega arith in
    let d : drop 8 (drop (8 * i) xs) ≡ drop (8 * (i + 1)) xs = drop-drop 8 (8 * i) xs ∙ ap (λ k. drop k xs) k in
    ap (λ m. packed_in m (drop (8 * i) xs)) e ∙ ap (λ ys. from_le_bytes w64 (take 8 (drop (8 * i) xs)) ∷ packed_in (n - (i + 1)) ys) d

-- one word more is written
pub written_next : (n i : ℕ) (xs ws : List ℕ) → i < n → (ws ++ from_le_bytes w64 (take 8 (drop (8 * i) xs)) ∷ []) ++ packed_in (n - (i + 1)) (drop (8 * (i + 1)) xs) ≡ ws ++ packed_in (n - i) (drop (8 * i) xs)
written_next n i xs ws lt = append_assoc ws (from_le_bytes w64 (take 8 (drop (8 * i) xs)) ∷ []) (packed_in (n - (i + 1)) (drop (8 * (i + 1)) xs)) ∙ ap (λ ys. ws ++ ys) (sym (packed_next n i xs lt))
