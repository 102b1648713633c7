-- Bytes that are read page by page.
use Rattle.std.proofs.Common.{◌≡◌, ℕ, zero, suc, ◌+◌, ◌*◌, ◌<◌, min, List, ◌∷◌, length, get_or, take, drop, refl, sym, ◌∙◌, ap, arith, length-take, length-drop}
use Rattle.std.proofs.lemmas.List.{get_or-take, get_or-drop, ext_get_or}
use Rattle.pm_region.specs.Bytes.{word_at}
use Rattle.pm_region.proofs.Clients.{word_same}
use Rattle.region_file.specs.Calls.{Call, gave, AreReads}
use Rattle.region_file.specs.Reads.{reads_of}

-- they change nothing
pub reads_are : (bytes : List ℕ) (n : ℕ) → AreReads (reads_of bytes n)
reads_are bytes zero = tt
reads_are bytes (suc n) = reads_are bytes n

part_same : (xs ys : List ℕ) (low n : ℕ) → length xs ≡ length ys → ((k : ℕ) → k < low + n → get_or xs k 0 ≡ get_or ys k 0) → take n (drop low xs) ≡ take n (drop low ys)
part_same xs ys low n long same =
    let here = length-take n (drop low xs) in
    let there = length-take n (drop low ys) in
    let xs_left = length-drop low xs in
    let ys_left = length-drop low ys in
    ext_get_or 0 (take n (drop low xs)) (take n (drop low ys)) (omega arith) (λ k lt.
    let below : k < n = omega arith in
    get_or-take n (drop low xs) k 0 below ∙ get_or-drop low xs k 0 ∙ same (low + k) (omega arith) ∙ sym (get_or-drop low ys k 0) ∙ sym (get_or-take n (drop low ys) k 0 below))

-- the reads of the first n pages, whatever comes in behind them
pub reads_same : (xs ys : List ℕ) (n : ℕ) → length xs ≡ length ys → ((k : ℕ) → k < 32768 * n → get_or xs k 0 ≡ get_or ys k 0) → reads_of xs n ≡ reads_of ys n
reads_same xs ys zero long same = refl
reads_same xs ys (suc n) long same =
    let page = part_same xs ys (32768 * n) 32768 long (λ k lt. same k (omega arith)) in
    ap (λ (l : List ℕ). gave (32768 * n) l ∷ reads_of xs n) page ∙ ap (λ (calls : List Call). gave (32768 * n) (take 32768 (drop (32768 * n) ys)) ∷ calls) (reads_same xs ys n long (λ k lt. same k (omega arith)))

-- as many as there are, or as many as are left
pub take_left : (m n : ℕ) (xs : List ℕ) → m ≡ min n (length xs) → take m xs ≡ take n xs
take_left m n xs is =
    let here = length-take m xs in
    let there = length-take n xs in
    ext_get_or 0 (take m xs) (take n xs) (omega arith) (λ k lt. get_or-take m xs k 0 (omega arith) ∙ sym (get_or-take n xs k 0 (omega arith)))

pub next_read : (bytes : List ℕ) (n m : ℕ) → suc n ≡ m → gave (32768 * n) (take 32768 (drop (32768 * n) bytes)) ∷ reads_of bytes n ≡ reads_of bytes m
next_read bytes n m is = ap (reads_of bytes) is

eight_zeros : (ys : List ℕ) → word_at ys 0 ≡ 0 → (j : ℕ) → j < 8 → get_or ys j 0 ≡ 0
eight_zeros ys none zero lt = omega arith
eight_zeros ys none (suc zero) lt = omega arith
eight_zeros ys none (suc (suc zero)) lt = omega arith
eight_zeros ys none (suc (suc (suc zero))) lt = omega arith
eight_zeros ys none (suc (suc (suc (suc zero)))) lt = omega arith
eight_zeros ys none (suc (suc (suc (suc (suc zero))))) lt = omega arith
eight_zeros ys none (suc (suc (suc (suc (suc (suc zero)))))) lt = omega arith
eight_zeros ys none (suc (suc (suc (suc (suc (suc (suc zero))))))) lt = omega arith
eight_zeros ys none (suc (suc (suc (suc (suc (suc (suc (suc j)))))))) lt = absurd (omega arith)

-- a word is 0 only where each of its bytes is
pub zero_bytes : (xs : List ℕ) (place : ℕ) → word_at xs place ≡ 0 → (j : ℕ) → j < 8 → get_or xs (8 * place + j) 0 ≡ 0
zero_bytes xs place none j lt =
    let ys = drop (8 * place) xs in
    let same : word_at ys 0 ≡ word_at xs place = word_same ys xs 0 place (λ i lt'. let at : 8 * 0 + i ≡ i = omega arith in ap (λ (k : ℕ). get_or ys k 0) at ∙ get_or-drop (8 * place) xs i 0) in
    sym (get_or-drop (8 * place) xs j 0) ∙ eight_zeros ys (same ∙ none) j lt
