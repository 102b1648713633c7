-- Words among the bytes of a file.
use Rattle.std.proofs.Common.{◌≡◌, ◌⊎◌, ⊎_elim, ℕ, zero, suc, ◌+◌, ◌-◌, ◌*◌, ◌^◌, ◌≤◌, ◌<◌, List, ◌++◌, length, get_or, take, drop, refl, sym, ◌∙◌, ap, arith, length-drop}
use Rattle.std.proofs.lemmas.List.{get_or-take, get_or-drop, length-take-le, get_or-append-add, get_or_append_left}
use borrow.Rule.Slice.PartMut.{put_mid}
use Rattle.std.specs.Int.{bytes_low_first}
use Rattle.byteorder.specs.Endian.{little_number, little_from}
use Rattle.byteorder.specs.Numbers.{little_number-reads_back}
use Rattle.pm_region.specs.Bytes.{word_at}

-- n bytes from one place are those from another
little_same : (n i : ℕ) (xs ys : List ℕ) → ((j : ℕ) → i ≤ j → j < i + n → get_or xs j 0 ≡ get_or ys j 0) → little_from i n xs ≡ little_from i n ys
little_same zero i xs ys same = refl
little_same (suc n) i xs ys same =
    let first = same i (omega arith) (omega arith) in
    let rest = little_same n (suc i) xs ys (λ j low high. same j (omega arith) (omega arith)) in
    rw (first, rest) refl

-- the word at one place is the word at another where its bytes are
pub word_same : (xs ys : List ℕ) (k m : ℕ) → ((j : ℕ) → j < 8 → get_or xs (8 * k + j) 0 ≡ get_or ys (8 * m + j) 0) → word_at xs k ≡ word_at ys m
word_same xs ys k m same =
    little_same 8 0 (drop (8 * k) xs) (drop (8 * m) ys) (λ j low high. get_or-drop (8 * k) xs j 0 ∙ same j (omega arith) ∙ sym (get_or-drop (8 * m) ys j 0))

-- some bytes xs with ys from the place a on, in the place of k of them
pub put_inner : (a k j : ℕ) (xs ys : List ℕ) → a ≤ length xs → j < length ys → get_or (put_mid a k xs ys) (a + j) 0 ≡ get_or ys j 0
put_inner a k j xs ys fits lt =
    let n : length (take a xs) ≡ a = length-take-le a xs fits in
    ap (λ (m : ℕ). get_or (put_mid a k xs ys) (m + j) 0) (sym n) ∙ get_or-append-add (take a xs) (ys ++ drop k (drop a xs)) j 0 ∙ get_or_append_left ys (drop k (drop a xs)) 0 j lt

pub put_below : (a k j : ℕ) (xs ys : List ℕ) → a ≤ length xs → j < a → get_or (put_mid a k xs ys) j 0 ≡ get_or xs j 0
put_below a k j xs ys fits lt =
    let n : length (take a xs) ≡ a = length-take-le a xs fits in
    get_or_append_left (take a xs) (ys ++ drop k (drop a xs)) 0 j (omega arith) ∙ get_or-take a xs j 0 lt

pub put_above : (a k j : ℕ) (xs ys : List ℕ) → a ≤ length xs → length ys ≡ k → a + k ≤ j → get_or (put_mid a k xs ys) j 0 ≡ get_or xs j 0
put_above a k j xs ys fits len ge =
    let n : length (take a xs) ≡ a = length-take-le a xs fits in
    let m = j - (a + k) in
    let e : j ≡ length (take a xs) + (length ys + m) = omega arith in
    let f : a + (k + m) ≡ j = omega arith in
    ap (λ (i : ℕ). get_or (put_mid a k xs ys) i 0) e ∙ get_or-append-add (take a xs) (ys ++ drop k (drop a xs)) (length ys + m) 0 ∙ get_or-append-add ys (drop k (drop a xs)) m 0
    ∙ get_or-drop k (drop a xs) m 0 ∙ get_or-drop a xs (k + m) 0 ∙ ap (λ (i : ℕ). get_or xs i 0) f

-- words from the place `first` on are those of ys
pub word_inner : (first m k : ℕ) (xs ys : List ℕ) → 8 * first ≤ length xs → 8 * k + 8 ≤ length ys → word_at (put_mid (8 * first) m xs ys) (first + k) ≡ word_at ys k
word_inner first m k xs ys fits lt =
    word_same (put_mid (8 * first) m xs ys) ys (first + k) k (λ j lt'.
    let e : 8 * (first + k) + j ≡ 8 * first + (8 * k + j) = omega arith in
    ap (λ (i : ℕ). get_or (put_mid (8 * first) m xs ys) i 0) e ∙ put_inner (8 * first) m (8 * k + j) xs ys fits (omega arith))

-- and the others stay
pub word_outer : (first m k : ℕ) (xs ys : List ℕ) → 8 * first ≤ length xs → length ys ≡ m → (k < first) ⊎ (8 * first + m ≤ 8 * k) → word_at (put_mid (8 * first) m xs ys) k ≡ word_at xs k
word_outer first m k xs ys fits len out =
    word_same (put_mid (8 * first) m xs ys) xs k k (λ j lt.
    ⊎_elim (λ low. put_below (8 * first) m (8 * k + j) xs ys fits (omega arith)) (λ high. put_above (8 * first) m (8 * k + j) xs ys fits len (omega arith)) out)

-- the words from a place on
pub word_part : (from m k : ℕ) (xs : List ℕ) → 8 * k + 8 ≤ m → word_at (take m (drop (8 * from) xs)) k ≡ word_at xs (from + k)
word_part from m k xs lt =
    word_same (take m (drop (8 * from) xs)) xs k (from + k) (λ j lt'.
    let e : 8 * from + (8 * k + j) ≡ 8 * (from + k) + j = omega arith in
    get_or-take m (drop (8 * from) xs) (8 * k + j) 0 (omega arith) ∙ get_or-drop (8 * from) xs (8 * k + j) 0 ∙ ap (λ (i : ℕ). get_or xs i 0) e)

-- the length of a part
pub length_mid : (a k : ℕ) (xs : List ℕ) → a + k ≤ length xs → length (take k (drop a xs)) ≡ k
length_mid a k xs fits = length-take-le k (drop a xs) (omega (arith, length-drop a xs))

-- a word was written
pub word_set : (place m value : ℕ) (xs ys rest : List ℕ) → 8 * place + 8 ≤ length xs → value < 2 ^ 64 → 8 ≤ length ys → ys ≡ bytes_low_first 0 8 value ++ rest → word_at (put_mid (8 * place) m xs ys) place ≡ value
word_set place m value xs ys rest fits small len is =
    let e : place ≡ place + 0 = omega arith in
    ap (λ (k : ℕ). word_at (put_mid (8 * place) m xs ys) k) e ∙ word_inner place m 0 xs ys (omega arith) (omega arith)
    ∙ ap (little_number 8) is ∙ little_number-reads_back 8 value rest (omega arith)
