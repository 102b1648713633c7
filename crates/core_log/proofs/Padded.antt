-- A list of words with zeros up to a line's end.
use Rattle.std.proofs.Common.{◌≡◌, ℕ, zero, suc, ◌*◌, List, [], ◌∷◌, ◌++◌, length, get_or, replicate, refl, arith, length-append}
use Rattle.std.proofs.lemmas.List.{length-replicate}
use Rattle.pm_region.specs.Words.{lines_for}
use Rattle.log_entry.specs.Batches.{padding}
use Rattle.core_log.specs.Chunk.{padded}

zeros_at : (n j : ℕ) → get_or (replicate {A = ℕ} n 0) j 0 ≡ 0
zeros_at zero j = refl
zeros_at (suc n) zero = refl
zeros_at (suc n) (suc j) = zeros_at n j

-- zeros behind a list are what is read behind its end
with_zeros_at : (xs : List ℕ) (n j : ℕ) → get_or (xs ++ replicate n 0) j 0 ≡ get_or xs j 0
with_zeros_at [] n j = zeros_at n j
with_zeros_at (x ∷ xs) n zero = refl
with_zeros_at (x ∷ xs) n (suc j) = with_zeros_at xs n j

pub padded_at : (xs : List ℕ) (j : ℕ) → get_or (padded xs) j 0 ≡ get_or xs j 0
padded_at xs j = with_zeros_at xs (padding (length xs)) j

pub length-padded : (xs : List ℕ) → length (padded xs) ≡ 8 * lines_for (length xs)
length-padded xs =
    let a = length-append xs (replicate (padding (length xs)) 0) in
    let b = length-replicate {A = ℕ} (padding (length xs)) 0 in
    omega (arith, a, b)
