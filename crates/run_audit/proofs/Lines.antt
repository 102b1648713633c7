-- The lines of a text that is made of lines.
use Rattle.std.proofs.Common.{◌≡◌, ℕ, zero, suc, ◌+◌, ◌-◌, ◌≤◌, Bool, true, false, List, [], ◌∷◌, ◌++◌, length, take, drop, refl, ap, ◌∙◌, arith, add-one}
use Rattle.std.specs.Prelude.{◌==◌}
use Rattle.std.specs.List.{sum_by}
use Rattle.std.proofs.lemmas.List.Sums.{sum_by-cons}
use Rattle.std.proofs.lemmas.Bool.{eqb-true, eqb-false, ne_eqb}
use Rattle.std.proofs.lemmas.List.{take_rest, drop_all}
use Rattle.memchr.specs.Find.{Nowhere, NoneBefore, Passes, is_byte}
use Rattle.fs_text.specs.Input.{lines_of, on_front, size_with}
use Rattle.fs_text.specs.Output.{ended}
use Rattle.fs_text.proofs.FirstBytes.{IsFirstAt, IsMissing, first_at, missing}
use Rattle.run_audit.specs.Parting.{HasNoNewline}

front_size : (b : ℕ) (ls : List (List ℕ × Bool)) → sum_by size_with (on_front b ls) ≡ 1 + sum_by size_with ls
front_size b [] = refl
front_size b (l ∷ ls) = omega (arith, sum_by-cons size_with l ls, sum_by-cons size_with (b ∷ l.0, l.1) ls)

-- the lines take all bytes of a text
pub sizes_of_lines : (bs : List ℕ) → sum_by size_with (lines_of bs) ≡ length bs
sizes_of_lines [] = refl
sizes_of_lines (b ∷ bs) = by_test (sizes_of_lines bs) (b == 10) refl
  where
    by_test : sum_by size_with (lines_of bs) ≡ length bs → (t : Bool) → (b == 10) ≡ t → sum_by size_with (lines_of (b ∷ bs)) ≡ length (b ∷ bs)
    by_test h true e = rw e (omega (arith, sum_by-cons size_with ([], true) (lines_of bs)))
    by_test h false e = rw e (omega (arith, front_size b (lines_of bs)))

many : (b n : ℕ) (ls : List (List ℕ × Bool)) → length ls ≤ n → length (on_front b ls) ≤ suc n
many b n [] h = omega arith
many b n (l ∷ ls) h = omega arith

-- a text has no more lines than bytes
pub lines_few : (bs : List ℕ) → length (lines_of bs) ≤ length bs
lines_few [] = omega arith
lines_few (b ∷ bs) = by_test (lines_few bs) (b == 10) refl
  where
    by_test : length (lines_of bs) ≤ length bs → (t : Bool) → (b == 10) ≡ t → length (lines_of (b ∷ bs)) ≤ length (b ∷ bs)
    by_test h true e = rw e (omega arith)
    by_test h false e = rw e (many b (length bs) (lines_of bs) h)

-- A line with its newline in front of a text.
pub lines_of_line : (line more : List ℕ) → HasNoNewline line → lines_of (ended line ++ more) ≡ (line, true) ∷ lines_of more
lines_of_line [] more h = refl
lines_of_line (b ∷ bs) more h = rw (ne_eqb b 10 h.0, lines_of_line bs more h.1) refl

no_newline_before : (xs : List ℕ) (k : ℕ) → IsFirstAt 10 xs k → HasNoNewline (take k xs)
no_newline_before [] k h = absurd h
no_newline_before (x ∷ xs) zero h = tt
no_newline_before (x ∷ xs) (suc k) h = (eqb-false x 10 h.0, no_newline_before xs k h.1)

no_newline : (xs : List ℕ) → IsMissing 10 xs → HasNoNewline xs
no_newline [] h = tt
no_newline (x ∷ xs) h = (eqb-false x 10 h.0, no_newline xs h.1)

parted_at : (xs : List ℕ) (k : ℕ) → IsFirstAt 10 xs k → xs ≡ ended (take k xs) ++ drop (suc k) xs
parted_at [] k h = absurd h
parted_at (x ∷ xs) zero h = ap (λ b. b ∷ xs) (eqb-true x 10 h)
parted_at (x ∷ xs) (suc k) h = ap (λ l. x ∷ l) (parted_at xs k h.1)

-- the same of what a search for the newline answers
pub line_found : (xs : List ℕ) (k : ℕ) → NoneBefore (Passes (is_byte 10) xs) 0 (length xs) k → Passes (is_byte 10) xs k
    → xs ≡ ended (take k xs) ++ take (length xs - (k + 1)) (drop (k + 1) xs)
line_found xs k n p =
    let none : Nowhere (Passes (is_byte 10) xs) 0 k = n.before in
    let e : take (length xs - (k + 1)) (drop (k + 1) xs) ≡ drop (suc k) xs = take_rest xs (k + 1) ∙ ap (λ i. drop i xs) (add-one k) in
    rw e (parted_at xs k (first_at 10 xs k n.high none p))

pub short_found : (xs : List ℕ) (k : ℕ) → NoneBefore (Passes (is_byte 10) xs) 0 (length xs) k → Passes (is_byte 10) xs k → HasNoNewline (take k xs)
short_found xs k n p = let none : Nowhere (Passes (is_byte 10) xs) 0 k = n.before in no_newline_before xs k (first_at 10 xs k n.high none p)

pub short_unfound : (xs : List ℕ) → Nowhere (Passes (is_byte 10) xs) 0 (length xs) → HasNoNewline xs
short_unfound xs n = no_newline xs (missing 10 xs n)

pub rest_unfound : (xs : List ℕ) → take (length xs - length xs) (drop (length xs) xs) ≡ []
rest_unfound xs = take_rest xs (length xs) ∙ drop_all (length xs) xs (omega arith)
