-- The first line of a text, and the first word of a line, by the place of the byte that ends them.
use Rattle.std.proofs.Common.{◌≡◌, ℕ, zero, suc, ◌+◌, ◌<◌, Bool, true, false, List, [], ◌∷◌, length, take, drop, Some, None, refl, sym, ap, ◌∙◌, ◌-◌, arith, add-one}
use Rattle.std.proofs.lemmas.List.{take_rest, drop_all}
use Rattle.std.specs.Prelude.{◌==◌}
use Rattle.memchr.specs.Find.{Nowhere, NoneBefore, Passes, is_byte}
use Rattle.fs_text.specs.Input.{lines_of, cut}

-- the byte first stands at this place
abbrev pub IsFirstAt : ℕ → List ℕ → ℕ → Type 0
IsFirstAt a [] k = ⊥
IsFirstAt a (x ∷ xs) zero = (x == a) ≡ true
IsFirstAt a (x ∷ xs) (suc k) = ((x == a) ≡ false) × IsFirstAt a xs k

abbrev pub IsMissing : ℕ → List ℕ → Type 0
IsMissing a [] = Unit {0}
IsMissing a (x ∷ xs) = ((x == a) ≡ false) × IsMissing a xs

not_true : (b : Bool) → (b ≡ true → ⊥) → b ≡ false
not_true true h = absurd (h refl)
not_true false h = refl

pub first_at : (a : ℕ) (xs : List ℕ) (k : ℕ) → k < length xs → Nowhere (Passes (is_byte a) xs) 0 k → Passes (is_byte a) xs k → IsFirstAt a xs k
first_at a [] k h n p = absurd (omega arith)
first_at a (x ∷ xs) zero h n p = p
first_at a (x ∷ xs) (suc k) h n p = (
  not_true (x == a) (n 0 (omega arith) (omega arith)),
  first_at a xs k (omega arith) (λ i low high. n (suc i) (omega arith) (omega arith)) p,
)

pub missing : (a : ℕ) (xs : List ℕ) → Nowhere (Passes (is_byte a) xs) 0 (length xs) → IsMissing a xs
missing a [] n = tt
missing a (x ∷ xs) n = (
  not_true (x == a) (n 0 (omega arith) (omega arith)),
  missing a xs (λ i low high. n (suc i) (omega arith) (omega arith)),
)

pub lines_at : (xs : List ℕ) (k : ℕ) → IsFirstAt 10 xs k → lines_of xs ≡ (take k xs, true) ∷ lines_of (drop (suc k) xs)
lines_at [] k h = absurd h
lines_at (x ∷ xs) zero h = rw h refl
lines_at (x ∷ xs) (suc k) h = rw (h.0, lines_at xs k h.1) refl

pub lines_missing : (x : ℕ) (xs : List ℕ) → IsMissing 10 (x ∷ xs) → lines_of (x ∷ xs) ≡ (x ∷ xs, false) ∷ []
lines_missing x [] h = rw h.0 refl
lines_missing x (y ∷ xs) h = rw (h.0, lines_missing y xs h.1) refl

pub cut_at : (xs : List ℕ) (k : ℕ) → IsFirstAt 32 xs k → cut xs ≡ (take k xs, Some (drop (suc k) xs))
cut_at [] k h = absurd h
cut_at (x ∷ xs) zero h = rw h refl
cut_at (x ∷ xs) (suc k) h = rw (h.0, cut_at xs k h.1) refl

pub cut_missing : (xs : List ℕ) → IsMissing 32 xs → cut xs ≡ (xs, None)
cut_missing [] h = refl
cut_missing (x ∷ xs) h = rw (h.0, cut_missing xs h.1) refl

-- the same of what a search for the byte answers
pub lines_found : (xs : List ℕ) (k : ℕ) → NoneBefore (Passes (is_byte 10) xs) 0 (length xs) k → Passes (is_byte 10) xs k
    → lines_of xs ≡ (take k xs, true) ∷ lines_of (take (length xs - (k + 1)) (drop (k + 1) xs))
lines_found xs k n p =
    let none : Nowhere (Passes (is_byte 10) xs) 0 k = n.before in
    let e : take (length xs - (k + 1)) (drop (k + 1) xs) ≡ drop (suc k) xs = take_rest xs (k + 1) ∙ ap (λ i. drop i xs) (add-one k) in
    rw e (lines_at xs k (first_at 10 xs k n.high none p))

pub lines_unfound : (xs : List ℕ) → 0 < length xs → Nowhere (Passes (is_byte 10) xs) 0 (length xs)
    → lines_of xs ≡ (xs, false) ∷ lines_of (take (length xs - length xs) (drop (length xs) xs))
lines_unfound [] h n = absurd (omega arith)
lines_unfound (x ∷ xs) h n =
    let e : take (length (x ∷ xs) - length (x ∷ xs)) (drop (length (x ∷ xs)) (x ∷ xs)) ≡ [] =
    take_rest (x ∷ xs) (length (x ∷ xs)) ∙ drop_all (length (x ∷ xs)) (x ∷ xs) (omega arith) in
    rw e (lines_missing x xs (missing 10 (x ∷ xs) n))

pub cut_found : (xs : List ℕ) (k : ℕ) → NoneBefore (Passes (is_byte 32) xs) 0 (length xs) k → Passes (is_byte 32) xs k
    → (take k xs, Some (take (length xs - (k + 1)) (drop (k + 1) xs))) ≡ cut xs
cut_found xs k n p =
    let none : Nowhere (Passes (is_byte 32) xs) 0 k = n.before in
    let e : take (length xs - (k + 1)) (drop (k + 1) xs) ≡ drop (suc k) xs = take_rest xs (k + 1) ∙ ap (λ i. drop i xs) (add-one k) in
    rw e (sym (cut_at xs k (first_at 32 xs k n.high none p)))
