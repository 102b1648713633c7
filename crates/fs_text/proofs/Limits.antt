-- Past the bytes that an input may have nothing matters.
use Rattle.std.proofs.Common.{◌≡◌, ℕ, zero, suc, ◌+◌, ◌-◌, ◌<◌, ◌≤◌, ◌⊎◌, inl, inr, Bool, true, false, List, [], ◌∷◌, ◌++◌, length, take, drop, Result, Ok, Err, refl, ap, ◌∙◌, cond, arith}
use Rattle.std.specs.Prelude.{nat_le, ◌==◌}
use Rattle.std.proofs.lemmas.Bool.{cond-false}
use Rattle.std.proofs.lemmas.Grind.{common_steps}
use Rattle.std.proofs.lemmas.List.{length-drop, length-take-le}
use Rattle.fs_text.specs.declared.line.Line.{Line}
use Rattle.fs_text.specs.declared.line.Line.TheVariants.{Ask, Go}
use Rattle.fs_text.specs.Input.{Before, lines_of, on_front, size_with, line_at, line_by, count_line, counted, with_line, with_front, lines_from, input_of, cut}
use Rattle.fs_text.proofs.FirstBytes.{IsFirstAt, IsMissing, lines_at, lines_missing}

pub guarded : {A : Type 0} (b : Bool) (r : Result A ℕ) (e : ℕ) (y : A) → cond b r (Err e) ≡ Ok y → (b ≡ true) × (r ≡ Ok y)
guarded true r e y h = (refl, h)
guarded false r e y h = cc

with_line_bytes : (b : Before) (size : ℕ) (line : Line) → (with_line b size line).bytes ≡ b.bytes + size
with_line_bytes b size (Ask q) = refl
with_line_bytes b size (Go core turns) = refl

pub counted_ok : (b : Before) (line : Line) (y : Line × Before) → counted b line ≡ Ok y → y ≡ (line, b)
counted_ok b line y h =
    let one = guarded (nat_le b.requests 1000000) (cond (nat_le b.turns 16777216) (Ok (line, b)) (Err 9)) 8 y h in
    let two = guarded (nat_le b.turns 16777216) (Ok (line, b)) 9 y one.1 in cc two.1

count_line_ok : (b : Before) (size : ℕ) (r : Result Line ℕ) (y : Line × Before) → count_line b size r ≡ Ok y → y.1.bytes ≡ b.bytes + size
count_line_ok b size (Ok line) y h = ap (λ (z : Line × Before). z.1.bytes) (counted_ok (with_line b size line) line y h) ∙ with_line_bytes b size line
count_line_ok b size (Err rule) y h = cc

pub le_true : (m n : ℕ) → nat_le m n ≡ true → m ≤ n
le_true m n h = grind (arith, common_steps)

pub gt_false : (m n : ℕ) → n < m → nat_le m n ≡ false
gt_false m n h = grind (arith, common_steps)

-- a line that breaks no rule lies within the limit
pub line_at_ok : (cores : ℕ) (b : Before) (x : List ℕ × Bool) (y : Line × Before) → line_at cores b x ≡ Ok y
    → (y.1.bytes ≡ b.bytes + size_with x) × (b.bytes + size_with x ≤ 67108864)
line_at_ok cores b x y h =
    let said = line_by cores (cut x.0) in
    let inner = cond (nat_le (length x.0) 1048640) (count_line b (size_with x) said) (Err 2) in
    let one = guarded (nat_le (b.bytes + size_with x) 67108864) inner 1 y h in
    let two = guarded (nat_le (length x.0) 1048640) (count_line b (size_with x) said) 2 y one.1 in
    (count_line_ok b (size_with x) said y two.1, le_true (b.bytes + size_with x) 67108864 one.0)

-- a line past the limit breaks the first rule
pub breaks_first : (cores : ℕ) (b : Before) (x : List ℕ × Bool) → 67108864 < b.bytes + size_with x → line_at cores b x ≡ Err 1
breaks_first cores b x h = cond-false (nat_le (b.bytes + size_with x) 67108864) _ (Err 1) (gt_false (b.bytes + size_with x) 67108864 h)

pub goes_on : (cores number : ℕ) (b : Before) (x : List ℕ × Bool) (xs : List (List ℕ × Bool)) (y : Line × Before)
    → line_at cores b x ≡ Ok y → lines_from cores number b (x ∷ xs) ≡ with_front y.0 (lines_from cores (number + 1) y.1 xs)
goes_on cores number b x xs y e = rw (lines_from, e) refl

pub breaks : (cores number : ℕ) (b : Before) (x : List ℕ × Bool) (xs : List (List ℕ × Bool)) (rule : ℕ)
    → line_at cores b x ≡ Err rule → lines_from cores number b (x ∷ xs) ≡ Err (number, rule)
breaks cores number b x xs rule e = rw (lines_from, e) refl

pub ok_no_error : {A B : Type 0} (x : A) (y : B) → Ok x ≡ Err y → ⊥
ok_no_error x y h = cc

-- the first line of a text whose front has no newline is no shorter than that
pub long_line : (b : ℕ) (p rest : List ℕ) → IsMissing 10 p
    → (x : List ℕ × Bool) × (xs : List (List ℕ × Bool)) × (on_front b (lines_of (p ++ rest)) ≡ x ∷ xs) × (suc (length p) ≤ size_with x)
long_line b [] rest h = on_rest (lines_of rest)
  where
    on_rest : (ls : List (List ℕ × Bool)) → (x : List ℕ × Bool) × (xs : List (List ℕ × Bool)) × (on_front b ls ≡ x ∷ xs) × (1 ≤ size_with x)
    on_rest [] = ((b ∷ [], false), [], refl, omega arith)
    on_rest (l ∷ ls) = ((b ∷ l.0, l.1), ls, refl, omega arith)
long_line b (c ∷ p) rest h =
    let (x, xs, e, size) = long_line c p rest h.1 in
    ((b ∷ x.0, x.1), xs, rw (h.0, e) refl, omega arith)

pub first_or_missing : (a : ℕ) (xs : List ℕ) → ((k : ℕ) × IsFirstAt a xs k) ⊎ IsMissing a xs
first_or_missing a [] = inr tt
first_or_missing a (x ∷ xs) = at_head (first_or_missing a xs) (x == a) refl
  where
    in_rest : (((k : ℕ) × IsFirstAt a xs k) ⊎ IsMissing a xs) → (x == a) ≡ false → ((k : ℕ) × IsFirstAt a (x ∷ xs) k) ⊎ IsMissing a (x ∷ xs)
    in_rest (inl (k, h)) e = inl (suc k, (e, h))
    in_rest (inr h) e = inr (e, h)

    at_head : (((k : ℕ) × IsFirstAt a xs k) ⊎ IsMissing a xs) → (b : Bool) → (x == a) ≡ b → ((k : ℕ) × IsFirstAt a (x ∷ xs) k) ⊎ IsMissing a (x ∷ xs)
    at_head later true e = inl (0, e)
    at_head later false e = in_rest later e

pub first_below : (a : ℕ) (xs : List ℕ) (k : ℕ) → IsFirstAt a xs k → k < length xs
first_below a [] k h = absurd h
first_below a (x ∷ xs) zero h = omega arith
first_below a (x ∷ xs) (suc k) h = omega (arith, first_below a xs k h.1)

-- what follows a text changes nothing of its first lines
pub first_append : (a : ℕ) (xs rest : List ℕ) (k : ℕ) → IsFirstAt a xs k
    → IsFirstAt a (xs ++ rest) k × (take k (xs ++ rest) ≡ take k xs) × (drop (suc k) (xs ++ rest) ≡ drop (suc k) xs ++ rest)
first_append a [] rest k h = absurd h
first_append a (x ∷ xs) rest zero h = (h, refl, refl)
first_append a (x ∷ xs) rest (suc k) h =
    let (first, front, back) = first_append a xs rest k h.1 in
    ((h.0, first), ap (λ ys. x ∷ ys) front, back)

-- With more behind it the text stops the reading in the same way.
abbrev BothStop : ℕ → ℕ → Before → List ℕ → List ℕ → Type 0
BothStop cores number b p rest = (e : ℕ × ℕ)
    × (lines_from cores number b (lines_of (p ++ rest)) ≡ Err e) × (lines_from cores number b (lines_of p) ≡ Err e)

in_long_line : (cores number : ℕ) (b : Before) (p rest : List ℕ) → 0 < length p → IsMissing 10 p → 67108864 < b.bytes + length p
    → BothStop cores number b p rest
in_long_line cores number b [] rest some h big = absurd (omega arith)
in_long_line cores number b (c ∷ p) rest some h big =
    let (x, xs, e, size) = long_line c p rest h.1 in
    let all : lines_of ((c ∷ p) ++ rest) ≡ x ∷ xs = rw h.0 e in
    let over : 67108864 < b.bytes + size_with x = omega arith in
    let alone : 67108864 < b.bytes + size_with (c ∷ p, false) = omega arith in (
      (number, 1),
      ap (λ ls. lines_from cores number b ls) all ∙ breaks cores number b x xs 1 (breaks_first cores b x over),
      ap (λ ls. lines_from cores number b ls) (lines_missing c p h) ∙ breaks cores number b (c ∷ p, false) [] 1 (breaks_first cores b (c ∷ p, false) alone),
    )

behind_first_line : (cores number : ℕ) (b : Before) (p rest : List ℕ) (k : ℕ) → IsFirstAt 10 p k → 67108864 < b.bytes + length p
    → ((c : Before) → c.bytes ≤ 67108864 → 67108864 < c.bytes + length (drop (suc k) p) → BothStop cores (number + 1) c (drop (suc k) p) rest)
    → BothStop cores number b p rest
behind_first_line cores number b p rest k h big again =
    elim (line_at cores b x) as (λ r. line_at cores b x ≡ r → BothStop cores number b p rest) [
      | Ok y ↦ λ e. good y e
      | Err rule ↦ λ e. ((number, rule), longer ∙ breaks cores number b x (lines_of (drop (suc k) p ++ rest)) rule e, alone ∙ breaks cores number b x (lines_of (drop (suc k) p)) rule e)
    ] refl
  where
    x : List ℕ × Bool
    x = (take k p, true)

    longer : lines_from cores number b (lines_of (p ++ rest)) ≡ lines_from cores number b (x ∷ lines_of (drop (suc k) p ++ rest))
    longer =
        let (first, front, back) = first_append 10 p rest k h in
        let parts : lines_of (p ++ rest) ≡ x ∷ lines_of (drop (suc k) p ++ rest) = lines_at (p ++ rest) k first ∙ (rw (front, back) refl) in
        ap (λ ls. lines_from cores number b ls) parts

    alone : lines_from cores number b (lines_of p) ≡ lines_from cores number b (x ∷ lines_of (drop (suc k) p))
    alone = ap (λ ls. lines_from cores number b ls) (lines_at p k h)

    good : (y : Line × Before) → line_at cores b x ≡ Ok y → BothStop cores number b p rest
    good y e =
        let sizes = line_at_ok cores b x y e in
        let below = first_below 10 p k h in
        let size : length (take k p) ≡ k = length-take-le k p (omega arith) in
        let left : length (drop (suc k) p) ≡ length p - suc k = length-drop (suc k) p in
        let (stop, long, short) = again y.1 (omega arith) (omega arith) in (
          stop,
          longer ∙ goes_on cores number b x (lines_of (drop (suc k) p ++ rest)) y e ∙ ap (λ r. with_front y.0 r) long,
          alone ∙ goes_on cores number b x (lines_of (drop (suc k) p)) y e ∙ ap (λ r. with_front y.0 r) short,
        )

over_in : (n : ℕ) (cores number : ℕ) (b : Before) (p rest : List ℕ) → length p ≤ n → b.bytes ≤ 67108864 → 67108864 < b.bytes + length p
    → BothStop cores number b p rest
over_in zero cores number b p rest small within big = absurd (omega arith)
over_in (suc n) cores number b p rest small within big =
    elim (first_or_missing 10 p) [
      | inl (k, h) ↦ behind_first_line cores number b p rest k h big
          (λ c cw cb. over_in n cores (number + 1) c (drop (suc k) p) rest (omega (arith, length-drop (suc k) p, first_below 10 p k h)) cw cb)
      | inr h ↦ in_long_line cores number b p rest (omega arith) h big
    ]

-- A text that is too long breaks a rule, and what follows it doesn't matter.
pub over : (cores : ℕ) (p rest : List ℕ) → 67108864 < length p
    → (e : ℕ × ℕ) × (input_of cores (p ++ rest) ≡ Err e) × (input_of cores p ≡ Err e)
unfolding input_of
over cores p rest big =
    over_in (length p) cores 1 (record { bytes = 0; requests = 0; turns = 0 }) p rest (omega arith) (omega arith) (omega arith)
